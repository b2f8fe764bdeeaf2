-- Laws of the matrix and of what the steps do to it, place by place. Assumes nothing.
use Prim.Native.Nat.{◌+◌, ◌<◌, ◌≤◌, max, suc, zero, ℕ}
use mathlib.Core.Bool.{cond, not}
use mathlib.Core.Logic.{◌≢◌, ◌⊎◌, inl, inr}
use mathlib.Core.Path.{◌∙◌, ◌≡◌, ap, refl}
use native.Mathlib.Decide.{dec_le, ℕ_discrete}
use native.Mathlib.Nat.{not-suc-le-zero}
use native.Mathlib.Numerals.{add-one}
use native.Mathlib.Omega.{arith}
use mir.Val.{bool_byte}
use borrow.Author.Tests.{ne_eqb}
use lib.Dec.{eqb, ltb, ltb→lt, lt→ltb, nltb→le}
use Rattle.matrix.specs.Matrix.{Matrix, clear, largest, merge, non_zero, only}
use Rattle.wire.proofs.Tests.{cond_elim, cond_no, cond-other, cond_same, cond_yes, le→nltb}

-- the largest: it is one of the numbers, and none has more
pub largest-lt : (k : ℕ) (g : ℕ → ℕ) → largest (suc k) g < suc k
largest-lt zero g = cond_elim (λ (z : ℕ). z < 1) (ltb (g 0) (g 0)) 0 0 (λ t. omega arith) (λ t. omega arith)
largest-lt (suc k) g =
    cond_elim (λ (z : ℕ). z < suc (suc k)) (ltb (g (largest (suc k) g)) (g (suc k))) (suc k) (largest (suc k) g)
    (λ t. omega arith) (λ t. omega (arith, largest-lt k g))

pub largest-le : (k : ℕ) (g : ℕ → ℕ) (x : ℕ) → x < k → g x ≤ g (largest k g)
largest-le zero g x h = absurd (not-suc-le-zero h)
largest-le (suc k) g x h =
    cond_elim (λ (z : ℕ). g x ≤ g z) (ltb (g (largest k g)) (g k)) k (largest k g) (λ t. yes-case (largest-le k g x) (ltb→lt (g (largest k g)) (g k) t)
    (ℕ_discrete x k)) (λ t. no-case (largest-le k g x) (nltb→le (g (largest k g)) (g k) t) (ℕ_discrete x k))
  where
    yes-case : (x < k → g x ≤ g (largest k g)) → g (largest k g) < g k → Dec (x ≡ k) → g x ≤ g k
    yes-case ih l (yes e) = rw e (omega arith)
    yes-case ih l (no e) = omega (arith, ih (omega arith))

    no-case : (x < k → g x ≤ g (largest k g)) → g k ≤ g (largest k g) → Dec (x ≡ k) → g x ≤ g (largest k g)
    no-case ih l (yes e) = rw e l
    no-case ih l (no e) = ih (omega arith)

-- a column cleared, a column alone, and a merge, place by place
pub clear-mine : (i j : ℕ) (m : Matrix) → clear i j m i j ≡ suc (m i j)
unfolding clear
clear-mine i j m = cond_same j (cond (eqb i i) (suc (m i j)) 0) (m i j) ∙ cond_same i (suc (m i j)) 0

pub clear-gone : (i j : ℕ) (m : Matrix) (x : ℕ) → x ≢ i → clear i j m x j ≡ 0
unfolding clear
clear-gone i j m x h = cond_same j (cond (eqb x i) (suc (m i j)) 0) (m x j) ∙ cond-other x i (suc (m i j)) 0 h

pub clear_keep : (i j : ℕ) (m : Matrix) (x y : ℕ) → y ≢ j → clear i j m x y ≡ m x y
unfolding clear
clear_keep i j m x y h = cond-other y j (cond (eqb x i) (suc (m i j)) 0) (m x y) h

pub only_col : (l : ℕ) (m : Matrix) (x : ℕ) → only l m x l ≡ m x l
unfolding only
only_col l m x = cond_same l (m x l) 0

pub only_zero : (l : ℕ) (m : Matrix) (x y : ℕ) → y ≢ l → only l m x y ≡ 0
unfolding only
only_zero l m x y h = cond-other y l (m x y) 0 h

pub merge-own : (j : ℕ) (m e : Matrix) (x : ℕ) → merge j m e x j ≡ m x j
unfolding merge
merge-own j m e x = cond_same j (m x j) (max (m x j) (e x j))

pub merge-max : (j : ℕ) (m e : Matrix) (x y : ℕ) → y ≢ j → merge j m e x y ≡ max (m x y) (e x y)
unfolding merge
merge-max j m e x y h = cond-other y j (m x y) (max (m x y) (e x y)) h

-- each entry is one of the two
pub merge-from : (j : ℕ) (m e : Matrix) (x y : ℕ) → (merge j m e x y ≡ m x y) ⊎ (merge j m e x y ≡ e x y)
merge-from j m e x y = go (ℕ_discrete y j) (dec_le (e x y) (m x y))
  where
    go : Dec (y ≡ j) → Dec (e x y ≤ m x y) → (merge j m e x y ≡ m x y) ⊎ (merge j m e x y ≡ e x y)
    go (yes p) d = inl (rw p (merge-own j m e x))
    go (no p) (yes d) = inl (omega (arith, merge-max j m e x y p))
    go (no p) (no d) = inr (omega (arith, merge-max j m e x y p))

-- an entry that is merged with zero stays
pub merge-kept : (j : ℕ) (m e : Matrix) (x y : ℕ) → e x y ≡ 0 → merge j m e x y ≡ m x y
merge-kept j m e x y z = go (ℕ_discrete y j)
  where
    go : Dec (y ≡ j) → merge j m e x y ≡ m x y
    go (yes p) = rw p (merge-own j m e x)
    go (no p) = merge-max j m e x y p ∙ rw z (omega arith)

pub non_zero_le : (v : ℕ) → non_zero v ≤ 1
non_zero_le zero = omega arith
non_zero_le (suc v) = omega arith

pub non_zero-none : (v : ℕ) → v ≡ 0 → non_zero v ≡ 0
non_zero-none v e = rw e

pub non_zero-one : (v : ℕ) → (v ≡ 0 → ⊥) → non_zero v ≡ 1
non_zero-one zero h = absurd (h refl)
non_zero-one (suc v) h = refl

-- as the code counts it, a test as a number
pub non_zero_test : (v : ℕ) → bool_byte (not (eqb v 0)) ≡ non_zero v
non_zero_test v = go (ℕ_discrete v 0)
  where
    go : Dec (v ≡ 0) → bool_byte (not (eqb v 0)) ≡ non_zero v
    go (yes e) = rw e
    go (no e) = rw (ne_eqb v 0 e, non_zero-one v e)

-- one number more: a larger value is taken, and another is not
pub largest_first : (f : ℕ → ℕ) → largest 1 f ≡ 0
largest_first f = cond_elim (λ (z : ℕ). z ≡ 0) (ltb (f 0) (f 0)) 0 0 (λ _. refl) (λ _. refl)

pub largest_taken : (k : ℕ) (f : ℕ → ℕ) → f (largest k f) < f k → largest (k + 1) f ≡ k
largest_taken k f h = ap (λ (z : ℕ). largest z f) (add-one k) ∙ cond_yes (ltb (f (largest k f)) (f k)) k (largest k f) (lt→ltb (f (largest k f)) (f k) h)

pub largest_left : (k : ℕ) (f : ℕ → ℕ) → f k ≤ f (largest k f) → largest (k + 1) f ≡ largest k f
largest_left k f h = ap (λ (z : ℕ). largest z f) (add-one k) ∙ cond_no (ltb (f (largest k f)) (f k)) k (largest k f) (le→nltb (f (largest k f)) (f k) h)
