-- Laws of the sum f 0 + .. + f (k - 1). Assumes nothing.
use Prim.Native.Nat.{◌%◌, ◌*◌, ◌+◌, ◌-◌, ◌/◌, ◌<◌, ◌≤◌, suc, zero, ℕ}
use mathlib.Core.Bool.{cond}
use mathlib.Core.Logic.{◌≢◌}
use mathlib.Core.Path.{◌∙◌, ◌≡◌, ap, refl, sym}
use native.Mathlib.Decide.{dec_le, ℕ_discrete}
use native.Mathlib.Nat.{add-zero, mul-add, not-suc-le-zero}
use native.Mathlib.Numerals.{add-one}
use native.Mathlib.Omega.{arith}
use lib.Dec.{eqb}
use Rattle.matrix.specs.Matrix.{sum}
use Rattle.wire.proofs.Tests.{cond_elim, cond-other, cond_same}

-- one term more, in the form `k + 1` of the code
pub sum_more : (k : ℕ) (f : ℕ → ℕ) → sum (k + 1) f ≡ sum k f + f k
sum_more k f = rw add-one

-- the first term apart
pub sum_first : (k : ℕ) (f : ℕ → ℕ) → sum (suc k) f ≡ f 0 + sum k (λ i. f (suc i))
sum_first zero f = omega arith
sum_first (suc k) f = omega (arith, sum_first k f)

pub sum_ext : (k : ℕ) (f g : ℕ → ℕ) → ((x : ℕ) → f x ≡ g x) → sum k f ≡ sum k g
sum_ext zero f g h = refl
sum_ext (suc k) f g h = omega (arith, sum_ext k f g h, h k)

pub sum-at : (k : ℕ) (f : ℕ → ℕ) (x : ℕ) → x < k → f x ≤ sum k f
sum-at zero f x h = absurd (not-suc-le-zero h)
sum-at (suc k) f x h = go (sum-at k f x) (ℕ_discrete x k)
  where
    go : (x < k → f x ≤ sum k f) → Dec (x ≡ k) → f x ≤ sum (suc k) f
    go ih (yes e) = rw e (omega arith)
    go ih (no e) = omega (arith, ih (omega arith))

pub sum_ones : (k : ℕ) (f : ℕ → ℕ) → ((x : ℕ) → x < k → f x ≤ 1) → sum k f ≤ k
sum_ones zero f h = omega arith
sum_ones (suc k) f h = omega (arith, sum_ones k f (λ x l. h x (omega arith)), h k (omega arith))

pub sum-le : (k n : ℕ) (f : ℕ → ℕ) → ((x : ℕ) → x < k → f x ≤ 1) → ((x : ℕ) → n ≤ x → f x ≡ 0) → sum k f ≤ n
sum-le zero n f h z = omega arith
sum-le (suc k) n f h z = go (sum-le k n f (λ x l. h x (omega arith)) z) (dec_le n k)
  where
    go : sum k f ≤ n → Dec (n ≤ k) → sum (suc k) f ≤ n
    go ih (yes l) = omega (arith, z k l)
    go ih (no l) = omega (arith, sum_ones (suc k) f h)

-- one term changed
pub sum_change : (k l : ℕ) (f g : ℕ → ℕ) → l < k → ((y : ℕ) → y ≢ l → f y ≡ g y) → sum k f + g l ≡ sum k g + f l
sum_change zero l f g h e = absurd (not-suc-le-zero h)
sum_change (suc k) l f g h e = go (λ (q : l < k). sum_change k l f g q e) (ℕ_discrete k l)
  where
    same-below : (j : ℕ) → j ≤ l → sum j f ≡ sum j g
    same-below zero q = refl
    same-below (suc j) q = omega (arith, same-below j (omega arith), e j (omega arith))

    go : (l < k → sum k f + g l ≡ sum k g + f l) → Dec (k ≡ l) → sum (suc k) f + g l ≡ sum (suc k) g + f l
    go ih (yes q) = rw (← q) (omega (arith, same-below k (omega arith)))
    go ih (no q) = omega (arith, ih (omega arith), e k q)

pub sum-single : (k l : ℕ) (f : ℕ → ℕ) → ((y : ℕ) → y ≢ l → f y ≡ 0) → sum k f ≤ f l
sum-single zero l f e = omega arith
sum-single (suc k) l f e = go (sum-single k l f e) (ℕ_discrete k l)
  where
    none_below : (j : ℕ) → j ≤ l → sum j f ≡ 0
    none_below zero q = refl
    none_below (suc j) q = omega (arith, none_below j (omega arith), e j (omega arith))

    go : sum k f ≤ f l → Dec (k ≡ l) → sum (suc k) f ≤ f l
    go ih (yes q) = rw (← q) (omega (arith, none_below k (omega arith)))
    go ih (no q) = omega (arith, e k q)

-- two sums whose terms agree below k
pub sum_upto : (k : ℕ) (f g : ℕ → ℕ) → ((x : ℕ) → x < k → f x ≡ g x) → sum k f ≡ sum k g
sum_upto zero f g h = refl
sum_upto (suc k) f g h = omega (arith, sum_upto k f g (λ x l. h x (omega arith)), h k (omega arith))

-- a sum over places is a sum over rows of sums over columns
pub sum-part : (f : ℕ → ℕ) (a j : ℕ) → sum (a + j) f ≡ sum a f + sum j (λ y. f (a + y))
sum-part f a zero = omega (arith, ap (λ (z : ℕ). sum z f) (add-zero a))
sum-part f a (suc j) =
    let e : a + suc j ≡ suc (a + j) = omega arith in
    ap (λ (z : ℕ). sum z f) e ∙ omega (arith, sum-part f a j)

pub sum_rows : (g : ℕ → ℕ → ℕ) (a : ℕ) → sum (12 * a) (λ k. g (k / 12) (k % 12)) ≡ sum a (λ x. sum 12 (λ y. g x y))
sum_rows g zero = refl
sum_rows g (suc a) =
    let e : 12 * suc a ≡ 12 * a + 12 = omega arith in
    ap (λ (z : ℕ). sum z (λ k. g (k / 12) (k % 12))) e ∙ sum-part (λ k. g (k / 12) (k % 12)) (12 * a) 12
    ∙ omega (arith, sum_rows g a, sum_upto 12 (λ y. g ((12 * a + y) / 12) ((12 * a + y) % 12)) (λ y. g a y) (λ y h. cell y h))
  where
    cell : (y : ℕ) → y < 12 → g ((12 * a + y) / 12) ((12 * a + y) % 12) ≡ g a y
    cell y h = let r : (12 * a + y) / 12 ≡ a = omega arith in let c : (12 * a + y) % 12 ≡ y = omega arith in rw (r, c)

pub sum_add : (k : ℕ) (f g : ℕ → ℕ) → sum k (λ x. f x + g x) ≡ sum k f + sum k g
sum_add zero f g = refl
sum_add (suc k) f g = omega (arith, sum_add k f g)

pub sum-zero : (k : ℕ) → sum k (λ x. 0) ≡ 0
sum-zero zero = refl
sum-zero (suc k) = omega (arith, sum-zero k)

pub sum_swap : (a b : ℕ) (g : ℕ → ℕ → ℕ) → sum a (λ x. sum b (λ y. g x y)) ≡ sum b (λ y. sum a (λ x. g x y))
sum_swap zero b g = sym (sum-zero b)
sum_swap (suc a) b g = omega (arith, sum_swap a b g, sum_add b (λ y. sum a (λ x. g x y)) (λ y. g a y))

-- a sum of k terms of at most c, and one of which a term is zero
pub sum_bound : (k c : ℕ) (f : ℕ → ℕ) → ((x : ℕ) → x < k → f x ≤ c) → sum k f ≤ c * k
sum_bound zero c f h = omega arith
sum_bound (suc k) c f h = omega (arith, sum_bound k c f (λ x l. h x (omega arith)), h k (omega arith))

sum-short : (k c l : ℕ) (f : ℕ → ℕ) → l < k → f l ≡ 0 → ((x : ℕ) → x < k → f x ≤ c) → sum k f + c ≤ c * k
sum-short zero c l f h z b = absurd (omega arith)
sum-short (suc k) c l f h z b = go (λ (p : l < k). sum-short k c l f p z (λ x q. b x (omega arith))) (ℕ_discrete l k)
  where
    go : (l < k → sum k f + c ≤ c * k) → Dec (l ≡ k) → sum (suc k) f + c ≤ c * suc k
    go ih (yes e) = let q : f k ≡ 0 = ap f (sym e) ∙ z in omega (arith, sum_bound k c f (λ x p. b x (omega arith)))
    go ih (no e) = omega (arith, ih (omega arith), b k (omega arith))

pub sum_less : (k c l : ℕ) (f : ℕ → ℕ) → l < k → f l ≡ 0 → ((x : ℕ) → x < k → f x ≤ c) → sum k f ≤ c * k - c
sum_less k c l f h z b = omega (arith, sum-short k c l f h z b)

-- two terms of which are zero: with c in the place of one, the other is zero still
pub sum_less_two : (k c a b : ℕ) (f : ℕ → ℕ) → a < k → b < k → b ≢ a → f a ≡ 0 → f b ≡ 0 → ((x : ℕ) → x < k → f x ≤ c) → sum k f + c + c ≤ c * k
sum_less_two k c a b f ha hb ne za zb h =
    omega (
      arith,
      sum_change k a g f ha (λ y q. cond-other y a c (f y) q),
      cond_same a c (f a),
      sum-short k c b g hb (cond-other b a c (f b) ne ∙ zb) (λ x l. cond_elim (λ (z : ℕ). z ≤ c) (eqb x a) c (f x) (λ _. omega arith) (λ _. h x l)),
    )
  where
    g : ℕ → ℕ
    g x = cond (eqb x a) c (f x)

-- a sum is at most another with what its terms have above the other's
pub sum-above : (k : ℕ) (f g : ℕ → ℕ) → sum k f ≤ sum k g + sum k (λ x. f x - g x)
sum-above zero f g = omega arith
sum-above (suc k) f g = omega (arith, sum-above k f g)

pub sum_times : (k c : ℕ) (f : ℕ → ℕ) → sum k (λ x. c * f x) ≡ c * sum k f
sum_times zero c f = omega arith
sum_times (suc k) c f = omega (arith, sum_times k c f, mul-add c (sum k f) (f k))

-- a sum whose terms from n on are zero
pub sum-cut : (k n : ℕ) (f : ℕ → ℕ) → n ≤ k → ((x : ℕ) → n ≤ x → x < k → f x ≡ 0) → sum k f ≡ sum n f
sum-cut zero n f h z = let e : 0 ≡ n = omega arith in ap (λ (j : ℕ). sum j f) e
sum-cut (suc k) n f h z = go (λ (p : n ≤ k). sum-cut k n f p (λ x a b. z x a (omega arith))) (dec_le n k)
  where
    go : (n ≤ k → sum k f ≡ sum n f) → Dec (n ≤ k) → sum (suc k) f ≡ sum n f
    go ih (yes p) = omega (arith, ih p, z k p (omega arith))
    go ih (no p) = let e : suc k ≡ n = omega arith in ap (λ (j : ℕ). sum j f) e
