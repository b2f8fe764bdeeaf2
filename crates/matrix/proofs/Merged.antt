-- A merge of matrices that are zero outside the twelve rows and columns, or within a limit, is so too; and how many entries it adds. Assumes nothing.
use Prim.Native.Nat.{◌+◌, ◌-◌, ◌<◌, ◌≤◌, ℕ}
use mathlib.Core.List.{List}
use mathlib.Core.Logic.{◌≢◌, ⊎_elim}
use mathlib.Core.Path.{◌∙◌, ◌≡◌, ap}
use native.Mathlib.Decide.{ℕ_discrete}
use native.Mathlib.Omega.{arith}
use Rattle.matrix.proofs.Array.{entry-back}
use Rattle.matrix.proofs.Cleared.{Inside, inside-entry}
use Rattle.matrix.proofs.Matrix.{merge-from, merge-kept, merge-max, merge-own, non_zero_le}
use Rattle.matrix.proofs.Stores.{single_else, single-here}
use Rattle.matrix.proofs.Sums.{sum-above, sum_ext, sum_less_two}
use Rattle.matrix.specs.Array.{entry, flat}
use Rattle.matrix.specs.Matrix.{Matrix, column_count, count, merge, non_zero, single}

inside-merge : (j : ℕ) (m e : Matrix) → Inside m → Inside e → Inside (merge j m e)
inside-merge j m e p q x y h = merge-kept j m e x y (q x y h) ∙ p x y h

pub merge-limit : (j : ℕ) (m e : Matrix) (k : ℕ) → ((x y : ℕ) → m x y ≤ k) → ((x y : ℕ) → e x y ≤ k) → (x y : ℕ) → merge j m e x y ≤ k
merge-limit j m e k p q x y = ⊎_elim (λ a. omega (arith, a, p x y)) (λ a. omega (arith, a, q x y)) (merge-from j m e x y)

-- so the array of a merged matrix has that matrix
pub merge-back : (j : ℕ) (l : List ℕ) (e : Matrix) → Inside e → entry (flat (merge j (entry l) e)) ≡ merge j (entry l) e
merge-back j l e i = entry-back (merge j (entry l) e) (inside-merge j (entry l) e (inside-entry l) i)

-- a matrix with one entry is such a matrix
pub inside-single : (a b v : ℕ) → a < 12 → b < 12 → Inside (single a b v)
inside-single a b v p q x y h = single_else a b v x y (λ c d. h (omega arith) (omega arith))

pub single-limit : (a b v k : ℕ) → v ≤ k → (x y : ℕ) → single a b v x y ≤ k
single-limit a b v k h x y = go (ℕ_discrete x a) (ℕ_discrete y b)
  where
    go : Dec (x ≡ a) → Dec (y ≡ b) → single a b v x y ≤ k
    go (yes p) (yes q) = rw (p, q, single-here a b v) h
    go (yes p) (no q) = rw (single_else a b v x y (λ _ s. q s)) (omega arith)
    go (no p) d = rw (single_else a b v x y (λ s _. p s)) (omega arith)

-- a column that the merge leaves has as many entries
column-kept : (j : ℕ) (m e : Matrix) (y : ℕ) → ((x : ℕ) → merge j m e x y ≡ m x y) → column_count (merge j m e) y ≡ column_count m y
unfolding column_count
column-kept j m e y q = sum_ext 12 (λ x. non_zero (merge j m e x y)) (λ x. non_zero (m x y)) (λ x. ap non_zero (q x))

-- entries e from node k that claim no more of row j than stands there: new ones stand outside that row, the columns of both nodes, and the diagonal
module _ (j k : ℕ) (m e : Matrix) (hj : j < 12) (hk : k < 12) (apart : k ≢ j) (diagonal : (x : ℕ) → e x x ≡ 0) (own : (x : ℕ) → e x k ≡ 0)
    (claims : (y : ℕ) → y < 12 → e j y ≤ m j y) where
  -- at most ten in another column
  column-more : (y : ℕ) → y < 12 → y ≢ j → column_count (merge j m e) y ≤ column_count m y + 10
  unfolding column_count
  column-more y h ne =
      omega (
        arith,
        sum-above 12 (λ x. non_zero (merge j m e x y)) (λ x. non_zero (m x y)),
        sum_less_two 12 1 j y (λ x. non_zero (merge j m e x y) - non_zero (m x y)) hj h ne (same j row) (same y (merge-kept j m e y y (diagonal y)))
            (λ x _. omega (arith, non_zero_le (merge j m e x y))),
      )
    where
      row : merge j m e j y ≡ m j y
      row = omega (arith, merge-max j m e j y ne, claims y h)

      same : (x : ℕ) → merge j m e x y ≡ m x y → non_zero (merge j m e x y) - non_zero (m x y) ≡ 0
      same x q = omega (arith, ap non_zero q)

  -- so at most ten in each of ten
  pub merge-count : count (merge j m e) ≤ count m + 100
  unfolding count
  merge-count =
      omega (
        arith,
        sum-above 12 (column_count (merge j m e)) (column_count m),
        sum_less_two 12 10 j k (λ y. column_count (merge j m e) y - column_count m y) hj hk apart (omega (arith, column-kept j m e j (merge-own j m e)))
            (omega (arith, column-kept j m e k (λ x. merge-kept j m e x k (own x)))) (λ y h. more y h (ℕ_discrete y j)),
      )
    where
      more : (y : ℕ) → y < 12 → Dec (y ≡ j) → column_count (merge j m e) y - column_count m y ≤ 10
      more y h (yes q) = rw q (omega (arith, column-kept j m e j (merge-own j m e)))
      more y h (no q) = omega (arith, column-more y h q)
