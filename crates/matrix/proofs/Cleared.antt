-- A matrix that is zero outside its twelve rows and columns stays so when a column is cleared, and no entry goes up by more than one. Assumes nothing.
use Prim.Native.Nat.{◌<◌, ◌≤◌, suc, ℕ}
use mathlib.Core.List.{List}
use mathlib.Core.Logic.{◌≢◌}
use mathlib.Core.Path.{◌∙◌, ◌≡◌}
use native.Mathlib.Decide.{dec_lt, ℕ_discrete}
use native.Mathlib.Omega.{arith}
use Rattle.matrix.proofs.Array.{entry-back, entry-out}
use Rattle.matrix.proofs.Columns.{MatrixRules}
use Rattle.matrix.proofs.Matrix.{clear-gone, clear_keep, clear-mine, non_zero_le}
use Rattle.matrix.proofs.Sums.{sum_ones}
use Rattle.matrix.specs.Array.{entry, flat}
use Rattle.matrix.specs.Matrix.{Matrix, clear, column_count, non_zero}

-- zero outside the twelve rows and columns
abbrev pub Inside : Matrix → Type 0
Inside m = (x y : ℕ) → (x < 12 → y < 12 → ⊥) → m x y ≡ 0

-- the matrix of an array, and that of a node, are
pub inside-entry : (l : List ℕ) → Inside (entry l)
inside-entry l x y h = entry-out l x y h

pub rules-inside : (n me : ℕ) (m : Matrix) → n ≤ 12 → MatrixRules n me m → Inside m
rules-inside n me m h f x y o = go (dec_lt x 12)
  where
    go : Dec (x < 12) → m x y ≡ 0
    go (no a) = f.rows x y (omega arith)
    go (yes a) = f.columns x y (omega (arith, o a))

-- so the array of a node's matrix has that matrix
pub rules-back : (n me : ℕ) (m : Matrix) → n ≤ 12 → MatrixRules n me m → entry (flat m) ≡ m
rules-back n me m h f = entry-back m (rules-inside n me m h f)

-- and stay so when a column is cleared
pub inside-clear : (i j : ℕ) (m : Matrix) → i < 12 → j < 12 → Inside m → Inside (clear i j m)
inside-clear i j m hi hj z x y h = go (ℕ_discrete y j)
  where
    go : Dec (y ≡ j) → clear i j m x y ≡ 0
    go (yes e) = rw e (clear-gone i j m x (λ q. h (omega arith) (omega arith)))
    go (no e) = clear_keep i j m x y e ∙ z x y h

-- so the array of a cleared matrix has that matrix
pub clear-back : (i j : ℕ) (l : List ℕ) → i < 12 → j < 12 → entry (flat (clear i j (entry l))) ≡ clear i j (entry l)
clear-back i j l hi hj = entry-back (clear i j (entry l)) (inside-clear i j (entry l) hi hj (inside-entry l))

-- no entry goes up by more than one
pub clear-le : (i j : ℕ) (m : Matrix) (x y : ℕ) → clear i j m x y ≤ suc (m x y)
clear-le i j m x y = go (ℕ_discrete y j) (ℕ_discrete x i)
  where
    go : Dec (y ≡ j) → Dec (x ≡ i) → clear i j m x y ≤ suc (m x y)
    go (yes e) (yes q) = rw (e, q) (omega (arith, clear-mine i j m))
    go (yes e) (no q) = rw e (omega (arith, clear-gone i j m x q))
    go (no e) d = omega (arith, clear_keep i j m x y e)

-- the row of the issuing node does not go down, and no other goes up
pub clear-row : (i j : ℕ) (m : Matrix) (y : ℕ) → m i y ≤ clear i j m i y
clear-row i j m y = go (ℕ_discrete y j)
  where
    go : Dec (y ≡ j) → m i y ≤ clear i j m i y
    go (yes e) = rw e (omega (arith, clear-mine i j m))
    go (no e) = omega (arith, clear_keep i j m i y e)

pub clear_lower : (i j : ℕ) (m : Matrix) (x y : ℕ) → x ≢ i → clear i j m x y ≤ m x y
clear_lower i j m x y ne = go (ℕ_discrete y j)
  where
    go : Dec (y ≡ j) → clear i j m x y ≤ m x y
    go (yes e) = rw e (omega (arith, clear-gone i j m x ne))
    go (no e) = omega (arith, clear_keep i j m x y e)

-- a limit that the row of the issuing node has not reached in column j stays one
pub clear-limit : (i j k : ℕ) (m : Matrix) → ((x y : ℕ) → m x y ≤ k) → m i j < k → (x y : ℕ) → clear i j m x y ≤ k
clear-limit i j k m l b x y = go (ℕ_discrete y j) (ℕ_discrete x i)
  where
    go : Dec (y ≡ j) → Dec (x ≡ i) → clear i j m x y ≤ k
    go (yes p) (yes q) = rw (p, q, clear-mine) b
    go (yes p) (no q) = rw (p, clear-gone i j m x q) (omega arith)
    go (no p) d = rw (clear_keep i j m x y p) (l x y)

-- a column has at most twelve entries
pub column-le : (m : Matrix) (y : ℕ) → column_count m y ≤ 12
unfolding column_count
column-le m y = sum_ones 12 (λ x. non_zero (m x y)) (λ x _. non_zero_le (m x y))
