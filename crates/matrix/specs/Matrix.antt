-- The matrix M as document 01 and the paper have it, a function of row and column, and what the steps do to it.
use Rattle.std.specs.Prelude.{ℕ, zero, suc, ◌+◌, max, cond, ◌&&◌, ltb, eqb}

-- m x y is the known count of frames issued by x to y
abbrev pub Matrix : Type 0
Matrix = ℕ → ℕ → ℕ

-- f 0 + f 1 + .. + f (k - 1)
abbrev pub sum : ℕ → (ℕ → ℕ) → ℕ
sum zero f = 0
sum (suc k) f = sum k f + f k

-- 1 for a number that is not zero, 0 for zero
abbrev pub non_zero : ℕ → ℕ
non_zero zero = 0
non_zero (suc v) = 1

-- how many entries of column y are non-zero
unfoldable pub column_count : Matrix → ℕ → ℕ
column_count m y = sum 12 (λ x. non_zero (m x y))

-- how many entries are non-zero
unfoldable pub count : Matrix → ℕ
count m = sum 12 (column_count m)

-- of the numbers below k, the lowest at which f is largest
abbrev pub largest : ℕ → (ℕ → ℕ) → ℕ
largest zero f = 0
largest (suc k) f = cond (ltb (f (largest k f)) (f k)) k (largest k f)

-- the column with the most non-zero entries, the lowest on ties
unfoldable pub fullest : Matrix → ℕ
fullest m = largest 12 (column_count m)

-- after a frame from i to j: column j becomes zero, except the entry in row i, which becomes its old value plus one
unfoldable pub clear : ℕ → ℕ → Matrix → Matrix
clear i j m x y = cond (eqb y j) (cond (eqb x i) (suc (m i j)) 0) (m x y)

-- column l alone
unfoldable pub only : ℕ → Matrix → Matrix
only l m x y = cond (eqb y l) (m x y) 0

-- at node j: each entry outside column j becomes the larger of itself and the entry of e
unfoldable pub merge : ℕ → Matrix → Matrix → Matrix
merge j m e x y = cond (eqb y j) (m x y) (max (m x y) (e x y))

-- the matrix with the one entry v, in row a and column b
unfoldable pub single : ℕ → ℕ → ℕ → Matrix
single a b v x y = cond (eqb x a && eqb y b) v 0
