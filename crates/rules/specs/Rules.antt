-- The record rules of document 01, each a test of its own, on the matrix and the vector as functions.
use Rattle.std.specs.Prelude.{◌*◌, ℕ, Bool, ◌&&◌, ◌||◌, not, eqb, leb, ltb}
use Rattle.matrix.specs.Matrix.{Matrix, count}
use Rattle.protocol.specs.Node.{each_below}
use Rattle.wire.specs.Limits.{max_count, max_held, max_nodes}

-- n is 2 to 12, me is below n, and cap is n to n * n
unfoldable pub in_range : ℕ → ℕ → ℕ → Bool
in_range me n cap = leb 2 n && leb n max_nodes && ltb me n && leb n cap && leb cap (n * n)

-- M[x,x] = 0
unfoldable pub zero_diagonal : Matrix → Bool
zero_diagonal m = each_below max_nodes (λ x. eqb (m x x) 0)

-- column y of M is zero
unfoldable pub zero_column : ℕ → Matrix → Bool
zero_column y m = each_below max_nodes (λ x. eqb (m x y) 0)

-- nothing exceeds 1,000,000,000
unfoldable pub within_limit : Matrix → (ℕ → ℕ) → Bool
within_limit m v = each_below max_nodes (λ x. each_below max_nodes (λ y. leb (m x y) max_count)) && each_below max_nodes (λ x. leb (v x) max_count)

-- rows and columns of M, and entries of DELIV, from n on are zero
unfoldable pub zero_from : ℕ → Matrix → (ℕ → ℕ) → Bool
zero_from n m v =
    each_below max_nodes (λ x. each_below max_nodes (λ y. ltb x n && ltb y n || eqb (m x y) 0)) && each_below max_nodes (λ x. ltb x n || eqb (v x) 0)

-- 2. The record breaks a record rule: n, me and cap are in range; M[x,x] = 0; column me of M is zero; at most cap entries of M are non-zero;
-- DELIV[me] = 0; nothing exceeds 1,000,000,000; at most 16 are held; rows and columns of M, and entries of DELIV, from n on are zero.
unfoldable pub broken_rules : ℕ → ℕ → ℕ → Matrix → (ℕ → ℕ) → ℕ → Bool
broken_rules me n cap m v held =
    not (in_range me n cap && zero_diagonal m && zero_column me m && leb (count m) cap && eqb (v me) 0 && within_limit m v && leb held max_held && zero_from n m v)
