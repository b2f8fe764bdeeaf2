-- The matrix as the array of its 144 counts, row by row: row x and column y stand at place 12 * x + y.
use Rattle.std.specs.Prelude.{ℕ, zero, suc, ◌+◌, ◌*◌, ◌/◌, ◌%◌, cond, ◌&&◌, List, [], ◌∷◌, ltb, get_or}
use Rattle.matrix.specs.Matrix.{Matrix}

-- the list f k, f (k + 1), .. of r elements
abbrev pub list_from : ℕ → ℕ → (ℕ → ℕ) → List ℕ
list_from k zero f = []
list_from k (suc r) f = f k ∷ list_from (k + 1) r f

-- the array of a matrix
unfoldable pub flat : Matrix → List ℕ
flat m = list_from 0 144 (λ k. m (k / 12) (k % 12))

-- the matrix of an array: zero outside its twelve rows and columns
unfoldable pub entry : List ℕ → Matrix
entry l x y = cond (ltb x 12 && ltb y 12) (get_or l (12 * x + y) 0) 0

-- the vector of an array of twelve counts
abbrev pub vector : List ℕ → ℕ → ℕ
vector l x = get_or l x 0
