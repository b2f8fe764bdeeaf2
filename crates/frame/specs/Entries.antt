-- The entries of a frame: six bytes each, from offset 8 on, and the matrix that they are.
use Rattle.std.specs.Prelude.{ℕ, zero, suc, ◌+◌, ◌*◌, ◌/◌, ◌%◌, cond, ◌&&◌, List, [], ◌∷◌, ◌++◌, eqb, get_or}
use Rattle.wire.specs.Bytes.{le32, u32_at}
use Rattle.matrix.specs.Matrix.{Matrix}
use Rattle.matrix.specs.Array.{flat}
use Rattle.frame.specs.declared.entries.Entry.{Entry}

-- row, column, value (4 bytes)
unfoldable pub entry_bytes : Entry → List ℕ
entry_bytes a = a.row ∷ a.column ∷ le32 a.value

-- entries end to end
unfoldable pub entries_bytes : List Entry → List ℕ
entries_bytes [] = []
entries_bytes (a ∷ l) = entry_bytes a ++ entries_bytes l

-- entry k of the frame s
unfoldable pub entry_at : List ℕ → ℕ → Entry
entry_at s k = record { row = get_or s (8 + 6 * k) 0; column = get_or s (8 + 6 * k + 1) 0; value = u32_at s (8 + 6 * k + 2) }

-- r entries of the frame s, from entry k on
unfoldable pub entries_from : List ℕ → ℕ → ℕ → List Entry
entries_from s k zero = []
entries_from s k (suc r) = entry_at s k ∷ entries_from s (k + 1) r

-- the entry at place k of a matrix's array, unless it is zero
unfoldable pub placed : ℕ → ℕ → List Entry
placed k v = cond (eqb v 0) [] (record { row = k / 12; column = k % 12; value = v } ∷ [])

-- the non-zero entries of an array, of which the first element is at place k
unfoldable pub listed : ℕ → List ℕ → List Entry
listed k [] = []
listed k (v ∷ l) = placed k v ++ listed (k + 1) l

-- the non-zero entries of a matrix, rising by row then column
unfoldable pub entries_of : Matrix → List Entry
entries_of m = listed 0 (flat m)

-- the matrix of a list of entries: the value of the entry in row x and column y, zero without one
unfoldable pub matrix_of : List Entry → Matrix
matrix_of [] x y = 0
matrix_of (a ∷ l) x y = cond (eqb a.row x && eqb a.column y) a.value (matrix_of l x y)
