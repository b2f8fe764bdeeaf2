-- The tests that look at one entry of a frame.
use Rattle.std.specs.Prelude.{ℕ, Bool, not, ◌&&◌, ◌||◌, eqb, leb, ltb}
use Rattle.matrix.specs.Matrix.{Matrix}
use Rattle.frame.specs.declared.entries.Entry.{Entry}

-- the entry stands in row x and column y
unfoldable pub stands_at : ℕ → ℕ → Entry → Bool
stands_at x y a = eqb a.row x && eqb a.column y

-- the entry stands in row me and exceeds the matrix there
unfoldable pub exceeds : ℕ → Matrix → Entry → Bool
exceeds me m a = eqb a.row me && ltb (m me a.column) a.value

-- the entry does not keep its frame waiting at node me: it stands in another column, or is at most the count delivered from its row
unfoldable pub ready : ℕ → (ℕ → ℕ) → Entry → Bool
ready me deliv a = not (eqb a.column me) || leb a.value (deliv a.row)
