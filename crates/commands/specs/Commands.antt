-- The command of a line: its pieces parted by single spaces (32) are a letter and its fields of 1 to 3 digits.
-- The letters are ASCII: A is 65, D is 68, S is 83.
use Rattle.std.specs.Prelude.{ℕ, cond, List, [], ◌∷◌, eqb, Option, Some, None}
use Rattle.text.specs.Pieces.{split}
use Rattle.text.specs.Fields.{value}
use Rattle.commands.specs.declared.Command.{Command}
use Rattle.commands.specs.declared.Command.TheVariants.{Send, Offer, Deliver}

-- the byte of a piece of one byte, none of another piece
unfoldable pub letter : List ℕ → Option ℕ
letter [] = None
letter (b ∷ []) = Some b
letter (b ∷ c ∷ s) = None

-- `A m` offers issue m, `D j` delivers at node j
unfoldable pub with_one : Option ℕ → Option ℕ → Option Command
with_one (Some l) (Some i) = cond (eqb l 65) (Some (Offer i)) (cond (eqb l 68) (Some (Deliver i)) None)
with_one (Some l) None = None
with_one None i = None

-- `S i j` sends from node i to node j
unfoldable pub with_two : Option ℕ → Option ℕ → Option ℕ → Option Command
with_two (Some l) (Some i) (Some j) = cond (eqb l 83) (Some (Send i j)) None
with_two (Some l) (Some i) None = None
with_two (Some l) None j = None
with_two None i j = None

-- the command of a line's pieces
unfoldable pub of_pieces : List (List ℕ) → Option Command
of_pieces [] = None
of_pieces (l ∷ []) = None
of_pieces (l ∷ i ∷ []) = with_one (letter l) (value 3 i)
of_pieces (l ∷ i ∷ j ∷ []) = with_two (letter l) (value 3 i) (value 3 j)
of_pieces (l ∷ i ∷ j ∷ k ∷ ps) = None

-- the command of a line, none where it has another form
unfoldable pub command : List ℕ → Option Command
command s = of_pieces (split 32 s)
