-- The first line: n and then a cap for each of the n nodes, fields of 1 to 3 digits parted by one space (32).
use Rattle.std.specs.Prelude.{ℕ, ◌-◌, cond, List, [], ◌∷◌, ◌++◌, eqb, leb, length, replicate, Option, Some, None}
use Rattle.text.specs.Pieces.{split}
use Rattle.text.specs.Fields.{value}
use Rattle.commands.specs.declared.Sizes.{Sizes}

-- caps that a first line gives at most: one for each node that a simulation may have
abbrev pub max_caps : ℕ
max_caps = 4

-- the line gives n and these caps
abbrev pub given : ℕ → List ℕ → Option Sizes
given n caps = Some (record { n = n; caps = caps })

-- a number in front of others, none where one is no number
unfoldable pub with_number : Option ℕ → Option (List ℕ) → Option (List ℕ)
with_number (Some v) (Some vs) = Some (v ∷ vs)
with_number (Some v) None = None
with_number None vs = None

-- the numbers of fields of 1 to 3 digits, none where one is no such field
unfoldable pub numbers : List (List ℕ) → Option (List ℕ)
numbers [] = Some []
numbers (p ∷ ps) = with_number (value 3 p) (numbers ps)

-- the caps, with zeros behind them
unfoldable pub padded : List ℕ → List ℕ
padded caps = caps ++ replicate (max_caps - length caps) 0

-- n and its caps, none where there are not as many caps as nodes
unfoldable pub counted : Option ℕ → ℕ → List ℕ → Option Sizes
counted (Some n) count caps = cond (eqb count n) (given n caps) None
counted None count caps = None

-- the sizes of n and its caps; more than `max_caps` of them are another form, also where n is as large
unfoldable pub sizes : Option ℕ → Option (List ℕ) → Option Sizes
sizes n (Some caps) = cond (leb (length caps) max_caps) (counted n (length caps) (padded caps)) None
sizes n None = None

-- the sizes of a line's pieces: the first is n, the others are the caps
unfoldable pub of_pieces : List (List ℕ) → Option Sizes
of_pieces [] = None
of_pieces (n ∷ caps) = sizes (value 3 n) (numbers caps)

-- what the first line says, none where it has another form; whether n and the caps are in range is not asked here
unfoldable pub first_line : List ℕ → Option Sizes
first_line s = of_pieces (split 32 s)
