-- The input of a load is one line and no more: n, seed, draws, each of 1 to 10 digits, parted by one space (32), ended by a line feed (10).
use Rattle.std.specs.Prelude.{ℕ, List, [], ◌∷◌, Option, Some, None}
use Rattle.text.specs.Pieces.{split}
use Rattle.text.specs.Fields.{value}
use Rattle.request.specs.declared.Load.{Load}

-- three fields that are numbers, as they stand
unfoldable pub of_numbers : Option ℕ → Option ℕ → Option ℕ → Option Load
of_numbers (Some n) (Some seed) (Some draws) = Some (record { n = n; seed = seed; draws = draws })
of_numbers (Some n) (Some seed) None = None
of_numbers (Some n) None draws = None
of_numbers None seed draws = None

-- a line's pieces between its spaces: exactly three, each of 1 to 10 digits
unfoldable pub of_fields : List (List ℕ) → Option Load
of_fields [] = None
of_fields (n ∷ []) = None
of_fields (n ∷ seed ∷ []) = None
of_fields (n ∷ seed ∷ draws ∷ []) = of_numbers (value 10 n) (value 10 seed) (value 10 draws)
of_fields (n ∷ seed ∷ draws ∷ p ∷ ps) = None

-- an input's pieces between its line feeds: exactly the line and, behind its line feed, nothing
unfoldable pub of_lines : List (List ℕ) → Option Load
of_lines [] = None
of_lines (line ∷ []) = None
of_lines (line ∷ [] ∷ []) = of_fields (split 32 line)
of_lines (line ∷ [] ∷ p ∷ ps) = None
of_lines (line ∷ (b ∷ s) ∷ ps) = None

-- what an input asks for, none where it has another form
unfoldable pub request : List ℕ → Option Load
request s = of_lines (split 10 s)
