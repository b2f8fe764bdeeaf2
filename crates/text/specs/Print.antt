-- Printed numbers and lines, in ASCII: the digits are 48 to 57, the space is 32, the line feed 10.
use Rattle.std.specs.Prelude.{ℕ, zero, suc, ◌+◌, ◌/◌, ◌%◌, cond, List, [], ◌∷◌, ◌++◌, ltb}

-- the decimal digits of v without leading zeros, where k digits are enough
unfoldable pub digits : ℕ → ℕ → List ℕ
digits zero v = []
digits (suc k) v = cond (ltb v 10) ((48 + v) ∷ []) (digits k (v / 10) ++ ((48 + v % 10) ∷ []))

-- of a number below 10,000,000,000
unfoldable pub decimal : ℕ → List ℕ
decimal v = digits 10 v

-- each number in decimal behind one space
unfoldable pub spaced : List ℕ → List ℕ
spaced [] = []
spaced (v ∷ vs) = 32 ∷ (decimal v ++ spaced vs)

-- the end of a printed line: the numbers, a line feed
unfoldable pub line_end : List ℕ → List ℕ
line_end vs = spaced vs ++ (10 ∷ [])

-- a printed line with a letter: the letter, the numbers, a line feed
unfoldable pub row : ℕ → List ℕ → List ℕ
row letter vs = letter ∷ line_end vs

-- a printed line without a letter: the first number, the others, a line feed
unfoldable pub number_row : ℕ → List ℕ → List ℕ
number_row v vs = decimal v ++ line_end vs

-- a refusal (document 01, *The yard*): R, which is 82 in ASCII, and its number
abbrev pub refusal_row : ℕ → List ℕ
refusal_row k = row 82 (k ∷ [])
