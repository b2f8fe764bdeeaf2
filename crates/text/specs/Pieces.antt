-- The pieces of a text between the bytes c: with the line feed its lines, the last piece being what stands behind the last line feed;
-- with the space the fields of a line.
use Rattle.std.specs.Prelude.{ℕ, cond, List, [], ◌∷◌, eqb}

-- the byte b in front of the first piece
unfoldable pub grown : ℕ → List (List ℕ) → List (List ℕ)
grown b [] = (b ∷ []) ∷ []
grown b (p ∷ ps) = (b ∷ p) ∷ ps

-- the pieces of s: a byte c starts a new piece, another byte grows the first one; there is always one piece
unfoldable pub split : ℕ → List ℕ → List (List ℕ)
split c [] = [] ∷ []
split c (b ∷ s) = cond (eqb b c) ([] ∷ split c s) (grown b (split c s))
