-- Bytes in a list: what a byte is, bytes written over a list, and little-endian fields of two and four bytes.
use Rattle.std.specs.Prelude.{ℕ, ◌+◌, ◌*◌, ◌/◌, ◌%◌, ◌<◌, List, [], ◌∷◌, slice_index, slice_set}

-- every element is a byte
abbrev pub AllBytes : List ℕ → Type 0
AllBytes s = (k : ℕ) → slice_index s k < 256

-- the list o with bs written over it, from place `at` on
unfoldable pub put : List ℕ → ℕ → List ℕ → List ℕ
put o at [] = o
put o at (b ∷ bs) = put (slice_set o at b) (at + 1) bs

-- the two bytes of a number, the lowest first
unfoldable pub le16 : ℕ → List ℕ
le16 v = v % 256 ∷ v / 256 % 256 ∷ []

-- the four bytes of a number, the lowest first
unfoldable pub le32 : ℕ → List ℕ
le32 v = v % 256 ∷ v / 256 % 256 ∷ v / 65536 % 256 ∷ v / 16777216 % 256 ∷ []

-- the number whose two bytes stand from place `at` on
unfoldable pub u16_at : List ℕ → ℕ → ℕ
u16_at s at = slice_index s at + 256 * slice_index s (at + 1)

-- the number whose four bytes stand from place `at` on
unfoldable pub u32_at : List ℕ → ℕ → ℕ
u32_at s at = slice_index s at + 256 * slice_index s (at + 1) + 65536 * slice_index s (at + 2) + 16777216 * slice_index s (at + 3)
