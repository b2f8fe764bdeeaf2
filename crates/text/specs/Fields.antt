-- The number of a field: decimal digits, the bytes 48 to 57. Leading zeros are digits like others.
use Rattle.std.specs.Prelude.{ℕ, ◌*◌, ◌+◌, ◌-◌, Bool, ◌&&◌, cond, List, [], ◌∷◌, leb, length, Option, Some, None}

-- the byte is a decimal digit
unfoldable pub is_digit : ℕ → Bool
is_digit b = leb 48 b && leb b 57

-- the number that the digits v and then s make; none where a byte of s is no digit
unfoldable pub continued : ℕ → List ℕ → Option ℕ
continued v [] = Some v
continued v (b ∷ s) = cond (is_digit b) (continued (10 * v + (b - 48)) s) None

-- the number of a field of 1 to k digits, the whole of s
unfoldable pub value : ℕ → List ℕ → Option ℕ
value k s = cond (leb 1 (length s) && leb (length s) k) (continued 0 s) None
