-- The trailer behind a run of bytes: the byte count in front of it, then the sum over all bytes before the sum, each by its place.
use Rattle.std.specs.Prelude.{ℕ, ◌+◌, ◌-◌, ◌*◌, ◌%◌, Bool, ◌&&◌, List, [], ◌∷◌, ◌++◌, length, take, ◌==◌, nat_le}
use Rattle.wire.specs.Bytes.{le16, u16_at}

-- the sum of each byte times its weight: w for the first byte, and one more for each that follows
abbrev pub weighted : ℕ → List ℕ → ℕ
weighted w [] = 0
weighted w (b ∷ s) = w * b + weighted (w + 1) s

-- the sum, modulo 65,536, of each byte times one more than its offset (document 02, (ix))
unfoldable pub checksum : List ℕ → ℕ
checksum s = weighted 1 s % 65536

-- the bytes with their count behind them
unfoldable pub counted : List ℕ → List ℕ
counted s = s ++ le16 (length s)

-- the four bytes behind s: its byte count, then the sum over all bytes before the sum
unfoldable pub trailer : List ℕ → List ℕ
trailer s = le16 (length s) ++ le16 (checksum (counted s))

-- the bytes with their trailer behind them
unfoldable pub sealed : List ℕ → List ℕ
sealed s = s ++ trailer s

-- the count that stands in a trailer at the end of s (document 01: the count pointed back)
unfoldable pub count_back : List ℕ → ℕ
count_back s = u16_at s (length s - 4)

-- the sum that stands there
unfoldable pub sum_back : List ℕ → ℕ
sum_back s = u16_at s (length s - 2)

-- whether s ends with a trailer both of whose fields are right
unfoldable pub has_trailer : List ℕ → Bool
has_trailer s = nat_le 4 (length s) && count_back s == length s - 4 && sum_back s == checksum (take (length s - 2) s)
