-- Two neighbouring bytes changed over, as a repeater does it to a run of bytes on its way, and what the sum says to it (document 02, (ix)).
use Rattle.std.specs.Prelude.{◌≡◌, ℕ, ◌+◌, ◌≤◌, true, false, ◌≢◌, List, [], ◌∷◌, length, slice_index, slice_index_or}
use Rattle.wire.specs.Bytes.{AllBytes, put}
use Rattle.wire.specs.Trailer.{checksum, has_trailer}

-- s with the bytes at places k and k + 1 exchanged
unfoldable pub exchanged : List ℕ → ℕ → List ℕ
exchanged s k = put s k (slice_index s (k + 1) ∷ slice_index s k ∷ [])

-- the bytes at places k and k + 1 of s are two unequal neighbours
pub record Unequal (s : List ℕ) (k : ℕ) : Type 0 where
  pub inside : k + 2 ≤ length s
  pub differ : slice_index_or s k 0 ≢ slice_index s (k + 1)

-- two unequal neighbours exchanged always change the sum, whatever the bytes and wherever the two stand
abbrev pub ExchangeChangesSum : Type 0
ExchangeChangesSum = (s : List ℕ) (k : ℕ) → AllBytes s → Unequal s k → checksum (exchanged s k) ≢ checksum s

-- so a right trailer is wrong once any two are exchanged: in front of the sum, the count's bytes among them, by that law; where the two meet, the count
-- is another; and within the sum, the sum is
abbrev pub ExchangeBreaksTrailer : Type 0
ExchangeBreaksTrailer = (s : List ℕ) (k : ℕ) → AllBytes s → Unequal s k → has_trailer s ≡ true → has_trailer (exchanged s k) ≡ false
