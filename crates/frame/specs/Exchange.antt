-- Two neighbouring bytes of a frame changed over on the way are found out (document 02, (ix)).
use Rattle.std.specs.Prelude.{ℕ, List, ◌≡◌}
use Rattle.wire.specs.Exchange.{Unequal, exchanged}
use Rattle.frame.specs.Refusals.{frame_refusal}
use Rattle.frame.specs.RoundTrip.{SoundFrame}

-- a sound frame with any two unequal neighbours exchanged is refused with 8, whatever n the record has
abbrev pub ExchangeMeets8 : Type 0
ExchangeMeets8 = (n : ℕ) (s : List ℕ) → SoundFrame n s → (k : ℕ) → Unequal s k → (n' : ℕ) → frame_refusal n' (exchanged s k) ≡ 8
