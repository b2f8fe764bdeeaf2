-- Which frames are sound on their own: those that a record with their n takes, and no others; so every frame that a node issues or holds.
use Rattle.std.specs.Prelude.{ℕ, false, List, ◌≡◌}
use Rattle.wire.specs.Bytes.{AllBytes}
use Rattle.matrix.specs.Message.{Message, Sound}
use Rattle.frame.specs.Header.{header}
use Rattle.frame.specs.Frame.{encode}
use Rattle.frame.specs.RoundTrip.{SoundFrame}
use Rattle.trail.specs.Sound.{unsound}

-- taken: a frame among some n nodes; own: it is one among as many as it says; message: the frame of a message
pub record FrameAlone : Type 0 where
  pub taken : (n : ℕ) (s : List ℕ) → SoundFrame n s → unsound s ≡ false
  pub own : (s : List ℕ) → AllBytes s → unsound s ≡ false → SoundFrame (header s).n s
  pub message : (m : Message) → Sound m → unsound (encode m) ≡ false
