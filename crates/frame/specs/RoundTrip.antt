-- What frames are for: each sound message has one sound frame, each sound frame one sound message, and each is read back from the other.
use Rattle.std.specs.Prelude.{ℕ, ◌+◌, ◌*◌, ◌≤◌, ◌≡◌, List, length}
use Rattle.wire.specs.Limits.{max_frame, max_nodes}
use Rattle.wire.specs.Bytes.{AllBytes}
use Rattle.matrix.specs.Matrix.{count}
use Rattle.matrix.specs.Message.{Message, Sound}
use Rattle.frame.specs.Frame.{encode, decode}
use Rattle.frame.specs.Refusals.{frame_refusal}

-- the bytes s are a frame among n nodes, which are 2 to 12; that its cap is in range is of check 10
pub record SoundFrame (n : ℕ) (s : List ℕ) : Type 0 where
  pub at_least2 : 2 ≤ n
  pub at_most12 : n ≤ max_nodes
  pub bytes : AllBytes s
  pub passes : frame_refusal n s ≡ 0

pub record RoundTrip : Type 0 where
  -- (a) a sound message has a sound frame, of 12 + 6 e + b bytes, e being at most 121 = 11 × 11, which reads back as that message
  pub sound : (m : Message) → Sound m → SoundFrame m.n (encode m)
  pub entries : (m : Message) → Sound m → count m.entries ≤ 121
  pub size : (m : Message) → Sound m → length (encode m) ≡ 12 + 6 * count m.entries + length m.body
  pub most : (m : Message) → Sound m → length (encode m) ≤ max_frame
  pub read_back : (m : Message) → Sound m → decode (encode m) ≡ m
  -- (b) a sound frame reads as a sound message with this n (and the frame's cap, which is in range), and that message written again is the same bytes
  pub reads : (n : ℕ) (s : List ℕ) → SoundFrame n s → Sound (decode s)
  pub same : (n : ℕ) (s : List ℕ) → SoundFrame n s → (decode s).n ≡ n
  pub written_again : (n : ℕ) (s : List ℕ) → SoundFrame n s → encode (decode s) ≡ s
  -- (c) so a message has one frame, and a frame one message
  pub one_frame : (n : ℕ) (s t : List ℕ) → SoundFrame n s → SoundFrame n t → decode s ≡ decode t → s ≡ t
  pub one_message : (m k : Message) → Sound m → Sound k → encode m ≡ encode k → m ≡ k
