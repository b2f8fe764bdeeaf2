-- A frame is sound on its own exactly where a record with its n takes it. Assumes nothing.
use Prim.Native.Nat.{ℕ}
use mathlib.Core.Bool.{false}
use mathlib.Core.List.{List}
use mathlib.Core.Path.{◌≡◌}
use borrow.Author.Tests.{eq-eqb, le-leb}
use lib.Dec.{leb, leb→le}
use Rattle.frame.proofs.RoundTrip.{round_trip}
use Rattle.frame.specs.Frame.{decode, encode}
use Rattle.frame.specs.Header.{header}
use Rattle.frame.specs.Refusals.{frame_refusal}
use Rattle.frame.specs.RoundTrip.{SoundFrame}
use Rattle.matrix.specs.Message.{Message, Sound}
use Rattle.trail.proofs.Lone.{alone}
use Rattle.trail.specs.FrameAlone.{FrameAlone}
use Rattle.trail.specs.Sound.{in_own_range, unsound}
use Rattle.wire.proofs.Tests.{and_T, of_true}
use Rattle.wire.specs.Bytes.{AllBytes}
use Rattle.wire.specs.Limits.{max_nodes}

taken : (n : ℕ) (s : List ℕ) → SoundFrame n s → unsound s ≡ false
unfolding unsound in_own_range decode
taken n s f =
    rw (
      round_trip.same n s f,
      le-leb 2 n f.at_least2,
      le-leb n max_nodes f.at_most12,
      eq-eqb (frame_refusal n s) 0 f.passes,
    )

own : (s : List ℕ) → AllBytes s → unsound s ≡ false → SoundFrame (header s).n s
unfolding in_own_range
own s b e =
    let p = alone s e in
    let r = and_T (leb 2 (header s).n) (leb (header s).n max_nodes) (of_true _ p.0) in
    record { at_least2 = leb→le 2 (header s).n r.0; at_most12 = leb→le (header s).n max_nodes r.1; bytes = b; passes = p.1 }

message : (m : Message) → Sound m → unsound (encode m) ≡ false
message m h = taken m.n (encode m) (round_trip.sound m h)

pub frame-alone : FrameAlone
frame-alone = record { taken = taken; own = own; message = message }
