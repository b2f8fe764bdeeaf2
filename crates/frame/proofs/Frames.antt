-- Laws of frames end to end: one more, two runs of them, how they are written, and how long an extra one is. Assumes nothing.
use Prim.Native.Nat.{◌*◌, ◌+◌, ◌<◌, ◌≤◌, ℕ}
use mathlib.Core.List.{List, [], ◌++◌, ◌∷◌}
use mathlib.Core.Path.{◌∙◌, ◌≡◌, ap, refl}
use native.Mathlib.Omega.{arith}
use lib.ListN.{length, length-append}
use Rattle.frame.proofs.Written.{length-encode}
use Rattle.frame.specs.Frame.{encode}
use Rattle.frame.specs.Frames.{frames_of}
use Rattle.matrix.proofs.Bounds.{only-count}
use Rattle.matrix.proofs.Cleared.{column-le}
use Rattle.matrix.specs.Matrix.{Matrix, column_count}
use Rattle.matrix.specs.Message.{Message, extra_message}
use Rattle.wire.proofs.Bytes.{put_append}
use Rattle.wire.specs.Bytes.{put}

-- no frame is no byte
pub frames-nil : frames_of [] ≡ []
unfolding frames_of
frames-nil = refl

-- one frame, then the others
pub frames-cons : (m : Message) (l : List Message) → frames_of (m ∷ l) ≡ encode m ++ frames_of l
unfolding frames_of
frames-cons m l = refl

-- how many bytes they are
pub length-frames : (m : Message) (l : List Message) → length (frames_of (m ∷ l)) ≡ length (encode m) + length (frames_of l)
length-frames m l = ap length (frames-cons m l) ∙ length-append (encode m) (frames_of l)

-- the first frame is written, then the others behind it
pub put-frames : (o : List ℕ) (at : ℕ) (m : Message) (l : List Message)
    → put o at (frames_of (m ∷ l)) ≡ put (put o at (encode m)) (at + length (encode m)) (frames_of l)
put-frames o at m l = ap (put o at) (frames-cons m l) ∙ put_append o at (encode m) (frames_of l)

-- the frame of an extra message has the entries of one column
pub length-extra : (from to n cap : ℕ) (m : Matrix) → to < 12 → length (encode (extra_message from to n cap m)) ≡ 12 + 6 * column_count m to
length-extra from to n cap m h = omega (arith, length-encode (extra_message from to n cap m), only-count m to h)

-- which are at most twelve
pub extra-le : (from to n cap : ℕ) (m : Matrix) → to < 12 → length (encode (extra_message from to n cap m)) ≤ 84
extra-le from to n cap m h = omega (arith, length-extra from to n cap m h, column-le m to)
