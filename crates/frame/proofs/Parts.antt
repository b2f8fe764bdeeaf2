-- A part of a list that is overwritten, as bytes written over the list. Assumes nothing.
use Prim.Native.Nat.{◌+◌, ◌≤◌, ℕ}
use mathlib.Core.List.{List, ◌++◌}
use mathlib.Core.Path.{◌∙◌, ◌≡◌, ap, sym}
use lib.ListN.{length, take}
use lib.Seq.{drop-drop}
use borrow.Rule.Slice.PartMut.{put_mid}
use Rattle.wire.proofs.Bytes.{put-eq}
use Rattle.wire.specs.Bytes.{put}

-- k is the part's length as the code has it, now what the part holds
pub put-part : (o : List ℕ) (at k : ℕ) (now bs : List ℕ) → now ≡ bs → k ≡ length bs → at + length bs ≤ length o → put_mid at k o now ≡ put o at bs
put-part o at k now bs e p h =
    rw (e, p) (ap (λ (r : List ℕ). take at o ++ (bs ++ r)) (drop-drop (length bs) at o) ∙ sym (put-eq o at bs h))
