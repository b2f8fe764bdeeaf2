-- A held frame lent as a part of its queue. Assumes nothing.
use Prim.Native.Nat.{◌*◌, ◌+◌, ◌-◌, ◌<◌, ◌≤◌, ℕ}
use mathlib.Core.List.{List}
use mathlib.Core.Path.{◌≡◌, refl}
use native.Mathlib.Omega.{arith}
use lib.ListN.{drop, length, take}
use Rattle.arrival.specs.CheckedFrame.{CheckedFrame}
use Rattle.frame.specs.Header.{header, own_length}
use Rattle.holdback.proofs.Held.{frame-part, held_kept, length-slot, own-fits, queue-kept}
use Rattle.holdback.specs.CheckedQueue.{CheckedQueue}
use Rattle.holdback.specs.Places.{frame_at, slot_at}
use Rattle.wire.specs.Limits.{max_frame}

-- the end of the frame in slot i
abbrev pub end_of : List ℕ → ℕ → ℕ
end_of q i = max_frame * i + own_length (header (slot_at q i))

-- the part of q from slot i to `end` is the frame held there, a sound one
pub record HeldPart (q : List ℕ) (i end : ℕ) : Type 0 where
  pub from : max_frame * i ≤ end
  pub to : end ≤ max_frame * i + max_frame
  pub inside : end ≤ length q
  pub same : take (end - max_frame * i) (drop (max_frame * i) q) ≡ frame_at q i
  pub checked : CheckedFrame (frame_at q i)

pub queue-frame : (held : ℕ) (q : List ℕ) → CheckedQueue held q → (i : ℕ) → i < held → CheckedFrame (frame_at q i)
queue-frame held q c i h =
    let k = held_kept c.node held q (queue-kept c.node held q c.passes).refused i h in
    record { n = c.node.n; few = c.few; passes = k.passes }

pub held-part : (held : ℕ) (q : List ℕ) (i end : ℕ) → CheckedQueue held q → i < held → end ≡ end_of q i → HeldPart q i end
held-part held q i end c h e =
    let k = queue-frame held q c i h in
    let own : ℕ = own_length (header (slot_at q i)) in
    let l : length (slot_at q i) ≡ max_frame = length-slot q i c.size (omega (arith, c.most)) in
    let f : own ≤ max_frame = own-fits k.n (slot_at q i) l k.passes in
    let w : end - max_frame * i ≡ own = omega arith in
    record {
      from = omega arith;
      to = omega arith;
      inside = omega (arith, c.size, c.most);
      same = rw w (frame-part q i own refl f);
      checked = k;
    }
