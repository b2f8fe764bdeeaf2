-- Check 4 as the code makes it: the keys of the slots one by one, then the rest of the queue, then the keys compared. Assumes nothing.
use Prim.Native.Nat.{◌*◌, ◌+◌, ◌-◌, ◌<◌, ◌≤◌, ℕ}
use mathlib.Core.Bool.{false, true}
use mathlib.Core.List.{List, [], ◌∷◌, map, map-append}
use mathlib.Core.Path.{◌∙◌, ◌≡◌, refl, sym}
use native.Mathlib.Nat.{sub-zero}
use native.Mathlib.Numerals.{add-one}
use native.Mathlib.Omega.{arith}
use lib.ListN.{drop, length, length-set, set, take}
use lib.Seq.{take-suc-set}
use Rattle.frame.specs.Frame.{decode}
use Rattle.holdback.proofs.Checking.{queue-split, some_wrong}
use Rattle.holdback.proofs.Held.{held-snoc, wrong-done, wrong-rest}
use Rattle.holdback.proofs.Keys.{equal_alike, key_told, key_wrong, small-held}
use Rattle.holdback.specs.WrongQueue.{wrong_queue}
use Rattle.holdback.specs.Places.{frame_at, slot_at}
use Rattle.holdback.specs.Slots.{held_frames, held_messages, queue_size}
use Rattle.holdback.specs.Steps.{all_zero, key_of, slot_key, some_equal}
use Rattle.protocol.specs.Node.{Node}
use Rattle.std.proofs.Common.{Some, None}
use Rattle.wire.proofs.Tests.{of_false}
use Rattle.wire.specs.Limits.{max_frame, max_held, max_nodes}

-- a slot as a part of the queue that is lent
pub slot_lent : (q : List ℕ) (i : ℕ) → take (max_frame * i + max_frame - max_frame * i) (drop (max_frame * i) q) ≡ slot_at q i
slot_lent q i = let e : max_frame * i + max_frame - max_frame * i ≡ max_frame = omega arith in rw e

-- the slots before slot i are right, and their keys stand in the list of keys
pub record Filling (d : Node) (held : ℕ) (q l : List ℕ) (i : ℕ) : Type 0 where
  pub most : i ≤ held
  pub many : length l ≡ max_held
  pub right : some_wrong d held q ≡ some_wrong d (held - i) (drop (max_frame * i) q)
  pub keys : take i l ≡ map key_of (held_messages i q)

keys-more : (q l : List ℕ) (i k : ℕ) → i < length l → k ≡ key_of (decode (frame_at q i)) → take i l ≡ map key_of (held_messages i q)
    → take (i + 1) (set l i k) ≡ map key_of (held_messages (i + 1) q)
keys-more q l i k h e t =
    rw (
      add-one,
      take-suc-set l i k h,
      t,
      e,
      held-snoc i q,
      map-append decode (held_frames i q) (frame_at q i ∷ []),
      map-append key_of (map decode (held_frames i q)) (decode (frame_at q i) ∷ []),
    )

module _ (d : Node) (held : ℕ) (q : List ℕ) (most : held ≤ max_held) (size : length q ≡ queue_size) where
  pub filling_start : (l : List ℕ) → length l ≡ max_held → Filling d held q l 0
  unfolding held_frames
  filling_start l e = record { most = omega arith; many = e; right = rw sub-zero; keys = refl }

  module _ (l : List ℕ) (i : ℕ) (f : Filling d held q l i) where
    -- a slot that is wrong, and one that is right
    pub filling-wrong : i < held → slot_key d (slot_at q i) ≡ None → wrong_queue d held q ≡ true
    filling-wrong h e = queue-split d held q most size ∙ rw (f.right ∙ wrong-rest d held i q h, key_wrong d (slot_at q i) e)

    pub filling-more : (k : ℕ) → i < held → slot_key d (slot_at q i) ≡ Some k → Filling d held q (set l i k) (i + 1)
    filling-more k h e =
        let t = key_told d (slot_at q i) k e in
        record {
          most = omega arith;
          many = length-set l i k ∙ f.many;
          right = f.right ∙ wrong-rest d held i q h ∙ rw t.0;
          keys = keys-more q l i k (omega (arith, f.many)) t.1 f.keys;
        }

    -- all are right: then the rest of the queue, and the keys
    all_right : held ≤ i → some_wrong d held q ≡ false
    all_right h = f.right ∙ wrong-done d held i (drop (max_frame * i) q) h

    pub filling-rest : held ≤ i → all_zero (drop (max_frame * held) q) ≡ false → wrong_queue d held q ≡ true
    filling-rest h z = queue-split d held q most size ∙ rw (all_right h, z)

    pub filling-end : held ≤ i → d.n ≤ max_nodes → all_zero (drop (max_frame * held) q) ≡ true → wrong_queue d held q ≡ some_equal (take held l)
    filling-end h n z =
        let e : i ≡ held = omega (arith, f.most) in
        let t : take held l ≡ map key_of (held_messages held q) = rw e at f.keys in
        queue-split d held q most size
        ∙ rw (all_right h, z, t) (sym (equal_alike (held_messages held q) (small-held d held q n (of_false (some_wrong d held q) (all_right h)))))
