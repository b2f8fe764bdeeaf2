-- The held frames one by one, as loops go through them, and what it tells of them that a queue passes check 4. Assumes nothing.
use Prim.Native.Nat.{◌*◌, ◌+◌, ◌-◌, ◌<◌, ◌≤◌, suc, zero, ℕ}
use mathlib.Core.Bool.{◌||◌, false, not}
use mathlib.Core.List.{List, [], ◌++◌, ◌∷◌}
use mathlib.Core.Path.{◌∙◌, ◌≡◌, ap, refl, sym}
use native.Mathlib.Omega.{arith}
use lib.Dec.{T, eqb, eqb→eq}
use lib.ListN.{drop, length, length-drop, take}
use lib.Seq.{drop-drop, length-take-le, take-take}
use Rattle.arrival.specs.View.{arrival_refusal}
use Rattle.frame.proofs.Passed.{passes_kept}
use Rattle.frame.specs.Frame.{decode}
use Rattle.frame.specs.Header.{header, own_length}
use Rattle.frame.specs.Refusals.{frame_refusal}
use Rattle.holdback.proofs.Checking.{later, same-eq, some_wrong}
use Rattle.holdback.proofs.Slots.{Framed, header-take, own-least}
use Rattle.holdback.specs.WrongQueue.{held_refused, same_bytes, some_alike, some_refused, wrong_queue}
use Rattle.holdback.specs.Places.{frame_at, slot_at}
use Rattle.holdback.specs.Slots.{frame_in, held_frames, held_messages, laid, queue_size}
use Rattle.holdback.specs.Steps.{wrong_slot}
use Rattle.protocol.specs.Node.{Node}
use Rattle.wire.proofs.Tests.{no_three, not-not, of_false, or-not}
use Rattle.wire.proofs.Trailer.{trailed}
use Rattle.wire.specs.Limits.{max_frame, max_held}

-- the slots from slot i on, one further
slot_next : (i : ℕ) (q : List ℕ) → drop max_frame (drop (max_frame * i) q) ≡ drop (max_frame * (i + 1)) q
slot_next i q = let e : max_frame * i + max_frame ≡ max_frame * (i + 1) = omega arith in rw (drop-drop, e)

pub held-rest : (k i : ℕ) (q : List ℕ) → i < k
    → held_frames (k - i) (drop (max_frame * i) q) ≡ frame_at q i ∷ held_frames (k - (i + 1)) (drop (max_frame * (i + 1)) q)
unfolding held_frames
held-rest k i q h = let e : k - i ≡ suc (k - (i + 1)) = omega arith in rw (e, slot_next i q)

pub held-done : (k i : ℕ) (q : List ℕ) → k ≤ i → held_frames (k - i) q ≡ []
unfolding held_frames
held-done k i q h = let e : k - i ≡ 0 = omega arith in rw e

pub held-snoc : (i : ℕ) (q : List ℕ) → held_frames (suc i) q ≡ held_frames i q ++ (frame_at q i ∷ [])
unfolding held_frames
held-snoc zero q = refl
held-snoc (suc i) q = ap (λ (l : List (List ℕ)). frame_in (take max_frame q) ∷ l) (held-snoc i (drop max_frame q) ∙ rw (later i q))

pub wrong-rest : (d : Node) (k i : ℕ) (q : List ℕ) → i < k
    → some_wrong d (k - i) (drop (max_frame * i) q) ≡ (wrong_slot d (slot_at q i) || some_wrong d (k - (i + 1)) (drop (max_frame * (i + 1)) q))
unfolding some_wrong
wrong-rest d k i q h = let e : k - i ≡ suc (k - (i + 1)) = omega arith in rw (e, slot_next i q)

pub wrong-done : (d : Node) (k i : ℕ) (q : List ℕ) → k ≤ i → some_wrong d (k - i) q ≡ false
unfolding some_wrong
wrong-done d k i q h = let e : k - i ≡ 0 = omega arith in rw e

-- a slot, the frame in it, and the frame as a part of the queue
pub length-slot : (q : List ℕ) (i : ℕ) → length q ≡ queue_size → i < max_held → length (slot_at q i) ≡ max_frame
length-slot q i e h = length-take-le max_frame (drop (max_frame * i) q) (omega (arith, length-drop (max_frame * i) q))

pub frame-part : (q : List ℕ) (i own : ℕ) → own ≡ own_length (header (slot_at q i)) → own ≤ max_frame → take own (drop (max_frame * i) q) ≡ frame_at q i
unfolding frame_in
frame-part q i own e h = rw (← e) (sym (take-take own max_frame (drop (max_frame * i) q) h))

pub header-frame : (slot : List ℕ) → length slot ≡ max_frame → header (frame_in slot) ≡ header slot
unfolding frame_in
header-frame slot e = header-take (own_length (header slot)) slot (omega (arith, own-least (header slot))) (omega arith)

-- bytes that pass 8 to 11 have their own length, and so does a frame in its slot
pub passes_framed : (n : ℕ) (s : List ℕ) → frame_refusal n s ≡ 0 → Framed s
unfolding own_length
passes_framed n s e =
    let k = passes_kept n s e in
    let t = trailed s k.trailer in
    record { own = omega (arith, k.size, t.count, k.long); fits = k.most }

pub own-fits : (n : ℕ) (slot : List ℕ) → length slot ≡ max_frame → frame_refusal n (frame_in slot) ≡ 0 → own_length (header slot) ≤ max_frame
own-fits n slot l e =
    let f = passes_framed n (frame_in slot) e in
    omega (arith, f.own, f.fits, ap own_length (header-frame slot l))

-- what passing check 4 tells
pub record QueueKept (d : Node) (held : ℕ) (q : List ℕ) : Type 0 where
  pub queue : q ≡ laid (held_frames held q)
  pub refused : T (not (some_refused d (held_frames held q)))
  pub apart : T (not (some_alike (held_messages held q)))

pub queue-kept : (d : Node) (held : ℕ) (q : List ℕ) → wrong_queue d held q ≡ false → QueueKept d held q
unfolding wrong_queue
queue-kept d held q e =
    let l : List (List ℕ) = held_frames held q in
    let p = no_three (not (same_bytes q (laid l))) (some_refused d l) (some_alike (held_messages held q))
    (of_false (not (same_bytes q (laid l)) || some_refused d l || some_alike (held_messages held q)) e) in
    record { queue = same-eq q (laid l) (not-not (same_bytes q (laid l)) p.0); refused = p.1; apart = p.2 }

-- a frame that meets none of 8 to 14
pub record FrameKept (d : Node) (s : List ℕ) : Type 0 where
  pub passes : frame_refusal d.n s ≡ 0
  pub arrives : arrival_refusal d (decode s) ≡ 0

pub frame-kept : (d : Node) (s : List ℕ) → T (not (held_refused d s)) → FrameKept d s
unfolding held_refused
frame-kept d s t =
    let p = or-not (not (eqb (frame_refusal d.n s) 0)) (not (eqb (arrival_refusal d (decode s)) 0)) t in
    record {
      passes = eqb→eq (frame_refusal d.n s) 0 (not-not (eqb (frame_refusal d.n s) 0) p.0);
      arrives = eqb→eq (arrival_refusal d (decode s)) 0 (not-not (eqb (arrival_refusal d (decode s)) 0) p.1);
    }

-- each held frame is one
pub held_kept : (d : Node) (held : ℕ) (q : List ℕ) → T (not (some_refused d (held_frames held q))) → (i : ℕ) → i < held → FrameKept d (frame_at q i)
unfolding held_frames some_refused
held_kept d zero q t i h = absurd (omega arith)
held_kept d (suc held) q t zero h =
    frame-kept d (frame_in (take max_frame q)) (or-not (held_refused d (frame_in (take max_frame q))) (some_refused d (held_frames held (drop max_frame q))) t).0
held_kept d (suc held) q t (suc i) h =
    let r = (or-not (held_refused d (frame_in (take max_frame q))) (some_refused d (held_frames held (drop max_frame q))) t).1 in
    rw (← later i q) (held_kept d held (drop max_frame q) r i (omega arith))
