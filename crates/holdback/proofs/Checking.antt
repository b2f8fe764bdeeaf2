-- Check 4 slot by slot: the layout of the whole queue is that of its slots, and what passing tells. Assumes nothing.
use Prim.Native.Nat.{◌*◌, ◌+◌, ◌-◌, ◌≤◌, suc, zero, ℕ}
use mathlib.Core.Bool.{Bool, ◌&&◌, ◌||◌, and_assoc, false, not, or-false, or-true, true}
use mathlib.Core.List.{List, [], ◌++◌, ◌∷◌}
use mathlib.Core.Path.{◌∙◌, ◌≡◌, ap, ap₂, refl, sym}
use native.Mathlib.Omega.{arith}
use lib.Dec.{T, eqb, eqb_refl, eqb→eq}
use lib.ListN.{drop, length, length-drop, take, take-append-drop}
use lib.Seq.{drop-drop, length-take-le}
use Rattle.holdback.proofs.Slots.{held-fit, length-padded, zeros_add, zeros-none}
use Rattle.holdback.specs.WrongQueue.{held_refused, same_bytes, some_alike, some_refused, wrong_queue}
use Rattle.holdback.specs.Slots.{frame_in, held_frames, held_messages, padded, queue_size, slots, zeros}
use Rattle.holdback.specs.Steps.{all_zero, wrong_slot}
use Rattle.protocol.specs.Node.{Node}
use Rattle.wire.proofs.Tests.{and_T, is_true}
use Rattle.wire.specs.Limits.{max_frame, max_held}

-- the same bytes are equal
pub same-eq : (s t : List ℕ) → T (same_bytes s t) → s ≡ t
unfolding same_bytes
same-eq [] [] h = refl
same-eq [] (b ∷ t) h = absurd h
same-eq (a ∷ s) [] h = absurd h
same-eq (a ∷ s) (b ∷ t) h = let p = and_T (eqb a b) (same_bytes s t) h in ap₂ ◌∷◌ (eqb→eq a b p.0) (same-eq s t p.1)

same_self : (t : List ℕ) → same_bytes t t ≡ true
unfolding same_bytes
same_self [] = refl
same_self (a ∷ t) = rw (is_true (eqb a a) (eqb_refl a)) (same_self t)

pub eq-same : (s t : List ℕ) → s ≡ t → same_bytes s t ≡ true
eq-same s t e = rw e (same_self t)

-- bytes in two parts
same_parts : (a b r s : List ℕ) → length a ≡ length b → same_bytes (a ++ r) (b ++ s) ≡ (same_bytes a b && same_bytes r s)
unfolding same_bytes
same_parts [] [] r s e = refl
same_parts [] (y ∷ b) r s e = absurd (omega arith)
same_parts (x ∷ a) [] r s e = absurd (omega arith)
same_parts (x ∷ a) (y ∷ b) r s e = rw (same_parts a b r s (omega arith)) (sym (and_assoc (eqb x y) (same_bytes a b) (same_bytes r s)))

same-front : (a r s : List ℕ) → same_bytes (a ++ r) (a ++ s) ≡ same_bytes r s
same-front a r s = same_parts a a r s refl ∙ rw (eq-same a a refl)

same-zeros : (s : List ℕ) (k : ℕ) → length s ≡ k → same_bytes s (zeros k) ≡ all_zero s
unfolding same_bytes zeros all_zero
same-zeros [] k e = rw (sym e)
same-zeros (b ∷ s) zero e = absurd (omega arith)
same-zeros (b ∷ s) (suc k) e = ap (λ (t : Bool). eqb b 0 && t) (same-zeros s k (omega arith))

-- slots that are not filled
slots-none : (k : ℕ) → slots k [] ≡ zeros (max_frame * k)
unfolding slots
slots-none zero = sym zeros-none
slots-none (suc k) = let e : max_frame + max_frame * k ≡ max_frame * suc k = omega arith in rw (slots-none k, zeros_add, e)

-- in a slot, the frame is followed by zeros
pub slot-zeros : (slot : List ℕ) (own : ℕ) → length slot ≡ max_frame → own ≤ max_frame → same_bytes slot (padded (take own slot)) ≡ all_zero (drop own slot)
unfolding padded
slot-zeros slot own e h =
    let l : length (take own slot) ≡ own = length-take-le own slot (omega arith) in
    ap (λ (t : List ℕ). same_bytes t (take own slot ++ zeros (max_frame - length (take own slot)))) (sym (take-append-drop own slot))
    ∙ same-front (take own slot) (drop own slot) (zeros (max_frame - length (take own slot)))
    ∙ same-zeros (drop own slot) (max_frame - length (take own slot)) (omega (arith, length-drop own slot))

-- some of the filled slots is wrong
unfoldable pub some_wrong : Node → ℕ → List ℕ → Bool
some_wrong d zero q = false
some_wrong d (suc k) q = wrong_slot d (take max_frame q) || some_wrong d k (drop max_frame q)

-- Boolean algebra
join : (a b c s e f : Bool) → (not b || s) ≡ (e || f) → (not (a && b) || (c || s)) ≡ ((c || not a) || e || f)
join true b true s e f h = or-true (not b)
join true b false s e f h = h
join false b true s e f h = refl
join false b false s e f h = refl

pub later : (i : ℕ) (q : List ℕ) → drop (max_frame * i) (drop max_frame q) ≡ drop (max_frame * suc i) q
later i q = let e : max_frame + max_frame * i ≡ max_frame * suc i = omega arith in rw (drop-drop, e)

-- of k slots, the first `held` filled, the layout and the refusals go slot by slot, and the others are zero
split : (d : Node) (held k : ℕ) (q : List ℕ) → held ≤ k → length q ≡ max_frame * k
    → (not (same_bytes q (slots k (held_frames held q))) || some_refused d (held_frames held q)) ≡ (some_wrong d held q || not (all_zero (drop (max_frame * held) q)))
unfolding held_frames some_refused some_wrong slots wrong_slot
split d zero k q h e = rw (slots-none k, same-zeros q (max_frame * k) e) (or-false (not (all_zero q)))
split d (suc held) zero q h e = absurd (omega arith)
split d (suc held) (suc k) q h e =
    let slot : List ℕ = take max_frame q in
    let r : List ℕ = drop max_frame q in
    let long : length slot ≡ max_frame = length-take-le max_frame q (omega arith) in
    let fits : length (frame_in slot) ≤ max_frame = (held-fit (suc held) q).0 in
    let same : same_bytes q (padded (frame_in slot) ++ slots k (held_frames held r))
    ≡ (same_bytes slot (padded (frame_in slot)) && same_bytes r (slots k (held_frames held r))) =
    ap (λ (t : List ℕ). same_bytes t (padded (frame_in slot) ++ slots k (held_frames held r))) (sym (take-append-drop max_frame q))
    ∙ same_parts slot (padded (frame_in slot)) r (slots k (held_frames held r)) (long ∙ sym (length-padded (frame_in slot) fits)) in
    rw (same, ← later held q)
    (join (same_bytes slot (padded (frame_in slot))) (same_bytes r (slots k (held_frames held r))) (held_refused d (frame_in slot))
    (some_refused d (held_frames held r)) (some_wrong d held r) (not (all_zero (drop (max_frame * held) r)))
    (split d held k r (omega arith) (omega (arith, length-drop max_frame q))))

pub queue-split : (d : Node) (held : ℕ) (q : List ℕ) → held ≤ max_held → length q ≡ queue_size
    → wrong_queue d held q ≡ (some_wrong d held q || not (all_zero (drop (max_frame * held) q)) || some_alike (held_messages held q))
unfolding wrong_queue
queue-split d held q h e = ap (λ (t : Bool). t || some_alike (held_messages held q)) (split d held max_held q h e)
