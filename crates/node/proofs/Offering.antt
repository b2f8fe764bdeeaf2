-- Offer by its refusal. Assumes nothing.
use Prim.Native.Nat.{◌+◌, ◌<◌, ◌≤◌, ℕ}
use mathlib.Core.Bool.{Bool, ◌&&◌, ◌||◌, cond, false, not, true}
use mathlib.Core.List.{List, [], ◌++◌, ◌∷◌}
use mathlib.Core.Path.{◌∙◌, ◌≡◌, refl, sym}
use native.Mathlib.Decide.{ℕ_discrete}
use native.Mathlib.Omega.{arith}
use borrow.Author.Tests.{eq-eqb, ne_eqb}
use lib.Dec.{T, eqb}
use lib.ListN.{length, length-append, length-map}
use Rattle.arrival.specs.Tests.{ready}
use Rattle.arrival.specs.View.{arrival_refusal}
use Rattle.frame.proofs.Passed.{passes_kept}
use Rattle.frame.specs.Frame.{decode}
use Rattle.frame.specs.Refusals.{frame_refusal}
use Rattle.holdback.proofs.Slots.{length-held}
use Rattle.holdback.specs.WrongQueue.{wrong_queue}
use Rattle.holdback.specs.Slots.{held_frames, held_messages, laid, queue_size}
use Rattle.matrix.specs.Message.{Message}
use Rattle.node.proofs.Shared.{RecordPassed, first-met, first-none, queue-laid, record_passed, record_past}
use Rattle.node.specs.Answers.{AfterOffer, after_offer}
use Rattle.node.specs.Calls.{accept_offer, offer_call, refusal, refuse_offer}
use Rattle.node.specs.CallRefusals.{hold_refusal, offer_refusal, record_refusal, take_refusal}
use Rattle.node.specs.Record.{node_at, broken_record, node_of}
use Rattle.protocol.specs.Answer.{Outcome, accepted, refuse}
use Rattle.protocol.specs.Node.{Node}
use Rattle.protocol.specs.Offer.{claims_too_much, deliverable, delivered_before, held_already, holding, no_room, not_for_me, offer}
use Rattle.wire.proofs.Tests.{is_false, neqb→ne, or-not, skipped}
use Rattle.wire.specs.Limits.{max_frame}
use Rattle.node.specs.declared.Node.{Node as Record}
use Rattle.node.specs.OfferAnswer as offer_answer

-- the checks in rising order give the refusal, and none of them an accepted offer
module _ (r : Record) (s q : List ℕ) (d : Node) (o : Outcome) (a : accepted o.answer ≡ true) where
  after : Outcome → AfterOffer
  after o = cond (accepted o.answer) (accept_offer r s q o) (refuse_offer (refusal o.answer) r q)

  by : ℕ → AfterOffer
  by k = cond (eqb k 0) (accept_offer r s q o) (refuse_offer k r q)

  by_protocol : (t₁₂ t₁₃ t₁₄ t₁₅ t₁₆ : Bool)
      → after (cond t₁₂ (refuse 12 d) (cond t₁₃ (refuse 13 d) (cond t₁₄ (refuse 14 d) (cond t₁₅ (refuse 15 d) (cond t₁₆ (refuse 16 d) o)))))
      ≡ by (cond t₁₂ 12 (cond t₁₃ 13 (cond t₁₄ 14 (cond t₁₅ 15 (cond t₁₆ 16 0)))))
  unfolding after by
  by_protocol true t₁₃ t₁₄ t₁₅ t₁₆ = refl
  by_protocol false true t₁₄ t₁₅ t₁₆ = refl
  by_protocol false false true t₁₅ t₁₆ = refl
  by_protocol false false false true t₁₆ = refl
  by_protocol false false false false true = refl
  by_protocol false false false false false = rw a

  by-frame : (f k : ℕ) (x : AfterOffer) → x ≡ by k → cond (not (eqb f 0)) (refuse_offer f r q) x ≡ by (cond (not (eqb f 0)) f k)
  unfolding by
  by-frame f k x e = go (ℕ_discrete f 0)
    where
      go : Dec (f ≡ 0) → cond (not (eqb f 0)) (refuse_offer f r q) x ≡ by (cond (not (eqb f 0)) f k)
      go (yes p) = rw (eq-eqb f 0 p) e
      go (no p) = rw (ne_eqb f 0 p) (rw (ne_eqb f 0 p))

  by_record : (t₂ t₃ t₄ : Bool) (x : AfterOffer) (k : ℕ) → x ≡ by k
      → cond t₂ (refuse_offer 2 r q) (cond t₃ (refuse_offer 3 r q) (cond t₄ (refuse_offer 4 r q) x)) ≡ by (cond t₂ 2 (cond t₃ 3 (cond t₄ 4 k)))
  unfolding by
  by_record true t₃ t₄ x k e = refl
  by_record false true t₄ x k e = refl
  by_record false false true x k e = refl
  by_record false false false x k e = e

pub offer-by-refusal : (r : Record) (s q : List ℕ)
    → offer_call r s q ≡ cond (eqb (offer_refusal r s q) 0) (accept_offer r s q (holding (node_at r q) (decode s))) (refuse_offer (offer_refusal r s q) r q)
unfolding offer_call offer_refusal record_refusal hold_refusal offer after by
offer-by-refusal r s q =
    let d = node_at r q in
    let m = decode s in
    let o = holding d m in
    by_record r s q d o refl (broken_record r) (not (eqb (length q) queue_size)) (wrong_queue (node_of r []) r.held q) _ _
    (by-frame r s q d o refl (frame_refusal r.n s) (hold_refusal d m) _
    (by_protocol r s q d o refl (not_for_me d m) (claims_too_much d m) (delivered_before d m) (held_already d m) (no_room d m)))

-- a refused offer, and an accepted one
pub offer-refused : (r : Record) (s q : List ℕ) (k : ℕ) → k ≡ offer_refusal r s q → (k ≡ 0 → ⊥) → refuse_offer k r q ≡ offer_call r s q
offer-refused r s q k e h = sym (offer-by-refusal r s q ∙ rw (← e, ne_eqb k 0 h))

pub offer-accepted : (r : Record) (s q : List ℕ) → offer_refusal r s q ≡ 0 → accept_offer r s q (holding (node_at r q) (decode s)) ≡ offer_call r s q
offer-accepted r s q e = sym (offer-by-refusal r s q ∙ rw e)

-- a check of the frame, and of the protocol, gives the refusal of the offer, whatever else is lent
pub take-frame : (r : Record) (s q : List ℕ) (short : Bool) → RecordPassed r q short → (k : ℕ) → k ≡ frame_refusal r.n s → (k ≡ 0 → ⊥)
    → k ≡ record_refusal r q short (take_refusal r s q)
take-frame r s q short p k e h = sym (record_past r q short _ p ∙ rw (← e, ne_eqb k 0 h))

pub take-hold : (r : Record) (s q : List ℕ) (short : Bool) → RecordPassed r q short → frame_refusal r.n s ≡ 0
    → record_refusal r q short (take_refusal r s q) ≡ hold_refusal (node_at r q) (decode s)
take-hold r s q short p e = record_past r q short _ p ∙ rw e

-- where nothing else that is lent is too short it is the offer's
pub passed-offer : (r : Record) (s q : List ℕ) → 0 ≡ record_refusal r q false (take_refusal r s q) → offer_refusal r s q ≡ 0
unfolding offer_refusal
passed-offer r s q e = sym e

pub take-offer : (r : Record) (s q : List ℕ) → record_refusal r q false (take_refusal r s q) ≡ offer_refusal r s q
unfolding offer_refusal
take-offer r s q = refl

-- the protocol's checks of an offer, one after the other
module _ (d : Node) (m : Message) where
  pub hold_arrival : (k : ℕ) → k ≡ arrival_refusal d m → (k ≡ 0 → ⊥) → k ≡ hold_refusal d m
  unfolding arrival_refusal hold_refusal
  hold_arrival k e h =
      e ∙ first-met 12 13 14 (cond (held_already d m) 15 (cond (no_room d m) 16 0)) (not_for_me d m) (claims_too_much d m) (delivered_before d m) (λ z. h (e ∙ z))

  hold-left : arrival_refusal d m ≡ 0 → hold_refusal d m ≡ cond (held_already d m) 15 (cond (no_room d m) 16 0)
  unfolding arrival_refusal hold_refusal
  hold-left e =
      first-none 12 13 14 (cond (held_already d m) 15 (cond (no_room d m) 16 0)) (not_for_me d m) (claims_too_much d m) (delivered_before d m)
      (λ z. omega arith) (λ z. omega arith) (λ z. omega arith) e

  pub hold_15 : arrival_refusal d m ≡ 0 → held_already d m ≡ true → hold_refusal d m ≡ 15
  hold_15 e a = hold-left e ∙ rw a

  pub hold_16 : arrival_refusal d m ≡ 0 → held_already d m ≡ false → no_room d m ≡ true → hold_refusal d m ≡ 16
  hold_16 e a f = hold-left e ∙ rw (a, f)

  pub hold_0 : arrival_refusal d m ≡ 0 → held_already d m ≡ false → no_room d m ≡ false → hold_refusal d m ≡ 0
  hold_0 e a f = hold-left e ∙ rw (a, f)

-- as many messages are read from the queue as are held
pub length_messages : (k : ℕ) (q : List ℕ) → length (held_messages k q) ≡ k
length_messages k q = length-map (held_frames k q) decode ∙ length-held k q

-- what an accepted offer leaves
pub offer-leaves : (r : Record) (s q q' : List ℕ) (ready : Bool) (held : ℕ) → q' ≡ laid (held_frames r.held q ++ (s ∷ []))
    → ready ≡ deliverable (node_at r q) (decode s) → held ≡ r.held + 1
    → after_offer (record {
      answer = offer_answer.Held held ready;
      node = record { me = r.me; n = r.n; cap = r.cap; m = r.m; deliv = r.deliv; held = held };
    }) q'
    ≡ accept_offer r s q (holding (node_at r q) (decode s))
offer-leaves r s q q' ready held p w e =
    let more : held ≡ length (held_messages r.held q ++ (decode s ∷ []))
    = omega (arith, length-append (held_messages r.held q) (decode s ∷ []), length_messages r.held q) in
    λ z. record {
      result =
          record { answer = offer_answer.Held (more z) (w z); node = record { me = r.me; n = r.n; cap = r.cap; m = r.m; deliv = r.deliv; held = more z } };
      queue = p z;
    }

-- the room behind the held messages
pub room_at : (r : Record) (q : List ℕ) (m : Message) (ready : Bool) → ready ≡ deliverable (node_at r q) m
    → (eqb r.held 16 || eqb r.held 15 && not ready) ≡ no_room (node_at r q) m
room_at r q m ready e = rw (e, length_messages r.held q)

-- what a message that the protocol holds passed
pub record HoldPassed (d : Node) (m : Message) : Type 0 where
  pub arrives : arrival_refusal d m ≡ 0
  pub new : T (not (held_already d m))
  pub room : length d.held ≡ 16 → ⊥

pub hold-passed : (d : Node) (m : Message) → hold_refusal d m ≡ 0 → HoldPassed d m
unfolding arrival_refusal hold_refusal
hold-passed d m e =
    let a = skipped (not_for_me d m) 12 _ (omega arith) e in
    let b = skipped (claims_too_much d m) 13 _ (omega arith) a.1 in
    let c = skipped (delivered_before d m) 14 _ (omega arith) b.1 in
    let f = skipped (held_already d m) 15 _ (omega arith) c.1 in
    let g = skipped (no_room d m) 16 0 (omega arith) f.1 in
    let k = or-not (eqb (length d.held) 16) (eqb (length d.held) 15 && not (deliverable d m)) g.0 in
    record {
      arrives = rw (is_false (not_for_me d m) a.0, is_false (claims_too_much d m) b.0, is_false (delivered_before d m) c.0);
      new = f.0;
      room = neqb→ne (length d.held) 16 k.0;
    }

-- what holds where an offer is accepted
pub record Holdable (r : Record) (s q : List ℕ) : Type 0 where
  pub room : r.held < 16
  pub fits : length s ≤ max_frame
  pub queue : q ≡ laid (held_frames r.held q)
  pub size : length q ≡ queue_size

pub holdable : (r : Record) (s q : List ℕ) → RecordPassed r q false → frame_refusal r.n s ≡ 0
    → hold_refusal (node_at r q) (decode s) ≡ 0 → Holdable r s q
holdable r s q p f h =
    record {
      room = below16 (ℕ_discrete r.held 16);
      fits = (passes_kept r.n s f).most;
      queue = queue-laid r q false p;
      size = p.size;
    }
  where
    below16 : Dec (r.held ≡ 16) → r.held < 16
    below16 (yes e) = absurd ((hold-passed (node_at r q) (decode s) h).room (length_messages r.held q ∙ e))
    below16 (no e) = omega (arith, p.sound.room)

-- what an offer that is not refused passed
pub record Offerable (r : Record) (s q : List ℕ) : Type 0 where
  pub frame : frame_refusal r.n s ≡ 0
  pub hold : HoldPassed (node_at r q) (decode s)
  pub holdable : Holdable r s q

pub offerable : (r : Record) (s q : List ℕ) → offer_refusal r s q ≡ 0 → Offerable r s q
unfolding offer_refusal
offerable r s q e = go (ℕ_discrete (frame_refusal r.n s) 0)
  where
    p : RecordPassed r q false
    p = record_passed r q false _ e

    go : Dec (frame_refusal r.n s ≡ 0) → Offerable r s q
    go (yes z) =
        let h : hold_refusal (node_at r q) (decode s) ≡ 0 = sym (take-hold r s q false p z) ∙ e in
        record { frame = z; hold = hold-passed (node_at r q) (decode s) h; holdable = holdable r s q p z h }
    go (no z) = absurd (z (take-frame r s q false p (frame_refusal r.n s) refl z ∙ e))
