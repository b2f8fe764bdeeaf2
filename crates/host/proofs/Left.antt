-- What the exported calls leave, by the checks and the answers of the node's calls. Assumes nothing.
use Prim.Native.Nat.{ℕ, ◌+◌, ◌<◌, ◌≤◌}
use mathlib.Core.Bool.{Bool, ◌||◌, cond, false, not, true}
use mathlib.Core.List.{List, [], ◌++◌, ◌∷◌}
use mathlib.Core.Option.{Option, none, some}
use mathlib.Core.Path.{◌∙◌, ◌≡◌, ap, ap₂, refl, subst, sym}
use native.Mathlib.Omega.{arith}
use borrow.Author.Tests.{ne_eqb}
use lib.Dec.{eqb, ltb, nltb→le}
use lib.ListN.{length}
use Rattle.wire.proofs.Tests.{of_false}
use Rattle.wire.specs.Bytes.{put}
use Rattle.frame.specs.Frame.{decode}
use Rattle.frame.specs.Header.{header}
use Rattle.frame.specs.Refusals.{frame_refusal, wrong_address, wrong_content, wrong_kind, wrong_trailer}
use Rattle.holdback.specs.Places.{place_of}
use Rattle.holdback.specs.Slots.{held_frames, laid, queue_size}
use Rattle.holdback.specs.WrongQueue.{wrong_queue}
use Rattle.protocol.specs.Answer.{Label, Outcome, delivery}
use Rattle.protocol.specs.Node.{Node, at_limit}
use Rattle.protocol.specs.Offer.{claims_too_much, deliverable, delivered_before, held_already, no_room, not_for_me}
use Rattle.protocol.specs.Send.{bad_destination, long_body, sending}
use Rattle.rights.specs.Ours.{ours}
use Rattle.rights.specs.Rights.{lacks_right}
use Rattle.node.proofs.Delivering.{concluded, deliver-accepted, deliver-none, deliver-refused, searched}
use Rattle.node.proofs.Offering.{offer-accepted, offer-leaves, offer-refused, take-offer}
use Rattle.node.proofs.Sending.{send-accepted, send-refused}
use Rattle.node.proofs.Told.{DeliverTold, DeliveredFacts, SendTold, SentFacts, deliver-told, send-told}
use Rattle.node.specs.Answers.{AfterDeliver, AfterOffer, AfterSend, after_deliver, after_send}
use Rattle.node.specs.CallRefusals.{deliver_refusal, hold_refusal, offer_refusal, record_refusal, send_refusal, short_outputs, take_refusal}
use Rattle.node.specs.Calls.{accept_deliver, accept_send, deliver_call, offer_call, send_call}
use Rattle.node.specs.Record.{broken_record, node_at, node_of}
use Rattle.node.specs.Sizes.{out_size}
use Rattle.node.specs.Delivered.{Delivered}
use Rattle.node.specs.DeliverAnswer as deliver_answer
use Rattle.node.specs.declared.Node.{Node as Record}
use Rattle.node.specs.SendAnswer as send_answer
use Rattle.image.proofs.Reading.{bad-sealed, bad-unsealed, unsealed}
use Rattle.host.specs.Exports.{answer_size, deliver_left, deliver_told, delivery_bytes, exported_deliver, exported_offer, exported_send}
use Rattle.host.specs.Exports.{DeliverLeft, OfferLeft, SendLeft, nothing_bytes, offer_bytes, offer_left, offer_told, send_bytes, send_left, send_told}
use Rattle.image.specs.Image.{image, record_in}
use Rattle.image.specs.Stores.{with_held, with_matrix, with_vector}

-- ---- An image that is opened, and what a check's number is told as

-- the number of an image that is not opened, 0 where it is
abbrev pub closed : List ℕ → ℕ
closed i = cond (unsealed i) 20 0

closed_at : (b : Bool) (k : ℕ) → k ≡ cond b 20 0 → (k ≡ 0 → ⊥) → (k ≡ 20) × (b ≡ true)
closed_at true k e h = (e, refl)
closed_at false k e h = absurd (h e)

open_at : (b : Bool) → ◌≡◌ {A = ℕ} 0 (cond b 20 0) → b ≡ false
open_at true e = absurd (omega arith)
open_at false e = refl

-- 20 stands where 2 stood
abbrev pub told : ℕ → ℕ
told k = cond (eqb k 2) 20 k

told-none : (j : ℕ) → 0 ≡ told j → j ≡ 0
told-none j = go (eqb j 2)
  where
    go : (b : Bool) → 0 ≡ cond b 20 j → j ≡ 0
    go true e = absurd (omega arith)
    go false e = sym e

-- ---- The first check that is met: b the record's, s the answer's length, t the other buffers', and rest what comes behind

-- no number behind is 2
not-two : (a : Bool) (k x : ℕ) → (k ≡ 2 → ⊥) → (x ≡ 2 → ⊥) → cond a k x ≡ 2 → ⊥
not-two true k x p q e = p e
not-two false k x p q e = q e

-- a refusal leaves what a call of the node, with X for its own refusals, leaves too
refused-by : {A : Type 0} (left : ℕ → A) (x : A) (b s t : Bool) (rest : ℕ) → (rest ≡ 2 → ⊥)
    → ((cond b 2 (cond t 3 rest) ≡ 0 → ⊥) → x ≡ left (cond b 2 (cond t 3 rest))) → (k : ℕ) → k ≡ cond b 2 (cond (s || t) 3 rest) → (k ≡ 0 → ⊥)
    → left (cond (eqb k 2) 20 k) ≡ cond b (left 20) (cond s (left 3) x)
refused-by left x true s t rest n h k e z = rw e
refused-by left x false true t rest n h k e z = rw e
refused-by left x false false true rest n h k e z = rw e (sym (h (λ y. omega arith)))
refused-by left x false false false rest n h k e z =
    ap (λ (j : ℕ). left (cond (eqb j 2) 20 j)) e ∙ rw (ne_eqb rest 2 n) (sym (h (λ y. z (e ∙ y))))

-- where none is met, the call of the node is made
pub record Passed (b s t : Bool) (rest : ℕ) : Type 0 where
  pub record₀ : b ≡ false
  pub answer : s ≡ false
  pub call : cond b 2 (cond t 3 rest) ≡ 0

passed-by : (b s t : Bool) (rest : ℕ) → cond b 2 (cond (s || t) 3 rest) ≡ 0 → Passed b s t rest
passed-by true s t rest e = absurd (omega arith)
passed-by false true t rest e = absurd (omega arith)
passed-by false false t rest e = record { record₀ = refl; answer = refl; call = e }

-- ---- Send

module _ (i : List ℕ) (to class : ℕ) (body out answer : List ℕ) where
  abbrev sent : SendLeft
  sent = send_told i answer (send_call (record_in i) to class body out) (send_call (record_in i) to class body out).result.answer

  abbrev behind_send : ℕ
  behind_send =
      let d : Node = node_of (record_in i) [] in
      cond (at_limit d) 5 (cond (bad_destination d to) 6 (cond (long_body body) 7 (cond (lacks_right ours class body) 21 0)))

  -- an answer that is too short counts as no room
  abbrev pub send_room : ℕ
  send_room = cond (ltb (length answer) answer_size) 0 (length out)

  room-short : (s : Bool) → ltb (cond s 0 (length out)) out_size ≡ (s || ltb (length out) out_size)
  room-short true = refl
  room-short false = refl

  send-first : send_refusal (record_in i) to class body send_room
      ≡ cond (broken_record (record_in i)) 2 (cond (ltb (length answer) answer_size || ltb (length out) out_size) 3 behind_send)
  unfolding send_refusal
  send-first = rw (room-short (ltb (length answer) answer_size))

  send-own : (send_refusal (record_in i) to class body (length out) ≡ 0 → ⊥)
      → sent ≡ send_left (send_refusal (record_in i) to class body (length out)) i out answer
  send-own h = ap (λ (c : AfterSend). send_told i answer c c.result.answer) (sym (send-refused (record_in i) to class body out _ refl h))

  -- the image is not opened
  pub send_20 : (k : ℕ) → k ≡ closed i → (k ≡ 0 → ⊥) → send_left k i out answer ≡ exported_send i to class body out answer
  unfolding exported_send
  send_20 k e h = let c = closed_at (unsealed i) k e h in rw (c.0, bad-unsealed i c.1)

  -- or it is, as that of this node, whose check gave j: k is told
  module _ (u : 0 ≡ closed i) (node : Record) (p : node ≡ record_in i) (room j : ℕ) (s : room ≡ send_room) (e : j ≡ send_refusal node to class body room) where
    send-judged : j ≡ send_refusal (record_in i) to class body send_room
    send-judged = e ∙ ap₂ (λ (r : Record) (x : ℕ). send_refusal r to class body x) p s

    pub send-why : (k : ℕ) → k ≡ told j → (k ≡ 0 → ⊥) → send_left k i out answer ≡ exported_send i to class body out answer
    unfolding exported_send send_refusal
    send-why k t h =
        let d : Node = node_of (record_in i) [] in
        let n : (j ≡ 0 → ⊥) = λ z. h (t ∙ ap told z) in
        rw (t, bad-sealed i (open_at (unsealed i) u))
        (refused-by (λ (x : ℕ). send_left x i out answer) sent (broken_record (record_in i)) (ltb (length answer) answer_size) (ltb (length out) out_size) behind_send
        (not-two (at_limit d) 5 _ (λ z. omega arith) (not-two (bad_destination d to) 6 _ (λ z. omega arith)
        (not-two (long_body body) 7 _ (λ z. omega arith) (not-two (lacks_right ours class body) 21 0 (λ z. omega arith) (λ z. omega arith))))) send-own j
        (send-judged ∙ send-first) n)

    -- what a send that passed the checks knows
    pub record SendReady : Type 0 where
      pub long : answer_size ≤ length answer
      pub passes : send_refusal node to class body (length out) ≡ 0
      pub made : exported_send i to class body out answer ≡ sent

    pub send-ready : 0 ≡ told j → SendReady
    unfolding exported_send send_refusal
    send-ready t =
        let q = passed-by (broken_record (record_in i)) (ltb (length answer) answer_size) (ltb (length out) out_size) behind_send
        (sym send-first ∙ sym send-judged ∙ told-none j t) in
        record {
          long = nltb→le (length answer) answer_size (of_false _ q.answer);
          passes = rw p q.call;
          made = rw (bad-sealed i (open_at (unsealed i) u), q.record₀, q.answer);
        }

    -- what it issued and left
    module _ (w : SendReady) (bytes extras : ℕ) (node₁ : Record) (out₁ : List ℕ)
        (a : after_send (record { answer = send_answer.Sent bytes extras; node = node₁ }) out₁ ≡ accept_send node out (sending (node_of node []) to body)) where
      pub send-small : (extras < 256) × (bytes < 65536)
      send-small =
          let f : SentFacts out out₁ bytes extras = subst (λ (c : AfterSend). SendTold out c.result.answer c)
          (sym (a ∙ send-accepted node to class body out w.passes)) (send-told node to class body out) in
          (omega (arith, f.few), omega (arith, f.most))

      pub send-done : (i₁ answer₁ : List ℕ) → i₁ ≡ image (with_matrix node₁.m (record_in i)) → answer₁ ≡ put answer 0 (send_bytes bytes extras)
          → send_left 0 i₁ out₁ answer₁ ≡ exported_send i to class body out answer
      send-done i₁ answer₁ x y =
          let same : with_matrix node₁.m (record_in i) ≡ node₁ = ap (with_matrix node₁.m) (sym p) ∙ sym kept in
          ap₂ (λ (v z : List ℕ). send_left 0 v out₁ z) (x ∙ ap image same) y
          ∙ ap (λ (c : AfterSend). send_told i answer c c.result.answer)
          (a ∙ send-accepted node to class body out w.passes ∙ ap (λ (r : Record). send_call r to class body out) p) ∙ sym w.made
        where
          kept : node₁ ≡ with_matrix node₁.m node
          kept = ap (λ (c : AfterSend). c.result.node) a ∙ ap (λ (c : AfterSend). with_matrix c.result.node.m node) (sym a)

-- ---- Offer

module _ (i frame queue answer : List ℕ) where
  abbrev offered : OfferLeft
  offered = offer_told i answer (offer_call (record_in i) frame queue) (offer_call (record_in i) frame queue).result.answer

  abbrev behind_offer : ℕ
  behind_offer = cond (wrong_queue (node_of (record_in i) []) (record_in i).held queue) 4 (take_refusal (record_in i) frame queue)

  -- the refusals of a frame that is offered are 8 to 16
  take-not-two : take_refusal (record_in i) frame queue ≡ 2 → ⊥
  unfolding frame_refusal hold_refusal
  take-not-two =
      let r : Record = record_in i in
      let d : Node = node_at r queue in
      not-two (not (eqb (frame_refusal r.n frame) 0)) (frame_refusal r.n frame) (hold_refusal d (decode frame))
      (not-two (wrong_trailer frame) 8 _ (λ z. omega arith) (not-two (wrong_kind (header frame)) 9 _ (λ z. omega arith)
      (not-two (wrong_address r.n (header frame)) 10 _ (λ z. omega arith)
      (not-two (wrong_content r.n frame) 11 0 (λ z. omega arith) (λ z. omega arith)))))
      (not-two (not_for_me d (decode frame)) 12 _ (λ z. omega arith) (not-two (claims_too_much d (decode frame)) 13 _ (λ z. omega arith)
      (not-two (delivered_before d (decode frame)) 14 _ (λ z. omega arith) (not-two (held_already d (decode frame)) 15 _ (λ z. omega arith)
      (not-two (no_room d (decode frame)) 16 0 (λ z. omega arith) (λ z. omega arith))))))

  offer-own : (record_refusal (record_in i) queue false (take_refusal (record_in i) frame queue) ≡ 0 → ⊥)
      → offered ≡ offer_left (record_refusal (record_in i) queue false (take_refusal (record_in i) frame queue)) i queue answer
  offer-own h =
      ap (λ (c : AfterOffer). offer_told i answer c c.result.answer) (sym (offer-refused (record_in i) frame queue _ (take-offer (record_in i) frame queue) h))

  -- the image is not opened
  pub offer_20 : (k : ℕ) → k ≡ closed i → (k ≡ 0 → ⊥) → offer_left k i queue answer ≡ exported_offer i frame queue answer
  unfolding exported_offer
  offer_20 k e h = let c = closed_at (unsealed i) k e h in rw (c.0, bad-unsealed i c.1)

  -- or it is, as that of this node, whose check gave j: k is told
  module _ (u : 0 ≡ closed i) (node : Record) (p : node ≡ record_in i) (j : ℕ)
      (e : j ≡ record_refusal node queue (ltb (length answer) answer_size) (take_refusal node frame queue)) where
    offer-judged : j ≡ record_refusal (record_in i) queue (ltb (length answer) answer_size) (take_refusal (record_in i) frame queue)
    offer-judged = e ∙ ap (λ (r : Record). record_refusal r queue (ltb (length answer) answer_size) (take_refusal r frame queue)) p

    pub offer-why : (k : ℕ) → k ≡ told j → (k ≡ 0 → ⊥) → offer_left k i queue answer ≡ exported_offer i frame queue answer
    unfolding exported_offer record_refusal
    offer-why k t h =
        let n : (j ≡ 0 → ⊥) = λ z. h (t ∙ ap told z) in
        rw (t, bad-sealed i (open_at (unsealed i) u))
        (refused-by (λ (x : ℕ). offer_left x i queue answer) offered (broken_record (record_in i)) (ltb (length answer) answer_size)
        (not (eqb (length queue) queue_size)) behind_offer
        (not-two (wrong_queue (node_of (record_in i) []) (record_in i).held queue) 4 _ (λ z. omega arith) take-not-two) offer-own j offer-judged n)

    -- what an offer that passed the checks knows
    pub record OfferReady : Type 0 where
      pub long : answer_size ≤ length answer
      pub passes : offer_refusal node frame queue ≡ 0
      pub made : exported_offer i frame queue answer ≡ offered

    pub offer-ready : 0 ≡ told j → OfferReady
    unfolding exported_offer offer_refusal record_refusal
    offer-ready t =
        let q = passed-by (broken_record (record_in i)) (ltb (length answer) answer_size) (not (eqb (length queue) queue_size)) behind_offer
        (sym offer-judged ∙ told-none j t) in
        record {
          long = nltb→le (length answer) answer_size (of_false _ q.answer);
          passes = rw p q.call;
          made = rw (bad-sealed i (open_at (unsealed i) u), q.record₀, q.answer);
        }

    pub offer-done : OfferReady → (queue₁ i₁ answer₁ : List ℕ) → queue₁ ≡ laid (held_frames node.held queue ++ (frame ∷ []))
        → i₁ ≡ image (with_held (node.held + 1) (record_in i)) → answer₁ ≡ put answer 0 offer_bytes
        → offer_left 0 i₁ queue₁ answer₁ ≡ exported_offer i frame queue answer
    offer-done w queue₁ i₁ answer₁ l x y =
        ap₂ (λ (v z : List ℕ). offer_left 0 v queue₁ z) (x ∙ ap (λ (r : Record). image (with_held (node.held + 1) r)) (sym p)) y
        ∙ ap (λ (c : AfterOffer). offer_told i answer c c.result.answer)
        (offer-leaves node frame queue queue₁ (deliverable (node_at node queue) (decode frame)) (node.held + 1) l refl refl
        ∙ offer-accepted node frame queue w.passes ∙ ap (λ (r : Record). offer_call r frame queue) p) ∙ sym w.made

-- ---- Deliver

or_assoc : (a b c : Bool) → (a || b || c) ≡ (a || (b || c))
or_assoc true b c = refl
or_assoc false b c = refl

module _ (i queue out body answer : List ℕ) where
  abbrev delivered : DeliverLeft
  delivered = deliver_told i answer (deliver_call (record_in i) queue out body) (deliver_call (record_in i) queue out body).result.answer

  abbrev behind_deliver : ℕ
  behind_deliver = cond (wrong_queue (node_of (record_in i) []) (record_in i).held queue) 4 (cond (at_limit (node_at (record_in i) queue)) 5 0)

  -- the answer or an output is too short
  abbrev pub short_lent : Bool
  short_lent = ltb (length answer) answer_size || short_outputs (length out) (length body)

  deliver-first : deliver_refusal (record_in i) queue short_lent
      ≡ cond (broken_record (record_in i)) 2
      (cond (ltb (length answer) answer_size || (short_outputs (length out) (length body) || not (eqb (length queue) queue_size))) 3 behind_deliver)
  unfolding deliver_refusal record_refusal
  deliver-first = rw (or_assoc (ltb (length answer) answer_size) (short_outputs (length out) (length body)) (not (eqb (length queue) queue_size)))

  deliver-own : (deliver_refusal (record_in i) queue (short_outputs (length out) (length body)) ≡ 0 → ⊥)
      → delivered ≡ deliver_left (deliver_refusal (record_in i) queue (short_outputs (length out) (length body))) i queue out body answer
  deliver-own h = ap (λ (c : AfterDeliver). deliver_told i answer c c.result.answer) (sym (deliver-refused (record_in i) queue out body _ refl h))

  -- the image is not opened
  pub deliver_20 : (k : ℕ) → k ≡ closed i → (k ≡ 0 → ⊥) → deliver_left k i queue out body answer ≡ exported_deliver i queue out body answer
  unfolding exported_deliver
  deliver_20 k e h = let c = closed_at (unsealed i) k e h in rw (c.0, bad-unsealed i c.1)

  -- or it is, as that of this node, whose check gave j: k is told
  module _ (u : 0 ≡ closed i) (node : Record) (p : node ≡ record_in i) (short : Bool) (j : ℕ) (s : short ≡ short_lent) (e : j ≡ deliver_refusal node queue short) where
    deliver-judged : j ≡ deliver_refusal (record_in i) queue short_lent
    deliver-judged = e ∙ ap₂ (λ (r : Record) (b : Bool). deliver_refusal r queue b) p s

    pub deliver-why : (k : ℕ) → k ≡ told j → (k ≡ 0 → ⊥) → deliver_left k i queue out body answer ≡ exported_deliver i queue out body answer
    unfolding exported_deliver deliver_refusal record_refusal
    deliver-why k t h =
        let n : (j ≡ 0 → ⊥) = λ z. h (t ∙ ap told z) in
        rw (t, bad-sealed i (open_at (unsealed i) u))
        (refused-by (λ (x : ℕ). deliver_left x i queue out body answer) delivered (broken_record (record_in i)) (ltb (length answer) answer_size)
        (short_outputs (length out) (length body) || not (eqb (length queue) queue_size)) behind_deliver
        (not-two (wrong_queue (node_of (record_in i) []) (record_in i).held queue) 4 _ (λ z. omega arith)
        (not-two (at_limit (node_at (record_in i) queue)) 5 0 (λ z. omega arith) (λ z. omega arith))) deliver-own j (deliver-judged ∙ deliver-first) n)

    -- what a deliver that passed the checks knows
    pub record DeliverReady : Type 0 where
      pub long : answer_size ≤ length answer
      pub passes : deliver_refusal node queue (short_outputs (length out) (length body)) ≡ 0
      pub made : exported_deliver i queue out body answer ≡ delivered

    pub deliver-ready : 0 ≡ told j → DeliverReady
    unfolding exported_deliver deliver_refusal record_refusal
    deliver-ready t =
        let q = passed-by (broken_record (record_in i)) (ltb (length answer) answer_size)
        (short_outputs (length out) (length body) || not (eqb (length queue) queue_size)) behind_deliver (sym deliver-first ∙ sym deliver-judged ∙ told-none j t) in
        record {
          long = nltb→le (length answer) answer_size (of_false _ q.answer);
          passes = rw p q.call;
          made = rw (bad-sealed i (open_at (unsealed i) u), q.record₀, q.answer);
        }

    pub deliver-nothing : DeliverReady → (answer₁ : List ℕ) → 0 ≡ place_of (searched node queue) → answer₁ ≡ put answer 0 (nothing_bytes node.held)
        → deliver_left 0 i queue out body answer₁ ≡ exported_deliver i queue out body answer
    deliver-nothing w answer₁ f y =
        ap (λ (z : List ℕ). deliver_left 0 i queue out body z) y
        ∙ ap (λ (c : AfterDeliver). deliver_told i answer c c.result.answer)
        (deliver-none node queue out body f ∙ deliver-accepted node queue out body w.passes ∙ ap (λ (r : Record). deliver_call r queue out body) p) ∙ sym w.made

    -- what it took and left
    module _ (w : DeliverReady) (d : Delivered) (node₁ : Record) (queue₁ out₁ body₁ : List ℕ)
        (a : after_deliver (record { answer = deliver_answer.Frame d; node = node₁ }) queue₁ out₁ body₁ ≡ deliver_call node queue out body) where
      -- its numbers are small
      pub deliver-small : (d.tried < 256) × (d.body < 256) × (d.extras < 256) × (d.bytes < 65536)
      deliver-small =
          let f : DeliveredFacts node.n out out₁ d
          = subst (λ (c : AfterDeliver). DeliverTold node queue out c.result.answer c) (sym a) (deliver-told node queue out body) in
          (omega (arith, f.tried), omega (arith, f.body), omega (arith, f.few, f.nodes), omega (arith, f.most))

      pub deliver-done : (i₁ answer₁ : List ℕ) → i₁ ≡ image (with_held node₁.held (with_vector node₁.deliv (with_matrix node₁.m (record_in i))))
          → answer₁ ≡ put answer 0 (delivery_bytes d)
          → deliver_left 0 i₁ queue₁ out₁ body₁ answer₁ ≡ exported_deliver i queue out body answer
      deliver-done i₁ answer₁ x y =
          let same : with_record node₁ (record_in i) ≡ node₁ = ap (with_record node₁) (sym p) ∙ sym kept in
          ap₂ (λ (v z : List ℕ). deliver_left 0 v queue₁ out₁ body₁ z) (x ∙ ap image same) y
          ∙ ap (λ (c : AfterDeliver). deliver_told i answer c c.result.answer) (a ∙ ap (λ (r : Record). deliver_call r queue out body) p) ∙ sym w.made
        where
          -- me, n and cap stay
          with_record : Record → Record → Record
          with_record s r = with_held s.held (with_vector s.deliv (with_matrix s.m r))

          leaves : (o : Outcome) (b : Option Label) (t : Record) → (accept_deliver node queue out body o b).result.node ≡ t → t ≡ with_record t node
          leaves o none t z = subst (λ (t : Record). t ≡ with_record t node) z refl
          leaves o (some l) t z = subst (λ (t : Record). t ≡ with_record t node) z refl

          kept : node₁ ≡ with_record node₁ node
          kept = leaves (concluded node queue) (delivery (concluded node queue).answer) node₁
              (ap (λ (c : AfterDeliver). c.result.node) (deliver-accepted node queue out body w.passes ∙ sym a))
