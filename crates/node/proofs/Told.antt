-- What the answer of a call tells: the number of its refusal, the frames that the call wrote, and that its numbers are small. Assumes nothing.
use Rattle.std.specs.Prelude.{Err, Ok, Result}
use Prim.Native.Nat.{ℕ, suc, ◌+◌, ◌-◌, ◌*◌, ◌≤◌, ◌<◌}
use mathlib.Core.List.{List, [], ◌∷◌}
use mathlib.Core.Path.{◌∙◌, ◌≡◌, refl, subst, sym}
use native.Mathlib.Decide.{ℕ_discrete}
use native.Mathlib.Omega.{arith}
use lib.ListN.{length, length-append}
use Rattle.wire.proofs.Bytes.{length-put}
use Rattle.wire.specs.Bytes.{put}
use Rattle.wire.specs.Limits.{max_body, max_count, max_nodes}
use Rattle.matrix.specs.Array.{entry}
use Rattle.matrix.specs.Matrix.{clear}
use Rattle.matrix.specs.Message.{Kind, user, extra, Message, user_message}
use Rattle.frame.specs.Frame.{decode}
use Rattle.frame.specs.Frames.{frames_of}
use Rattle.frame.specs.Header.{header, kind_byte}
use Rattle.arrival.specs.CheckedFrame.{CheckedFrame}
use Rattle.holdback.proofs.Parts.{queue-frame}
use Rattle.holdback.proofs.Queues.{found-held}
use Rattle.holdback.proofs.Searched.{found_none}
use Rattle.holdback.specs.Places.{frame_at, place_of}
use Rattle.holdback.specs.Slots.{held_messages}
use Rattle.protocol.proofs.Extras.{delivery-most, one_user, send-one}
use Rattle.protocol.specs.Answer.{delivery}
use Rattle.protocol.specs.Deliver.{Search, conclude, learn}
use Rattle.protocol.specs.Offer.{deliverable}
use Rattle.protocol.specs.Send.{sending}
use Rattle.protocol.specs.Trim.{trim_for}
use Rattle.trim.proofs.Outputs.{delivery-bytes, send-bytes}
use Rattle.node.proofs.Cases.{deliver-cases, offer-cases, send-cases}
use Rattle.node.proofs.Sending.{sendable}
use Rattle.node.proofs.Offering.{length_messages, offerable}
use Rattle.node.proofs.Delivering.{Ready, deliver-ready, searched}
use Rattle.node.proofs.Taking.{bodied, entries-limit, from-below}
use Rattle.refusal.specs.Numbers.{met}
use Rattle.refusal.specs.declared.Refusal.{Refusal}
use Rattle.node.specs.Answers.{AfterSend, AfterOffer, AfterDeliver, deliver_number, offer_number, send_number, set_up_number}
use Rattle.node.specs.Calls.{accept_deliver, accept_send, deliver_call, offer_call, send_call}
use Rattle.node.specs.CallRefusals.{send_refusal}
use Rattle.node.specs.Record.{node_at, node_of}
use Rattle.node.specs.declared.Node.{Node as Record}
use Rattle.node.specs.Delivered.{Delivered}
use Rattle.node.specs.SendAnswer.{SendAnswer}
use Rattle.node.specs.OfferAnswer.{OfferAnswer}
use Rattle.node.specs.DeliverAnswer.{DeliverAnswer}
use Rattle.node.specs.SendAnswer as send_answer
use Rattle.node.specs.OfferAnswer as offer_answer
use Rattle.node.specs.DeliverAnswer as deliver_answer
use Rattle.node.specs.Told.{deliver_told, offer_told, send_told, set_up_told}
use Rattle.node.specs.declared.Found.{Found}
use Rattle.node.specs.declared.Found.TheVariants as found
use Rattle.node.specs.declared.Held.{Held}
use Rattle.node.specs.declared.Issue.{Issue}

-- ---- a refusal is told by the number that the checks have for it

pub set_up-met : (r : Result Unit Refusal) → set_up_number (set_up_told r) ≡ met r
set_up-met (Ok ready) = refl
set_up-met (Err why) = refl

pub send-met : (r : Result Issue Refusal) → send_number (send_told r) ≡ met r
send-met (Ok i) = refl
send-met (Err why) = refl

pub offer-met : (r : Result Held Refusal) → offer_number (offer_told r) ≡ met r
offer-met (Ok h) = refl
offer-met (Err why) = refl

pub deliver-met : (r : Result Found Refusal) → deliver_number (deliver_told r) ≡ met r
deliver-met (Ok (found.Nothing tried)) = refl
deliver-met (Ok (found.Frame d)) = refl
deliver-met (Err why) = refl

-- the frames of these messages, so many bytes, were written from the front of `out` on, which is now o
pub record Wrote (out o : List ℕ) (bytes : ℕ) (l : List Message) : Type 0 where
  pub frames : o ≡ put out 0 (frames_of l)
  pub size : bytes ≡ length (frames_of l)
  pub inside : bytes ≤ length o

-- ---- send

-- an accepted send: what it issued, the user message first
pub record SentFacts (out o : List ℕ) (bytes extras : ℕ) : Type 0 where
  pub issued : List Message
  pub wrote : Wrote out o bytes issued
  pub many : length issued ≡ 1 + extras
  pub few : extras ≤ 1
  pub most : bytes ≤ 814

-- what a send leaves in the output, by its answer
abbrev pub SendTold : List ℕ → SendAnswer → AfterSend → Type 0
SendTold out (send_answer.Refused k) c = Unit {0}
SendTold out (send_answer.Sent bytes extras) c = SentFacts out c.out bytes extras

pub send-told : (r : Record) (to class : ℕ) (body out : List ℕ)
    → SendTold out (send_call r to class body out).result.answer (send_call r to class body out)
send-told r to class body out = send-cases (λ (c : AfterSend). SendTold out c.result.answer c) r to class body out (λ k h. tt) accepted
  where
    accepted : send_refusal r to class body (length out) ≡ 0
        → (let c = accept_send r out (sending (node_of r []) to body) in SendTold out c.result.answer c)
    accepted z =
        let m = entry r.m in
        let first : Message = user_message r.me to r.n r.cap m body in
        let others : List Message = (trim_for 12 r.me r.n r.cap (clear r.me to m)).extras in
        let k = sendable r to class body (length out) z in
        let s = k.sound in
        let one : length others ≤ 1
        = send-one (node_of r []) s.range.below s.range.at_most12 s.range.cap_from s.rules to k.destination k.other s.few in
        let most : length (frames_of (first ∷ others)) ≤ 814
        = send-bytes (node_of r []) s.range.below s.range.at_most12 s.range.cap_from s.rules s.few to body k.destination k.other
        k.short in
        record {
          issued = first ∷ others;
          wrote = record { frames = refl; size = refl; inside = omega (arith, most, length-put out 0 (frames_of (first ∷ others)), k.long) };
          many = omega arith;
          few = omega (arith, one);
          most = most;
        }

-- ---- offer

-- what an offer leaves in the queue, by its answer
abbrev pub OfferTold : List ℕ → OfferAnswer → AfterOffer → Type 0
OfferTold q (offer_answer.Refused k) c = c.queue ≡ q
OfferTold q (offer_answer.Held count ready) c = count ≤ 16

pub offer-told : (r : Record) (s q : List ℕ) → OfferTold q (offer_call r s q).result.answer (offer_call r s q)
offer-told r s q =
    offer-cases (λ (c : AfterOffer). OfferTold q c.result.answer c) r s q (λ k h. refl)
    (λ z. omega (arith, length-append (held_messages r.held q) (decode s ∷ []), length_messages r.held q, (offerable r s q z).holdable.room))

-- ---- deliver

-- what bounds the extras of a user message bounds those of either kind
of_kind_lem : (k : Kind) (l most : ℕ) → l ≤ most * one_user k → l ≤ most
of_kind_lem user l most h = omega arith
of_kind_lem extra l most h = omega arith

-- the body of a sound frame
body-small : (s : List ℕ) → CheckedFrame s → length (decode s).body ≤ max_body
unfolding decode
body-small s c = let b = bodied s (header s) c refl in omega (arith, b.size, b.short)

-- the byte of a kind
kind_byte_lem : (k : Kind) → (0 < kind_byte k) × (kind_byte k ≤ 2)
kind_byte_lem user = (omega arith, omega arith)
kind_byte_lem extra = (omega arith, omega arith)

-- a delivery at a node of n: what it issued, and how large the numbers are that it names
pub record DeliveredFacts (n : ℕ) (out o : List ℕ) (d : Delivered) : Type 0 where
  pub nodes : n ≤ max_nodes
  pub issued : List Message
  pub wrote : Wrote out o d.bytes issued
  pub many : length issued ≡ d.extras
  pub few : d.extras ≤ n - 1
  pub most : d.bytes ≤ 846
  pub body : d.body ≤ max_body
  pub tried : d.tried ≤ 16
  pub kind : (0 < d.kind) × (d.kind ≤ 2)
  pub from : d.from < 12
  pub number : d.number ≤ suc max_count

-- what a deliver leaves in record, queue and output, by its answer
abbrev pub DeliverTold : Record → List ℕ → List ℕ → DeliverAnswer → AfterDeliver → Type 0
DeliverTold r q out (deliver_answer.Refused k) c = c.queue ≡ q
DeliverTold r q out (deliver_answer.Nothing tried) c = (tried ≤ 16) × (c.queue ≡ q) × (c.result.node ≡ r)
DeliverTold r q out (deliver_answer.Frame d) c = DeliveredFacts r.n out c.out d

module _ (r : Record) (q out body : List ℕ) where
  abbrev given : AfterDeliver → Type 0
  given c = DeliverTold r q out c.result.answer c

  -- what the search led to
  abbrev by : Search → Type 0
  by f = given (accept_deliver r q out body (conclude (node_at r q) f) (delivery (conclude (node_at r q) f).answer))

  -- what is issued for the frame at place j
  few : {o b : ℕ} → Ready r q o b → (j : ℕ) → j < r.held
      → (let g : Message = decode (frame_at q j) in length (learn g.kind (node_at r q) g.entries).extras ≤ r.n - 1)
  few k j h =
      let g : Message = decode (frame_at q j) in
      let s = k.sound in
      of_kind_lem g.kind _ (r.n - 1)
      (delivery-most (node_at r q) s.range.below s.range.at_most12 s.range.cap_from s.rules g.entries g.from (k.carries j h).rules g.kind)

  -- and how many bytes: the frame claims no more of the own row than stands there
  bytes : {o b : ℕ} → Ready r q o b → (j : ℕ) → j < r.held
      → (let g : Message = decode (frame_at q j) in length (frames_of (learn g.kind (node_at r q) g.entries).extras) ≤ 846)
  bytes k j h =
      let g : Message = decode (frame_at q j) in
      let s = k.sound in
      let c = k.carries j h in
      let a = k.arrived j h in
      delivery-bytes (node_at r q) s.range.below s.range.at_most12 s.range.cap_from s.rules s.few g.from g.entries c.from
      (λ z. c.apart (z ∙ sym a.here)) c.rules a.claims g.kind

  by-search : Ready r q (length out) (length body) → by (searched r q)
  by-search k = go (ℕ_discrete (place_of (searched r q)) 0)
    where
      go : Dec (place_of (searched r q) ≡ 0) → by (searched r q)
      go (yes p) =
          subst by (sym (found_none (deliverable (node_at r q)) (held_messages r.held q) p)) (
            omega (arith, length_messages r.held q, k.sound.room),
            refl,
            refl,
          )
      go (no p) =
          let j : ℕ = place_of (searched r q) - 1 in
          let x = found-held (deliverable (node_at r q)) r.held q j (omega arith) in
          let sound = queue-frame r.held q k.queue j x.0 in
          let g : Message = decode (frame_at q j) in
          let l : List Message = (learn g.kind (node_at r q) g.entries).extras in
          let most : length (frames_of l) ≤ 846 = bytes k j x.0 in
          subst by (sym x.1)
          record {
            nodes = k.sound.range.at_most12;
            issued = l;
            wrote = record { frames = refl; size = refl; inside = omega (arith, most, length-put out 0 (frames_of l), k.long) };
            many = refl;
            few = few k j x.0;
            most = most;
            body = body-small (frame_at q j) sound;
            tried = omega (arith, x.0, k.sound.room);
            kind = kind_byte_lem g.kind;
            from = from-below (frame_at q j) sound;
            number = omega (arith, entries-limit (frame_at q j) sound g.from g.to);
          }

  pub deliver-told : DeliverTold r q out (deliver_call r q out body).result.answer (deliver_call r q out body)
  deliver-told = deliver-cases given r q out body (λ k h. refl) (λ z. by-search (deliver-ready r q (length out) (length body) z))
