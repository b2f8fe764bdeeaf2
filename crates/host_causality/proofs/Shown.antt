-- An exported call on the image of a sound node shows the host what the node's call answers and leaves. Assumes nothing.
use Prim.Native.Nat.{◌-◌, ◌≤◌, ℕ}
use mathlib.Core.Bool.{cond, false}
use mathlib.Core.List.{List, []}
use mathlib.Core.Option.{Option, none, some}
use mathlib.Core.Path.{◌∙◌, ◌≡◌, ap, refl, subst, sym}
use native.Mathlib.Omega.{arith}
use lib.Dec.{eqb, ltb}
use lib.ListN.{length}
use Rattle.wire.proofs.Tests.{cond_no, le→nltb, ne→neqb, of_false}
use Rattle.frame.specs.Frames.{frames_of}
use Rattle.frame.specs.Header.{kind_byte}
use Rattle.protocol.specs.Answer.{Label, Outcome, delivery, issued}
use Rattle.protocol.specs.Send.{sending}
use Rattle.node.proofs.Delivering.{concluded}
use Rattle.node.proofs.Told.{DeliverTold, SendTold, deliver-told, send-told}
use Rattle.node.specs.Answers.{AfterDeliver, AfterOffer, AfterSend}
use Rattle.node.specs.Calls.{accept_deliver, accept_send, deliver_call, offer_call, send_call, body_of, tried_by}
use Rattle.node.specs.Record.{node_of}
use Rattle.node.specs.Delivered.{Delivered}
use Rattle.node.specs.declared.Node.{Node as Record}
use Rattle.node.specs.SendAnswer as send
use Rattle.node.specs.OfferAnswer as offer
use Rattle.node.specs.DeliverAnswer as deliver
use Rattle.causality.specs.Demand3.{Answer, Step, bytes_issued, delivered, delivers, offered, offers, refusal, sends, sent}
use Rattle.image.proofs.Images.{image_laws}
use Rattle.node.proofs.Cases.{deliver-cases, offer-cases, send-cases}
use Rattle.host.specs.Exports.{DeliverLeft, OfferLeft, SendLeft, answer_size, deliver_told, deliver_left, exported_deliver, exported_offer}
use Rattle.host.specs.Exports.{exported_send, offer_left, offer_told, send_left, send_told}
use Rattle.image.specs.Image.{SoundRecord, bad_image, image, record_in}
use Rattle.host_causality.proofs.Answers.{read-delivery, read-nothing, read-offered, read-sent}
use Rattle.host_causality.specs.HostDemand3.{bytes_told, read_answer}

-- an answer without what an accepted offer does not tell the host: how many are held, and whether the frame was deliverable
abbrev pub forget_answer : Answer → Answer
forget_answer (sent a) = sent a
forget_answer (offered (offer.Refused k)) = offered (offer.Refused k)
forget_answer (offered (offer.Held count ready)) = offered (offer.Held 0 false)
forget_answer (delivered a) = delivered a

-- of the step s the node's call answers a and leaves the record r; the exported one returns k and leaves the image i and the answer's bytes b
pub record Shows (s : Step) (a : Answer) (r : Record) (k : ℕ) (i b : List ℕ) : Type 0 where
  pub status : k ≡ refusal a
  pub image : i ≡ image r
  pub reads : read_answer s k b ≡ forget_answer a
  pub counts : bytes_told k b ≡ bytes_issued a

-- a refusal
no_answer : {A : Type 0} (k : ℕ) (x y : A) → (k ≡ 0 → ⊥) → cond (eqb k 0) x y ≡ y
no_answer k x y h = cond_no (eqb k 0) x y (ne→neqb k 0 h)

module _ (r : Record) (h : SoundRecord r) (answer : List ℕ) (long : answer_size ≤ length answer) where
  -- neither 20 nor 3 for the answer is met
  taken-up : {A : Type 0} (x y z : A) → cond (bad_image (image r)) x (cond (ltb (length answer) answer_size) y z) ≡ z
  taken-up x y z =
      cond_no (bad_image (image r)) x (cond (ltb (length answer) answer_size) y z) (of_false (bad_image (image r)) (image_laws.written r h).good)
      ∙ cond_no (ltb (length answer) answer_size) y z (le→nltb (length answer) answer_size long)

  -- ---- send

  module _ (i to class : ℕ) (body out : List ℕ) where
    send-told-as : exported_send (image r) to class body out answer ≡ (let c = send_call r to class body out in send_told (image r) answer c c.result.answer)
    unfolding exported_send
    send-told-as =
        taken-up (send_left 20 (image r) out answer) (send_left 3 (image r) out answer)
        (let c = send_call (record_in (image r)) to class body out in send_told (image r) answer c c.result.answer)
        ∙ ap (λ (x : Record). let c = send_call x to class body out in send_told (image r) answer c c.result.answer) (image_laws.back r h)

    abbrev SendShown : AfterSend → SendLeft → Type 0
    SendShown c e = Shows (sends i to class body out) (sent c.result.answer) c.result.node e.status e.image e.answer × (e.out ≡ c.out)

    abbrev SendToldShown : AfterSend → Type 0
    SendToldShown c = SendShown c (send_told (image r) answer c c.result.answer)

    send-told-shown : SendToldShown (send_call r to class body out)
    send-told-shown =
        send-cases (λ (c : AfterSend). SendTold out c.result.answer c → SendToldShown c) r to class body out
        (λ k z _. (record { status = refl; image = refl; reads = ap sent (no_answer k _ (send.Refused k) z); counts = no_answer k _ 0 z }, refl))
        (λ _. accepted (sending (node_of r []) to body)) (send-told r to class body out)
      where
        accepted : (o : Outcome) → (let c = accept_send r out o in SendTold out c.result.answer c → SendToldShown c)
        accepted o t =
            let l = issued o.answer in
            let x = read-sent answer long (length (frames_of l)) (length l - 1) (omega (arith, t.most)) in
            (record { status = refl; image = refl; reads = ap sent x.0; counts = x.1 }, refl)

    pub send-shown : SendShown (send_call r to class body out) (exported_send (image r) to class body out answer)
    send-shown = subst (SendShown (send_call r to class body out)) (sym send-told-as) send-told-shown

  -- ---- offer

  module _ (i p : ℕ) (frame queue : List ℕ) where
    offer-told-as : exported_offer (image r) frame queue answer ≡ (let c = offer_call r frame queue in offer_told (image r) answer c c.result.answer)
    unfolding exported_offer
    offer-told-as =
        taken-up (offer_left 20 (image r) queue answer) (offer_left 3 (image r) queue answer)
        (let c = offer_call (record_in (image r)) frame queue in offer_told (image r) answer c c.result.answer)
        ∙ ap (λ (x : Record). let c = offer_call x frame queue in offer_told (image r) answer c c.result.answer) (image_laws.back r h)

    abbrev OfferShown : AfterOffer → OfferLeft → Type 0
    OfferShown c e = Shows (offers i p) (offered c.result.answer) c.result.node e.status e.image e.answer × (e.queue ≡ c.queue)

    abbrev OfferToldShown : AfterOffer → Type 0
    OfferToldShown c = OfferShown c (offer_told (image r) answer c c.result.answer)

    offer-told-shown : OfferToldShown (offer_call r frame queue)
    offer-told-shown =
        offer-cases OfferToldShown r frame queue
        (λ k z. (record { status = refl; image = refl; reads = ap offered (no_answer k _ (offer.Refused k) z); counts = no_answer k _ 0 z }, refl))
        (λ _. (
          record { status = refl; image = refl; reads = refl; counts = read-offered answer long },
          refl,
        ))

    pub offer-shown : OfferShown (offer_call r frame queue) (exported_offer (image r) frame queue answer)
    offer-shown = subst (OfferShown (offer_call r frame queue)) (sym offer-told-as) offer-told-shown

  -- ---- deliver

  module _ (i : ℕ) (queue out body : List ℕ) where
    deliver-told-as : exported_deliver (image r) queue out body answer
        ≡ (let c = deliver_call r queue out body in deliver_told (image r) answer c c.result.answer)
    unfolding exported_deliver
    deliver-told-as =
        taken-up (deliver_left 20 (image r) queue out body answer) (deliver_left 3 (image r) queue out body answer)
        (let c = deliver_call (record_in (image r)) queue out body in deliver_told (image r) answer c c.result.answer)
        ∙ ap (λ (x : Record). let c = deliver_call x queue out body in deliver_told (image r) answer c c.result.answer) (image_laws.back r h)

    abbrev DeliverShown : AfterDeliver → DeliverLeft → Type 0
    DeliverShown c e =
        Shows (delivers i out body) (delivered c.result.answer) c.result.node e.status e.image e.answer
        × (e.queue ≡ c.queue) × (e.out ≡ c.out)

    -- what a delivery's answer names
    abbrev delivered_frame : Outcome → Label → Delivered
    delivered_frame o a =
        record {
          kind = kind_byte a.kind;
          from = a.from;
          number = a.number;
          tried = tried_by o.answer;
          body = length (body_of o.answer);
          bytes = length (frames_of (issued o.answer));
          extras = length (issued o.answer);
        }

    abbrev DeliverToldShown : AfterDeliver → Type 0
    DeliverToldShown c = DeliverShown c (deliver_told (image r) answer c c.result.answer)

    deliver-told-shown : DeliverToldShown (deliver_call r queue out body)
    deliver-told-shown =
        deliver-cases (λ (c : AfterDeliver). DeliverTold r queue out c.result.answer c → DeliverToldShown c) r queue out body
        (λ k z _. (record { status = refl; image = refl; reads = ap delivered (no_answer k _ (deliver.Refused k) z); counts = no_answer k _ 0 z }, refl, refl))
        (λ _. accepted (concluded r queue) (delivery (concluded r queue).answer)) (deliver-told r queue out body)
      where
        accepted : (o : Outcome) (a : Option Label) → (let c = accept_deliver r queue out body o a in
            DeliverTold r queue out c.result.answer c → DeliverToldShown c)
        accepted o none t =
            let x = read-nothing answer long (tried_by o.answer) in
            (record { status = refl; image = refl; reads = ap delivered x.0; counts = x.1 }, refl, refl)
        accepted o (some a) t =
            let x = read-delivery answer long (delivered_frame o a) t.kind.0 (omega (arith, t.number)) (omega (arith, t.most)) in
            (record { status = refl; image = refl; reads = ap delivered x.0; counts = x.1 }, refl, refl)

    pub deliver-shown : DeliverShown (deliver_call r queue out body) (exported_deliver (image r) queue out body answer)
    deliver-shown = subst (DeliverShown (deliver_call r queue out body)) (sym deliver-told-as) deliver-told-shown
