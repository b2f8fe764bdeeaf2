-- The calls by cases: what holds of every refusal, and of what the call leaves where no check is met, holds of the call. Assumes nothing.
use Prim.Native.Nat.{ℕ}
use mathlib.Core.List.{List, []}
use mathlib.Core.Path.{◌≡◌, refl, subst}
use native.Mathlib.Decide.{ℕ_discrete}
use lib.ListN.{length}
use Rattle.protocol.specs.Answer.{delivery}
use Rattle.protocol.specs.Offer.{holding}
use Rattle.protocol.specs.Send.{sending}
use Rattle.frame.specs.Frame.{decode}
use Rattle.node.proofs.Delivering.{concluded, deliver-accepted, deliver-refused}
use Rattle.node.proofs.Offering.{offer-accepted, offer-refused}
use Rattle.node.proofs.Sending.{send-accepted, send-refused}
use Rattle.node.specs.Answers.{AfterDeliver, AfterOffer, AfterSend}
use Rattle.node.specs.CallRefusals.{deliver_refusal, offer_refusal, send_refusal, short_outputs}
use Rattle.node.specs.Calls.{accept_deliver, accept_offer, accept_send, deliver_call, offer_call, refuse_deliver, refuse_offer, refuse_send, send_call}
use Rattle.node.specs.Record.{node_at, node_of}
use Rattle.node.specs.declared.Node.{Node as Record}

pub send-cases : (P : AfterSend → Type 0) (r : Record) (to class : ℕ) (body out : List ℕ) → ((k : ℕ) → (k ≡ 0 → ⊥) → P (refuse_send k r out))
    → (send_refusal r to class body (length out) ≡ 0 → P (accept_send r out (sending (node_of r []) to body))) → P (send_call r to class body out)
send-cases P r to class body out refused accepted = go (ℕ_discrete k 0)
  where
    k : ℕ
    k = send_refusal r to class body (length out)

    go : Dec (k ≡ 0) → P (send_call r to class body out)
    go (yes z) = subst P (send-accepted r to class body out z) (accepted z)
    go (no h) = subst P (send-refused r to class body out k refl h) (refused k h)

pub offer-cases : (P : AfterOffer → Type 0) (r : Record) (s q : List ℕ) → ((k : ℕ) → (k ≡ 0 → ⊥) → P (refuse_offer k r q))
    → (offer_refusal r s q ≡ 0 → P (accept_offer r s q (holding (node_at r q) (decode s)))) → P (offer_call r s q)
offer-cases P r s q refused accepted = go (ℕ_discrete (offer_refusal r s q) 0)
  where
    go : Dec (offer_refusal r s q ≡ 0) → P (offer_call r s q)
    go (yes z) = subst P (offer-accepted r s q z) (accepted z)
    go (no h) = subst P (offer-refused r s q (offer_refusal r s q) refl h) (refused (offer_refusal r s q) h)

pub deliver-cases : (P : AfterDeliver → Type 0) (r : Record) (q out body : List ℕ) → ((k : ℕ) → (k ≡ 0 → ⊥) → P (refuse_deliver k r q out body))
    → (deliver_refusal r q (short_outputs (length out) (length body)) ≡ 0 → P (accept_deliver r q out body (concluded r q) (delivery (concluded r q).answer)))
    → P (deliver_call r q out body)
deliver-cases P r q out body refused accepted = go (ℕ_discrete k 0)
  where
    k : ℕ
    k = deliver_refusal r q (short_outputs (length out) (length body))

    go : Dec (k ≡ 0) → P (deliver_call r q out body)
    go (yes z) = subst P (deliver-accepted r q out body z) (accepted z)
    go (no h) = subst P (deliver-refused r q out body k refl h) (refused k h)
