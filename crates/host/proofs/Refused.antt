-- A refused exported call leaves every lent byte. Assumes nothing.
use Prim.Native.Nat.{ℕ}
use mathlib.Core.Bool.{cond}
use mathlib.Core.List.{List}
use mathlib.Core.Option.{Option, none, some}
use mathlib.Core.Path.{◌≡◌, refl}
use lib.Dec.{eqb, ltb}
use lib.ListN.{length}
use Rattle.wire.proofs.Tests.{cond_elim}
use Rattle.node.proofs.Delivering.{concluded}
use Rattle.protocol.specs.Answer.{Label, Outcome, delivery}
use Rattle.node.specs.Answers.{AfterDeliver, AfterOffer, AfterSend}
use Rattle.node.specs.Calls.{accept_deliver}
use Rattle.node.specs.SetUp.{set_up}
use Rattle.node.specs.SetUpAnswer.{SetUpAnswer}
use Rattle.node.specs.SetUpAnswer as set_up_answer
use Rattle.image.specs.Image.{bad_image, image, image_size, record_in}
use Rattle.node.proofs.Cases.{deliver-cases, offer-cases, send-cases}
use Rattle.host.specs.Exports.{DeliverLeft, OfferLeft, SendLeft, SetUpLeft, answer_size, deliver_told, exported_deliver, exported_offer}
use Rattle.host.specs.Exports.{exported_send, exported_set_up, offer_told, send_told, set_up_left, set_up_told}

-- 20, 3 for the answer, and what is left of the node's call: what holds of all three holds of the call
three : {A : Type 0} (P : A → Type 0) (i answer : List ℕ) {x y z : A} → P x → P y → P z
    → P (cond (bad_image i) x (cond (ltb (length answer) answer_size) y z))
three P i answer p q r = cond_elim P (bad_image i) _ _ (λ _. p) (λ _. cond_elim P (ltb (length answer) answer_size) _ _ (λ _. q) (λ _. r))

pub set_up-leaves : (i : List ℕ) (me n cap : ℕ) → ¬ ((exported_set_up i me n cap).status ≡ 0) → (exported_set_up i me n cap).image ≡ i
unfolding exported_set_up
set_up-leaves i me n cap = go (set_up me n cap).answer
  where
    go : (a : SetUpAnswer) → ¬ ((set_up_told i (set_up me n cap).node a).status ≡ 0) → (set_up_told i (set_up me n cap).node a).image ≡ i
    go (set_up_answer.Refused k) h = refl
    go set_up_answer.Ready h =
        cond_elim (λ (x : SetUpLeft). ¬ (x.status ≡ 0) → x.image ≡ i) (eqb (length i) image_size) (set_up_left 0 (image (set_up me n cap).node)) (set_up_left 20 i)
        (λ _ z. absurd (z refl)) (λ _ _. refl) h

module _ (i : List ℕ) (to class : ℕ) (body out answer : List ℕ) where
  abbrev SendSame : SendLeft → Type 0
  SendSame c = ¬ (c.status ≡ 0) → (c.image ≡ i) × (c.out ≡ out) × (c.answer ≡ answer)

  pub send-leaves : SendSame (exported_send i to class body out answer)
  unfolding exported_send
  send-leaves =
      three SendSame i answer (λ _. (refl, refl, refl)) (λ _. (refl, refl, refl))
      (send-cases (λ (c : AfterSend). SendSame (send_told i answer c c.result.answer)) (record_in i) to class body out (λ k _ _. (refl, refl, refl))
      (λ _ h. absurd (h refl)))

module _ (i frame queue answer : List ℕ) where
  abbrev OfferSame : OfferLeft → Type 0
  OfferSame c = ¬ (c.status ≡ 0) → (c.image ≡ i) × (c.queue ≡ queue) × (c.answer ≡ answer)

  pub offer-leaves : OfferSame (exported_offer i frame queue answer)
  unfolding exported_offer
  offer-leaves =
      three OfferSame i answer (λ _. (refl, refl, refl)) (λ _. (refl, refl, refl))
      (offer-cases (λ (c : AfterOffer). OfferSame (offer_told i answer c c.result.answer)) (record_in i) frame queue (λ k _ _. (refl, refl, refl))
      (λ _ h. absurd (h refl)))

module _ (i queue out body answer : List ℕ) where
  abbrev DeliverSame : DeliverLeft → Type 0
  DeliverSame c = ¬ (c.status ≡ 0) → (c.image ≡ i) × (c.queue ≡ queue) × (c.out ≡ out) × (c.body ≡ body) × (c.answer ≡ answer)

  abbrev ToldSame : AfterDeliver → Type 0
  ToldSame c = DeliverSame (deliver_told i answer c c.result.answer)

  -- one that is not refused
  taken : (o : Outcome) (a : Option Label) → ToldSame (accept_deliver (record_in i) queue out body o a)
  taken o none h = absurd (h refl)
  taken o (some a) h = absurd (h refl)

  pub deliver-leaves : DeliverSame (exported_deliver i queue out body answer)
  unfolding exported_deliver
  deliver-leaves =
      three DeliverSame i answer (λ _. (refl, refl, refl, refl, refl)) (λ _. (refl, refl, refl, refl, refl))
      (deliver-cases ToldSame (record_in i) queue out body (λ k _ _. (refl, refl, refl, refl, refl))
      (λ _. taken (concluded (record_in i) queue) (delivery (concluded (record_in i) queue).answer)))
