-- What an accepted offer does not tell a host, forgotten: an answer is still as much a refusal or a delivery, and a history orders the same steps.
-- Assumes nothing.
use Prim.Native.Nat.{◌+◌, ℕ}
use mathlib.Core.Bool.{Bool, cond, false, true}
use mathlib.Core.List.{List, [], ◌∷◌, map}
use mathlib.Core.Path.{◌∙◌, ◌≡◌, ap, ap₂, refl, sym}
use lib.Dec.{eqb}
use Rattle.matrix.specs.Matrix.{count}
use Rattle.protocol.proofs.Lists.{at_map, map_at}
use Rattle.node.specs.OfferAnswer as offer
use Rattle.causality.specs.Ceiling.{extras, users_delivered, users_issued}
use Rattle.causality.specs.Demand3.{Answer, DeliveredAt, Event, HappenedBefore, Issue}
use Rattle.causality.specs.Demand3.{accepted, answers_at, chain, delivered, deliveries, delivery, message}
use Rattle.causality.specs.Demand3.{offered, offers_accepted, refusal, same_node, sent, sum_over}
use Rattle.causality.specs.ListRefusals.{Expected}
use Rattle.host_causality.proofs.Sees.{forget_event}
use Rattle.host_causality.proofs.Shown.{forget_answer}

-- ---- an answer

-- what looks at no number of an accepted offer stays
same-without : {A : Type 0} (f : Answer → A) → ((count : ℕ) (ready : Bool) → f (offered (offer.Held 0 false)) ≡ f (offered (offer.Held count ready)))
    → (a : Answer) → f (forget_answer a) ≡ f a
same-without f h (sent a) = refl
same-without f h (offered (offer.Refused k)) = refl
same-without f h (offered (offer.Held count ready)) = h count ready
same-without f h (delivered a) = refl

pub same-refusal : (a : Answer) → refusal (forget_answer a) ≡ refusal a
same-refusal = same-without refusal (λ count ready. refl)

pub same-delivery : (a : Answer) → delivery (forget_answer a) ≡ delivery a
same-delivery = same-without delivery (λ count ready. refl)

pub same_taken : (a : Answer) → offers_accepted (forget_answer a) ≡ offers_accepted a
same_taken = same-without offers_accepted (λ count ready. refl)

pub same-given : (a : Answer) → deliveries (forget_answer a) ≡ deliveries a
same-given = same-without deliveries (λ count ready. refl)

pub same-extras : (a : Answer) → extras (forget_answer a) ≡ extras a
same-extras = same-without extras (λ count ready. refl)

pub same-issued : (a : Answer) → users_issued (forget_answer a) ≡ users_issued a
same-issued = same-without users_issued (λ count ready. refl)

pub same_received : (a : Answer) → users_delivered (forget_answer a) ≡ users_delivered a
same_received = same-without users_delivered (λ count ready. refl)

pub same-expected : (a : Answer) → Expected a → Expected (forget_answer a)
same-expected (sent a) e = e
same-expected (offered (offer.Refused k)) e = e
same-expected (offered (offer.Held count ready)) e = e
same-expected (delivered a) e = e

-- an event that is accepted, forgotten or not
pub accepted-back : (e f : Event) → forget_event e ≡ f → accepted f.answer ≡ true → accepted e.answer ≡ true
accepted-back e f z a = ap (λ (k : ℕ). eqb k 0) (sym (same-refusal e.answer)) ∙ ap (λ (x : Event). accepted x.answer) z ∙ a

-- ---- a history

module _ (l : List Event) where
  pub delivered-there : (t : ℕ) (s : List ℕ) → DeliveredAt l t s → DeliveredAt (map forget_event l) t s
  delivered-there t s d =
      record {
        event = forget_event d.event;
        at = at_map forget_event l t d.event d.at;
        here = d.here;
        names = same-delivery d.event.answer ∙ d.names;
      }

  pub delivered-back : (t : ℕ) (s : List ℕ) → DeliveredAt (map forget_event l) t s → DeliveredAt l t s
  delivered-back t s d =
      let x = map_at forget_event l t d.event d.at in
      record {
        event = x.0;
        at = x.1;
        here = ap (λ (e : Event). e.node) x.2 ∙ d.here;
        names = sym (same-delivery x.0.answer) ∙ ap (λ (e : Event). delivery e.answer) x.2 ∙ d.names;
      }

  pub before_back : (log : List Issue) (a b : ℕ) → HappenedBefore log (map forget_event l) a b → HappenedBefore log l a b
  before_back log a b (same_node _ _ e f lt ea fa ae af same) =
      let x = map_at forget_event l a e ea in
      let y = map_at forget_event l b f fa in
      same_node a b x.0 y.0 lt x.1 y.1 (accepted-back x.0 e x.2 ae) (accepted-back y.0 f y.2 af)
      (ap (λ (z : Event). z.node) x.2 ∙ same ∙ ap (λ (z : Event). z.node) (sym y.2))
  before_back log a b (message _ _ p g at u s d) = message a b p g at u s (delivered-back b g.frame d)
  before_back log a b (chain _ k _ x y) = chain a k b (before_back log a k x) (before_back log k b y)

pub same-answers : (f : Answer → ℕ) → ((a : Answer) → f (forget_answer a) ≡ f a) → (j : ℕ) (l : List Event) → answers_at f j (map forget_event l) ≡ answers_at f j l
same-answers f h j [] = refl
same-answers f h j (e ∷ l) = ap₂ ◌+◌ (ap (λ (k : ℕ). cond (eqb e.node j) k 0) (h e.answer)) (same-answers f h j l)

pub same_sum : (f : Answer → ℕ) → ((a : Answer) → f (forget_answer a) ≡ f a) → (l : List Event) → sum_over f (map forget_event l) ≡ sum_over f l
same_sum f h [] = refl
same_sum f h (e ∷ l) = ap₂ ◌+◌ (h e.answer) (same_sum f h l)
