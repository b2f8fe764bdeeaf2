-- No message is accepted twice: what an accepted offer took is delivered or held, so that another offer of it meets 14 or 15. Assumes nothing.
use Prim.Native.Nat.{ℕ, ◌<◌}
use mathlib.Core.Bool.{true, not}
use mathlib.Core.List.{List, [], ◌∷◌, ◌++◌}
use mathlib.Core.Logic.{inl, inr}
use mathlib.Core.Option.{some}
use mathlib.Core.Path.{◌≡◌, ◌∙◌, ap, refl, subst, sym}
use native.Mathlib.Omega.{arith}
use lib.Dec.{T, eqb, eqb→eq, nleb→lt}
use lib.ListN.{get_elem?}
use Rattle.matrix.specs.Message.{Message, number}
use Rattle.protocol.proofs.Good.{Good, Kept}
use Rattle.protocol.proofs.Lists.{Snoc, at_none, at_snoc}
use Rattle.protocol.proofs.Offering.{offer_checks_lem}
use Rattle.protocol.proofs.Origins.{other_origin}
use Rattle.protocol.proofs.Runs.{step-cases, step-good}
use Rattle.protocol.specs.Answer.{Outcome, accepted, refuse}
use Rattle.protocol.specs.Deliver.{deliver}
use Rattle.protocol.specs.Node.{Node}
use Rattle.protocol.specs.Offer.{delivered_before, held_already, not_for_me, offer}
use Rattle.protocol.specs.Send.{send}
use Rattle.protocol.specs.World.{Event, Issue, IssueAt, Step, World, after_step, delivers, offers, run, sends, start, step}
use Rattle.wire.proofs.Tests.{not-not}

-- an accepted offer of issue p
pub record Accepts (e : Event) (p : ℕ) : Type 0 where
  pub node : ℕ
  pub offered : e.step ≡ offers node p
  pub accepted : accepted e.answer ≡ true

-- no two places of a history have accepted offers of one issue
abbrev pub AcceptedOnce : List Event → Type 0
AcceptedOnce h = (t u p : ℕ) (e f : Event) → get_elem? h t ≡ some e → get_elem? h u ≡ some f → Accepts e p → Accepts f p → t ≡ u

-- one event more
once-snoc : (h : List Event) (b : Event) → AcceptedOnce h → ((t p : ℕ) (e : Event) → get_elem? h t ≡ some e → Accepts e p → Accepts b p → ⊥)
    → AcceptedOnce (h ++ (b ∷ []))
once-snoc h b once new t u p e f x y k l = go (at_snoc h b t e x) (at_snoc h b u f y)
  where
    go : Snoc h b t e → Snoc h b u f → t ≡ u
    go (inl a) (inl c) = once t u p e f a c k l
    go (inl a) (inr c) = absurd (new t p e a k (subst (λ (z : Event). Accepts z p) c.1 l))
    go (inr a) (inl c) = absurd (new u p f c l (subst (λ (z : Event). Accepts z p) a.1 k))
    go (inr a) (inr c) = a.0 ∙ sym c.0

-- an offer that is accepted is of a message that is for the node, not delivered and not held
abbrev Free : Node → Message → Type 0
Free d m = T (not (not_for_me d m)) × T (not (delivered_before d m)) × T (not (held_already d m))

accepted-free : (d : Node) (m : Message) → accepted (offer d m).answer ≡ true → Free d m
accepted-free d m = offer_checks_lem d m P (λ _. refused 12) (λ _. refused 13) (λ _. refused 14) (λ _. refused 15) (λ _. refused 16) (λ a b c _ _. (a, b, c))
  where
    P : Outcome → Type 0
    P r = accepted r.answer ≡ true → Free d m

    refused : (k : ℕ) → P (refuse k d)
    refused k z = let y : ◌≡◌ {A = ℕ} 0 1 = cc in absurd (omega arith)

module _ (n : ℕ) (caps : ℕ → ℕ) (w : World) (g : Good n caps w) (once : AcceptedOnce w.history) where
  -- of issue p, which is l, at node i
  module _ (i : ℕ) (hi : i < n) (p : ℕ) (l : Issue) (at : IssueAt w p l) where
    abbrev d : Node
    d = w.nodes i

    -- what was taken before is not taken again
    again : Kept (w.nodes l.message.to) l.message → accepted (offer d l.message).answer ≡ true → ⊥
    again k z =
        let f = accepted-free d l.message z in
        let here : l.message.to ≡ i = eqb→eq l.message.to d.me (not-not (eqb l.message.to d.me) f.0) ∙ (g.node i hi).me in
        go f (subst (λ (x : ℕ). Kept (w.nodes x) l.message) here k)
      where
        go : Free d l.message → Kept d l.message → ⊥
        go f (inl h) = omega (arith, nleb→lt (number l.message) (d.deliv l.message.from) f.1)
        go f (inr h) = other_origin d.held l.message f.2 h.0 l.message h.1 refl refl

    offer-once : AcceptedOnce (after_step w i (offers i p) (offer d l.message)).history
    offer-once = once-snoc w.history _ once new
      where
        new : (t q : ℕ) (e : Event) → get_elem? w.history t ≡ some e → Accepts e q
            → Accepts (record { node = i; step = offers i p; answer = (offer d l.message).answer }) q → ⊥
        new t q e a k b =
            let z : p ≡ q = let z' = b.offered in cc in
            let x = g.taken t k.node q e a k.offered k.accepted in
            let y : x.0 ≡ l = let y' : some x.0 ≡ some l = sym x.1 ∙ ap (get_elem? w.log) (sym z) ∙ at in cc in
            again (subst (λ (f : Issue). Kept (w.nodes f.message.to) f.message) y x.2) b.accepted

  -- a step that is no offer
  other-once : (i : ℕ) (s : Step) (r : Outcome) → ((j p : ℕ) → s ≡ offers j p → ⊥) → AcceptedOnce (after_step w i s r).history
  other-once i s r h = once-snoc w.history _ once (λ t p e a k b. h b.node p b.offered)

  step-once : (s : Step) → AcceptedOnce (step n w s).history
  step-once =
      step-cases n w (λ (z : World). AcceptedOnce z.history) once
      (λ i to body _. other-once i (sends i to body) (send (w.nodes i) to body) (λ j p z. let y : ◌≡◌ {A = ℕ} 0 1 = cc in omega arith))
      (λ i p l hi at. offer-once i hi p l at)
      (λ i _. other-once i (delivers i) (deliver (w.nodes i)) (λ j p z. let y : ◌≡◌ {A = ℕ} 0 1 = cc in omega arith))

-- a list of steps
pub run-once : (n : ℕ) (caps : ℕ → ℕ) (w : World) (l : List Step) → Good n caps w → AcceptedOnce w.history → AcceptedOnce (run n w l).history
run-once n caps w [] g once = once
run-once n caps w (s ∷ l) g once = run-once n caps (step n w s) l (step-good n caps w s g) (step-once n caps w g once s)

-- from fresh nodes
pub start-once : (n : ℕ) (caps : ℕ → ℕ) → AcceptedOnce (start n caps).history
start-once n caps t u p e f a = absurd (at_none t e a)
