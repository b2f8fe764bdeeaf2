-- A step that issues and delivers nothing, a refused one too: every part of the invariant stays.
use Prim.Native.Nat.{ℕ, ◌<◌}
use mathlib.Core.Bool.{true}
use mathlib.Core.List.{[], ◌∷◌, ◌++◌}
use mathlib.Core.Logic.{◌⊎◌, inl, inr}
use mathlib.Core.Option.{none, some}
use mathlib.Core.Path.{◌≡◌}
use native.Mathlib.Omega.{arith}
use lib.ListN.{get_elem?}
use Rattle.protocol.proofs.History.{delivered-grow, New, delivered-snoc, Last, by-node, by-message, early', later', before-old, before_last}
use Rattle.protocol.proofs.Lists.{at_bound, Snoc, at_snoc}
use Rattle.protocol.proofs.State.{State, At, IsUser, Before, UpTo, Accounted, Invariant}
use Rattle.protocol.specs.Answer.{Label, accepted, delivery}
use Rattle.protocol.specs.Order.{DeliveredAt}
use Rattle.protocol.specs.World.{Issue, Event}

-- the state after a step e that changes no matrix and no vector
abbrev pub after_quiet : State → Event → State
after_quiet w e = record { log = w.log; history = w.history ++ (e ∷ []); matrix = w.matrix; deliv = w.deliv }

module _ (w : State) (v : Invariant w) (e : Event) (quiet : delivery e.answer ≡ none) where
  -- the state after the step
  abbrev w' : State
  w' = after_quiet w e

  -- it delivers nothing
  quiet_delivered : (b : ℕ) (g : Issue) → DeliveredAt w'.history b g.message → DeliveredAt w.history b g.message
  quiet_delivered b g d = go (delivered-snoc w.history e b g d)
    where
      go : DeliveredAt w.history b g.message ⊎ New w.history e b g → DeliveredAt w.history b g.message
      go (inl x) = x
      go (inr x) = let z : ◌≡◌ {A = ℕ} 0 1 = cc in absurd (omega arith)

  -- a step that delivered something is an old one
  quiet_event : (t : ℕ) (x : Event) (k : Label) → get_elem? w'.history t ≡ some x → delivery x.answer ≡ some k → get_elem? w.history t ≡ some x
  quiet_event t x k a g = go (at_snoc w.history e t x a)
    where
      go : Snoc w.history e t x → get_elem? w.history t ≡ some x
      go (inl y) = y
      go (inr y) = let z : ◌≡◌ {A = ℕ} 0 1 = cc in absurd (omega arith)

  -- the past of a node is delivered or covered
  node_covers' : (p b i : ℕ) (m : Issue) (x : Event) → At w p m → IsUser m → get_elem? w'.history b ≡ some x → accepted x.answer ≡ true → x.node ≡ i
      → UpTo w' m.step b → Accounted w m (λ y. w.matrix i y m.message.to)
  node_covers' p b i m x a u at ok nd upto = go (at_snoc w.history e b x at) upto
    where
      last : (x ≡ e) → Last w e m.step → Accounted w m (λ y. w.matrix i y m.message.to)
      last q (by-node c y at' ok' nd' r) = v.node_covers p c i m y a u at' ok' (cc) r
      last q (by-message p' g at' u' nd' k r) = let z : ◌≡◌ {A = ℕ} 0 1 = cc in absurd (omega arith)

      go : Snoc w.history e b x → UpTo w' m.step b → Accounted w m (λ y. w.matrix i y m.message.to)
      go (inl h) (inl q) = v.node_covers p b i m x a u h ok nd (inl q)
      go (inl h) (inr q) = v.node_covers p b i m x a u h ok nd (inr (before-old w v e m.step b q (at_bound w.history b x h)))
      go (inr h) (inl q) = absurd (omega (arith, v.early p m a u))
      go (inr h) (inr q) = last h.1 (before_last w v e m.step b q h.0)

  -- deliveries are as they were
  causal' : (p q u : ℕ) (m g : Issue) → At w p m → At w q g → IsUser m → IsUser g → m.message.to ≡ g.message.to
      → Before w' m.step g.step → DeliveredAt w'.history u g.message → (t : ℕ) × (t < u) × DeliveredAt w'.history t m.message
  causal' p q u m g a b um ug d before dl =
      let r = v.causal p q u m g a b um ug d (before-old w v e m.step g.step before (v.early q g b ug)) (quiet_delivered u g dl) in
      (r.0, r.1, delivered-grow w.history e r.0 m r.2)

  -- all parts together
  pub quiet_invariant : Invariant (after_quiet w e)
  quiet_invariant = record {
    early = early' w v e;
    one_each = v.one_each;
    distinct = v.distinct;
    numbered = v.numbered;
    kept = v.kept;
    carried = v.carried;
    deliv_bound = v.deliv_bound;
    closed = v.closed;
    seen = λ p g a d. let r = v.seen p g a d in (r.0, delivered-grow w.history e r.0 g r.1);
    told = λ t x k a g. v.told t x k (quiet_event t x k a g) g;
    later = later' w v e;
    once = λ t u x y k l a b g h. v.once t u x y k l (quiet_event t x k a g) (quiet_event u y l b h) g h;
    own = v.own;
    node_covers = node_covers';
    message_covers = λ p q m g a b um ug before. v.message_covers p q m g a b um ug (before-old w v e m.step g.step before (v.early q g b ug));
    causal = causal';
  }
