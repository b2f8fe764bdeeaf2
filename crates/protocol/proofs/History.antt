-- A step is added to the history: what it delivers, and what happened before it.
use Prim.Native.Nat.{ℕ, ◌<◌}
use mathlib.Core.Bool.{true}
use mathlib.Core.List.{List, [], ◌∷◌, ◌++◌}
use mathlib.Core.Logic.{◌⊎◌, inl, inr}
use mathlib.Core.Option.{some}
use mathlib.Core.Path.{◌≡◌, refl, sym, ap, ◌∙◌}
use native.Mathlib.Omega.{arith}
use lib.ListN.{length, get_elem?}
use Rattle.protocol.proofs.Lists.{at_bound, at_left, Snoc, at_snoc, length-snoc}
use Rattle.protocol.proofs.State.{State, At, IsUser, Before, UpTo, Invariant, before_forward}
use Rattle.protocol.specs.Answer.{label, accepted, delivery}
use Rattle.protocol.specs.Order.{DeliveredAt, HappenedBefore, same_node, message, chain}
use Rattle.protocol.specs.World.{Issue, Event}

-- a longer history keeps deliveries
pub delivered-grow : (h : List Event) (e : Event) (b : ℕ) (g : Issue) → DeliveredAt h b g.message → DeliveredAt (h ++ (e ∷ [])) b g.message
delivered-grow h e b g d = record { event = d.event; at = at_left h (e ∷ []) b d.event d.at; here = d.here; names = d.names }

-- the new step e, at place b, delivers g
pub record New (h : List Event) (e : Event) (b : ℕ) (g : Issue) : Type 0 where
  pub at : b ≡ length h
  pub here : e.node ≡ g.message.to
  pub names : delivery e.answer ≡ some (label g.message)

-- a delivery of the longer history: an old one, or the new step's
pub delivered-snoc : (h : List Event) (e : Event) (b : ℕ) (g : Issue) → DeliveredAt (h ++ (e ∷ [])) b g.message → DeliveredAt h b g.message ⊎ New h e b g
delivered-snoc h e b g d = go (at_snoc h e b d.event d.at)
  where
    go : Snoc h e b d.event → DeliveredAt h b g.message ⊎ New h e b g
    go (inl a) = inl (record { event = d.event; at = a; here = d.here; names = d.names })
    go (inr a) =
        inr (record {
          at = a.0;
          here = ap (λ (z : Event). z.node) (sym a.1) ∙ d.here;
          names = ap (λ (z : Event). delivery z.answer) (sym a.1) ∙ d.names;
        })

-- a place before the new step
pub at_before : (h : List Event) (e : Event) (t : ℕ) (x : Event) → get_elem? (h ++ (e ∷ [])) t ≡ some x → t < length h → get_elem? h t ≡ some x
at_before h e t x a l = go (at_snoc h e t x a)
  where
    go : Snoc h e t x → get_elem? h t ≡ some x
    go (inl y) = y
    go (inr y) = absurd (omega arith)

-- before the new step: before or at an earlier accepted step of its node, or the send of what it delivers
pub data Last (w : State) (e : Event) (a : ℕ) : Type 0 where
  by-node : (c : ℕ) (x : Event) → get_elem? w.history c ≡ some x → accepted x.answer ≡ true → x.node ≡ e.node → UpTo w a c → Last w e a
  by-message : (p : ℕ) (g : Issue) → At w p g → IsUser g → e.node ≡ g.message.to
      → delivery e.answer ≡ some (label g.message) → UpTo w a g.step → Last w e a

module _ (w : State) (v : Invariant w) (e : Event) where
  -- the longer history
  abbrev history' : List Event
  history' = w.history ++ (e ∷ [])

  -- two parts of the invariant that any new step keeps
  pub early' : (p : ℕ) (g : Issue) → At w p g → IsUser g → g.step < length history'
  early' p g a u = rw length-snoc (omega (arith, v.early p g a u))

  -- a message is delivered after its send
  pub later' : (p b : ℕ) (g : Issue) → At w p g → IsUser g → DeliveredAt history' b g.message → g.step < b
  later' p b g a u d = go (delivered-snoc w.history e b g d)
    where
      go : DeliveredAt w.history b g.message ⊎ New w.history e b g → g.step < b
      go (inl x) = v.later p b g a u x
      go (inr x) = omega (arith, v.early p g a u)

  -- what happened before an old step did so before
  pub before-old : (a b : ℕ) → HappenedBefore w.log history' a b → b < length w.history → Before w a b
  before-old a b (same_node _ _ x y l p q r s t) n = same_node a b x y l (at_before w.history e a x p (omega arith)) (at_before w.history e b y q n) r s t
  before-old a b (message _ _ p g at u s d) n = go (delivered-snoc w.history e b g d)
    where
      go : DeliveredAt w.history b g.message ⊎ New w.history e b g → Before w a b
      go (inl x) = message a b p g at u s x
      go (inr x) = absurd (omega arith)
  before-old a c (chain _ b _ l r) n =
      chain a b c (before-old a b l (omega (arith, before_forward w.log history' later' b c r))) (before-old b c r n)

  -- a chain, with an end that may be the same
  longer : (a b c : ℕ) → Before w a b → UpTo w b c → UpTo w a c
  longer a b c h (inl q) = inr (rw q at h)
  longer a b c h (inr q) = inr (chain a b c h q)

  -- what happened before the new step
  pub before_last : (a b : ℕ) → HappenedBefore w.log history' a b → b ≡ length w.history → Last w e a
  before_last a b (same_node _ _ x y l p q r s t) n = go (at_snoc w.history e b y q)
    where
      go : Snoc w.history e b y → Last w e a
      go (inl z) = absurd (omega (arith, at_bound w.history b y z))
      go (inr z) = by-node a x (at_before w.history e a x p (omega arith)) r (t ∙ ap (λ (k : Event). k.node) z.1) (inl refl)
  before_last a b (message _ _ p g at u s d) n = go (delivered-snoc w.history e b g d)
    where
      go : DeliveredAt w.history b g.message ⊎ New w.history e b g → Last w e a
      go (inl x) = absurd (omega (arith, at_bound w.history b x.event x.at))
      go (inr x) = by-message p g at u x.here x.names (inl (sym s))
  before_last a c (chain _ b _ l r) n = go (before_last b c r n)
    where
      l₀ : Before w a b
      l₀ = before-old a b l (omega (arith, before_forward w.log history' later' b c r))

      go : Last w e b → Last w e a
      go (by-node c x at ok nd q) = by-node c x at ok nd (longer a b c l₀ q)
      go (by-message p g at u nd k q) = by-message p g at u nd k (longer a b g.step l₀ q)
