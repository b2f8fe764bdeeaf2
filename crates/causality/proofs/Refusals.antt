-- Which refusals the calls of a list can meet: what two matched histories say of each answer. Assumes nothing.
use Prim.Native.Nat.{ℕ}
use mathlib.Core.Bool.{not}
use mathlib.Core.List.{List, [], ◌∷◌}
use mathlib.Core.Logic.{inl, inr}
use mathlib.Core.Option.{some}
use mathlib.Core.Path.{◌≡◌, subst, sym}
use lib.Dec.{T, T_not, eqb}
use lib.ListN.{get_elem?}
use Rattle.causality.proofs.Matches.{Matches, same_back}
use Rattle.causality.specs.Demand3.{Answer, Event, World, delivered, offered, refusal, sent}
use Rattle.causality.specs.ListRefusals.{Expected, ListRefusalsFor, OneOf, impossible, possible}
use Rattle.holdback.specs.Steps.{among}
use Rattle.protocol.specs.World as messages
use Rattle.wire.proofs.Tests.{either_T, eq→eqb}

-- one of a list is among it, as a test
one_of : (k : ℕ) (l : List ℕ) → OneOf k l → T (among k l)
unfolding among
one_of k [] h = absurd h
one_of k (j ∷ l) (inl e) = either_T (eqb j k) (among k l) (inl (eq→eqb j k (sym e)))
one_of k (j ∷ l) (inr h) = either_T (eqb j k) (among k l) (inr (one_of k l h))

-- none of a list is one of those that no call gives
abbrev Clear : List ℕ → Type 0
Clear [] = Unit {0}
Clear (j ∷ l) = T (not (among j impossible)) × Clear l

clear_of : (l : List ℕ) → Clear l → (k : ℕ) → OneOf k l → ¬ OneOf k impossible
clear_of [] c k h i = absurd h
clear_of (j ∷ l) c k (inl e) i = T_not (among j impossible) c.0 (one_of j impossible (subst (λ (x : ℕ). OneOf x impossible) e i))
clear_of (j ∷ l) c k (inr h) i = clear_of l c.1 k h i

-- nor is any that a call may be refused with, or 0
possible-clear : (a : Answer) → Clear (0 ∷ possible a)
unfolding among
possible-clear (sent a) = (tt, (tt, (tt, (tt, (tt, tt)))))
possible-clear (offered a) = (tt, (tt, (tt, (tt, (tt, tt)))))
possible-clear (delivered a) = (tt, (tt, tt))

pub list_refusals_lem : (n : ℕ) (w : messages.World) (b : World) → Matches n w b → ListRefusalsFor b
list_refusals_lem n w b m =
    record { only = only; never = λ t e at. clear_of (0 ∷ possible e.answer) (possible-clear e.answer) (refusal e.answer) (only t e at) }
  where
    only : (t : ℕ) (e : Event) → get_elem? b.history t ≡ some e → Expected e.answer
    only t e at = (same_back w.history b.history m.history t e at).2.answer.expected
