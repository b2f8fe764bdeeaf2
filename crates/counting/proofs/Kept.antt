-- What a simulation keeps from step to step: a list leads to its world, and it has counted the delays of that list. Assumes nothing.
use Prim.Native.Nat.{ℕ, ◌+◌, ◌≤◌, ◌<◌}
use mathlib.Core.Bool.{Bool, true, false}
use mathlib.Core.List.{List, [], ◌∷◌, ◌++◌}
use mathlib.Core.Option.{some}
use mathlib.Core.Path.{◌≡◌, ◌∙◌, ap, refl, subst, sym}
use native.Mathlib.Omega.{arith}
use Rattle.matrix.specs.Message.{EachInRange}
use Rattle.node.specs.OfferAnswer.{OfferAnswer}
use Rattle.node.specs.OfferAnswer as offer_answer
use Rattle.causality.proofs.Demand3.{accepted_once, demand3}
use Rattle.causality.specs.AcceptedOnce.{AcceptedOnceFor}
use Rattle.causality.specs.Demand3.{Demand3For, Event, World, offered}
use Rattle.counters.proofs.Delays.{delays-delivery, delays-nothing, delays-offer, delays-send, delays-start}
use Rattle.counters.specs.declared.Counters.{Counters}
use Rattle.world.proofs.Cases.{deliver-cases, offer-cases, send-cases}
use Rattle.world.proofs.Reach.{reached-later}
use Rattle.world.proofs.Simulated.{deliver-reached, offer-reached, send-reached}
use Rattle.world.specs.Reached.{Reached}
use Rattle.world.specs.Steps.{AfterStep, deliver_step, offer_step, refuse, send_step}
use Rattle.counting.specs.Delays.{delay, delays}
use Rattle.counting.specs.OfList.{OfList}
use Rattle.counting.specs.State.{State, counted_by, opened, state_after, waits}
use Rattle.counting.proofs.Lists.{reached-start}

-- ---- the delays

-- one event more
delays-more : (l : List Event) (e : Event) → delays (l ++ (e ∷ [])) ≡ delays l + delay e.answer
delays-more [] e = omega arith
delays-more (x ∷ l) e = omega (arith, delays-more l e)

-- an accepted offer's answer has one where its frame has to wait
delay-waits : (count : ℕ) (ready : Bool) → delay (offered (offer_answer.Held count ready)) ≡ waits ready
delay-waits count true = refl
delay-waits count false = refl

waits-most : (ready : Bool) → waits ready ≤ 1
waits-most true = omega arith
waits-most false = omega arith

-- the counters t have counted the delays of a history, of which there are at most k
pub record Tallied (k : ℕ) (t : Counters) (l : List Event) : Type 0 where
  pub same : t.delays ≡ delays l
  pub few : delays l ≤ k

module _ (k : ℕ) (t : Counters) (w : World) (h : Tallied k t w.history) where
  -- what a step leaves
  abbrev Step : AfterStep → Type 0
  Step a = Tallied (k + 1) (counted_by t a.outcome) a.world.history

  refused-tallied : (x : ℕ) → Step (refuse x w)
  unfolding counted_by
  refused-tallied x = record { same = h.same; few = omega (arith, h.few) }

  -- an event that adds x delays, and counters that have so many more
  event-tallied : (e : Event) (x : ℕ) → delay e.answer ≡ x → x ≤ 1 → (u : Counters) → u.delays ≡ t.delays + x → Tallied (k + 1) u (w.history ++ (e ∷ []))
  event-tallied e x d one u c =
      record { same = omega (arith, delays-more w.history e, h.same); few = omega (arith, delays-more w.history e, h.few) }

  send-tallied : (n limit i j : ℕ) → Step (send_step n limit w i j)
  unfolding counted_by
  send-tallied n limit i j =
      send-cases w Step refused-tallied n limit i j (λ _ bytes extras told. event-tallied _ 0 refl (omega arith) _ (omega (arith, delays-send t extras)))

  offer-tallied : k < 1000000000 → (m : ℕ) → Step (offer_step w m)
  unfolding counted_by
  offer-tallied short m =
      offer-cases w Step refused-tallied m
      (λ p g at count ready e told. event-tallied _ (waits ready) (ap (λ (a : OfferAnswer). delay (offered a)) e ∙ delay-waits count ready) (waits-most ready) _
      (delays-offer t (waits ready) (omega (arith, h.same, h.few, waits-most ready))))

  deliver-tallied : (n limit j : ℕ) → Step (deliver_step n limit w j)
  unfolding counted_by
  deliver-tallied n limit j =
      deliver-cases w Step refused-tallied n limit j (λ _ tried told. event-tallied _ 0 refl (omega arith) _ (omega (arith, delays-nothing t tried)))
      (λ _ d told. event-tallied _ 0 refl (omega arith) _ (omega (arith, delays-delivery t d.extras)))

-- ---- the list and the delays

-- the state z after k steps
pub record Kept (n : ℕ) (caps : ℕ → ℕ) (k : ℕ) (z : State) : Type 0 where
  pub reached : Reached n caps k z.world
  pub tallied : Tallied k z.counters z.world.history

-- before the first step
pub kept-start : (n : ℕ) (caps : ℕ → ℕ) → Kept n caps 0 (opened n caps)
kept-start n caps = record { reached = reached-start n caps; tallied = record { same = delays-start; few = omega arith } }

module _ (n : ℕ) (caps : ℕ → ℕ) (k : ℕ) (z : State) (r : Kept n caps k z) where
  -- where nothing is done
  pub later-kept : Kept n caps (k + 1) z
  later-kept = record {
    reached = reached-later n caps k z.world r.reached;
    tallied = record { same = r.tallied.same; few = omega (arith, r.tallied.few) };
  }

  pub send-kept : (limit i j : ℕ) → Kept n caps (k + 1) (state_after z.counters (send_step n limit z.world i j))
  send-kept limit i j = record {
    reached = send-reached n caps k z.world r.reached limit i j;
    tallied = send-tallied k z.counters z.world r.tallied n limit i j;
  }

  pub offer-kept : EachInRange n caps → k < 1000000000 → (m : ℕ) → Kept n caps (k + 1) (state_after z.counters (offer_step z.world m))
  offer-kept inside short m = record {
    reached = offer-reached n caps k z.world r.reached inside short m;
    tallied = offer-tallied k z.counters z.world r.tallied short m;
  }

  pub deliver-kept : (limit j : ℕ) → Kept n caps (k + 1) (state_after z.counters (deliver_step n limit z.world j))
  deliver-kept limit j = record {
    reached = deliver-reached n caps k z.world r.reached limit j;
    tallied = deliver-tallied k z.counters z.world r.tallied n limit j;
  }

-- after fewer than 1,000,000,000
pub of_list_lem : (n : ℕ) (caps : ℕ → ℕ) (k : ℕ) (z : State) → EachInRange n caps → Kept n caps k z → k < 1000000000 → OfList n caps k z
of_list_lem n caps k z inside r short =
    let list : Reached n caps k z.world = r.reached in
    record {
      reached = list;
      demand3 = subst (Demand3For n caps) (sym list.same) (demand3 n caps inside list.steps list.bytes (omega (arith, list.few)));
      delays = ap some r.tallied.same;
      once = subst AcceptedOnceFor (sym list.same) (accepted_once n caps inside list.steps list.bytes (omega (arith, list.few)));
    }
