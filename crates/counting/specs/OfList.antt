-- A state of a simulation that demand 3 speaks of, and whose delays are those of its list.
use Rattle.std.specs.Prelude.{ℕ, ◌≡◌}
use Rattle.std.proofs.Math.Option.{some}
use Rattle.std.proofs.Math.ListN.{get_elem?}
use Rattle.causality.specs.AcceptedOnce.{AcceptedOnceFor}
use Rattle.causality.specs.Demand3.{Demand3For}
use Rattle.counters.specs.Counted.{totals}
use Rattle.world.specs.Reached.{Reached}
use Rattle.counting.specs.Delays.{delays}
use Rattle.counting.specs.State.{State}

-- the state z of a simulation after k of its steps
-- reached, demand3: at most k steps of a list lead to its world, so demand 3 holds of it
-- delays: the fourth of its T numbers (place 3) is the number of delays in the list's history
-- once: no frame is accepted twice, so that a frame is counted once
pub record OfList (n : ℕ) (caps : ℕ → ℕ) (k : ℕ) (z : State) : Type 0 where
  pub reached : Reached n caps k z.world
  pub demand3 : Demand3For n caps z.world
  pub delays : get_elem? (totals z.counters) 3 ≡ some (delays z.world.history)
  pub once : AcceptedOnceFor z.world
