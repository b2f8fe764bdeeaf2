-- How the state of a simulation is stored, and which numbers are counted.
use Rattle.std.specs.Prelude.{ℕ, ◌<◌, List, ◌≡◌}
use Rattle.causality.specs.Demand3.{start}
use Rattle.world.specs.Stored.{Holds}
use Rattle.world.specs.declared.World.{World}
use Rattle.world.specs.Outcome.{Outcome}
use Rattle.world.specs.Outcome as outcome
use Rattle.counting.specs.State.{State}
use Rattle.counting.specs.declared.State.{State as Stored}

-- the numbers that are counted have at most two digits
abbrev pub Few : Outcome → Type 0
Few (outcome.Refused k) = Unit {0}
Few (outcome.Sent extras) = extras < 100
Few (outcome.Held count ready) = Unit {0}
Few (outcome.Nothing tried) = tried < 100
Few (outcome.Delivered issue tried extras) = extras < 100

-- the state z, which at most k steps led to, is stored in y, the queues q and the log l; there are at most `limit` issues
pub record Stands (n : ℕ) (caps : ℕ → ℕ) (limit k : ℕ) (z : State) (y : Stored) (q l : List ℕ) : Type 0 where
  pub world : Holds n caps limit k z.world y.world q l
  pub counters : y.counters ≡ z.counters

-- the start of some simulation is stored
pub record Opened (limit : ℕ) (w : World) (q l : List ℕ) : Type 0 where
  pub n : ℕ
  pub caps : ℕ → ℕ
  pub holds : Holds n caps limit 0 (start n caps) w q l
