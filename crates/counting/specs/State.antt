-- The state of a simulation, and what a step does to it.
use Rattle.std.specs.Prelude.{ℕ, Bool, true, false}
use Rattle.causality.specs.Demand3.{World, start}
use Rattle.counters.specs.declared.Counters.{Counters}
use Rattle.counters.specs.Counted.{no_counters, counted_send, counted_offer, counted_delivery, counted_nothing}
use Rattle.world.specs.Steps.{AfterStep}
use Rattle.world.specs.Outcome.{Outcome}
use Rattle.world.specs.Outcome as outcome

-- the world of its list of steps, and the counters (document 01: the tally)
pub record State : Type 0 where
  pub world : World
  pub counters : Counters

-- n nodes with these caps, before the first step
abbrev pub opened : ℕ → (ℕ → ℕ) → State
opened n caps = record { world = start n caps; counters = no_counters }

-- 1 for a frame that has to wait
abbrev pub waits : Bool → ℕ
waits true = 0
waits false = 1

-- the counters after a step
unfoldable pub counted_by : Counters → Outcome → Counters
counted_by t (outcome.Refused k) = t
counted_by t (outcome.Sent extras) = counted_send t extras
counted_by t (outcome.Held count ready) = counted_offer t (waits ready)
counted_by t (outcome.Nothing tried) = counted_nothing t tried
counted_by t (outcome.Delivered issue tried extras) = counted_delivery t extras

-- the state after a step, of which t are the counters before it
abbrev pub state_after : Counters → AfterStep → State
state_after t a = record { world = a.world; counters = counted_by t a.outcome }
