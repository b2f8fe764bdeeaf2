-- No frame is accepted twice: of the accepted offers of a list no two are of one issue.
use Rattle.std.specs.Prelude.{ℕ, ◌<◌, true, List, ◌≡◌, length}
use Rattle.std.proofs.Math.Option.{some}
use Rattle.std.proofs.Math.ListN.{get_elem?}
use Rattle.matrix.specs.Message.{EachInRange}
use Rattle.causality.specs.Demand3.{Step, offers, BodiesOfBytes, Event, World, accepted, start, run}

-- an accepted offer of issue p, at any node
pub record Accepts (e : Event) (p : ℕ) : Type 0 where
  pub node : ℕ
  pub offered : e.step ≡ offers node p
  pub accepted : accepted e.answer ≡ true

-- two such steps of a history are the same step
abbrev pub AcceptedOnceFor : World → Type 0
AcceptedOnceFor w = (t u p : ℕ) (e f : Event) → get_elem? w.history t ≡ some e → get_elem? w.history u ≡ some f → Accepts e p → Accepts f p → t ≡ u

-- for the lists of demand 3
abbrev pub AcceptedOnce : Type 0
AcceptedOnce = (n : ℕ) (caps : ℕ → ℕ) → EachInRange n caps → (steps : List Step) → BodiesOfBytes steps → length steps < 1000000000
    → AcceptedOnceFor (run n (start n caps) steps)
