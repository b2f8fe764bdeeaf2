-- Demand 3's last part for more frames: for the earliest undelivered frame of each destination, and not only the earliest of all.
use Rattle.std.specs.Prelude.{ℕ, ◌<◌, List, ◌⊎◌, ◌≡◌, length}
use Rattle.wire.specs.Limits.{max_held}
use Rattle.matrix.specs.Message.{EachInRange}
use Rattle.node.specs.Answers.{offer_number}
use Rattle.node.specs.Calls.{offer_call}
use Rattle.causality.specs.Demand3.{Step, BodiesOfBytes, Issue, World, start, IssueAt, run, destination, Delivered, Held, held_at, DeliversNew}

-- issue p, which is g, is the earliest undelivered one to its destination
pub record EarliestThere (w : World) (p : ℕ) (g : Issue) : Type 0 where
  pub at : IssueAt w p g
  pub undelivered : ¬ Delivered w g.frame
  pub earlier : (q : ℕ) (h : Issue) → q < p → IssueAt w q h → destination h.frame ≡ destination g.frame → Delivered w h.frame

-- accepts: where that one is not held, and fewer than 16 are held at its destination, an offer of it there is accepted
-- delivers: where it is held, or 16 are held there, a deliver there delivers a frame that was not delivered before
pub record Progress (w : World) : Type 0 where
  pub accepts : (p : ℕ) (g : Issue) → EarliestThere w p g → ¬ Held w p g.frame → held_at w (destination g.frame) < max_held
      → offer_number (offer_call (w.records (destination g.frame)) g.frame (w.queues (destination g.frame))).result.answer ≡ 0
  pub delivers : (p : ℕ) (g : Issue) → EarliestThere w p g → Held w p g.frame ⊎ (held_at w (destination g.frame) ≡ max_held)
      → DeliversNew w (destination g.frame)

-- for the lists of demand 3
abbrev pub EachDestination : Type 0
EachDestination = (n : ℕ) (caps : ℕ → ℕ) → EachInRange n caps → (steps : List Step) → BodiesOfBytes steps → length steps < 1000000000
    → Progress (run n (start n caps) steps)
