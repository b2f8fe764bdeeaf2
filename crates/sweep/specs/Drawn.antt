-- The step that a draw asks for.
use Rattle.std.specs.Prelude.{ℕ}
use Rattle.causality.specs.Demand3.{World}
use Rattle.draws.specs.declared.Draw.{Draw}
use Rattle.draws.specs.declared.Draw.TheVariants as draw
use Rattle.world.specs.Steps.{AfterStep, send_step, offer_step, deliver_step}
use Rattle.sweep.specs.Load.{max_issues}

-- on a world of n nodes
abbrev pub step_of : ℕ → World → Draw → AfterStep
step_of n w (draw.Send i j) = send_step n max_issues w i j
step_of n w (draw.Offer m) = offer_step w m
step_of n w (draw.Deliver j) = deliver_step n max_issues w j
