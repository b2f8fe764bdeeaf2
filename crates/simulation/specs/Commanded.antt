-- The step of a line's command, and the number that is printed with what it leads to.
use Rattle.std.specs.Prelude.{ℕ}
use Rattle.causality.specs.Demand3.{World}
use Rattle.commands.specs.declared.Command.{Command}
use Rattle.commands.specs.declared.Command.TheVariants as command
use Rattle.world.specs.Steps.{AfterStep, send_step, offer_step, deliver_step}
use Rattle.simulation.specs.Yard.{max_issues}

-- the issue that is offered, or the command's node
abbrev pub printed_with : Command → ℕ
printed_with (command.Send i j) = i
printed_with (command.Offer m) = m
printed_with (command.Deliver j) = j

-- the step on a world of n nodes
abbrev pub step_of : ℕ → World → Command → AfterStep
step_of n w (command.Send i j) = send_step n max_issues w i j
step_of n w (command.Offer m) = offer_step w m
step_of n w (command.Deliver j) = deliver_step n max_issues w j
