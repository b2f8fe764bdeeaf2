-- The cursor of the five numbers, the step, and what it answered. Assumes nothing.
use Rattle.host.proofs.TrailTold.{step-told}
use Rattle.host.proofs.trail_calls.trail_step.Goals as goal

pub returns-in-Ok-End : goal.returns-in-Ok-End
returns-in-Ok-End c = step-told _ _ c.args.shown.now _ (rw c.in-Ok-End.field-0-is at c.in-Ok-End.ensures)

pub returns-in-Ok-Shown : goal.returns-in-Ok-Shown
returns-in-Ok-Shown c = step-told _ _ c.args.shown.now _ (rw c.in-Ok-Shown.field-0-is at c.in-Ok-Shown.ensures)

pub returns-in-Err : goal.returns-in-Err
returns-in-Err c = rw c.number.ensures (step-told _ _ _ _ c.in-Err.ensures)
