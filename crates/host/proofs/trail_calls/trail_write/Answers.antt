-- The write, and what it answered. Assumes nothing.
use Rattle.host.proofs.TrailTold.{write-told}
use Rattle.host.proofs.trail_calls.trail_write.Goals as goal

pub returns-in-Ok : goal.returns-in-Ok
returns-in-Ok c = write-told _ c.args.used.now _ _ _ c.in-Ok.ensures

pub returns-in-Err : goal.returns-in-Err
returns-in-Err c = rw c.number.ensures (write-told _ _ _ _ _ c.in-Err.ensures)
