-- The walk, and what it answered. Assumes nothing.
use Rattle.host.proofs.TrailTold.{walk-told}
use Rattle.host.proofs.trail_calls.trail_walk.Goals as goal

pub returns-in-Ok : goal.returns-in-Ok
returns-in-Ok c = walk-told _ _ c.args.most.now _ c.in-Ok.ensures

pub returns-in-Err : goal.returns-in-Err
returns-in-Err c = rw c.number.ensures (walk-told _ _ _ _ c.in-Err.ensures)
