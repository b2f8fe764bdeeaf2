-- Behind i frames of the log. Assumes nothing.
use Rattle.world.proofs.Logs.{Behind}
use Rattle.world.proofs.log.skip.Given as goal

abbrev pub invariant-loop-i : goal.invariant-loop-i
invariant-loop-i l = Behind l.k l.log l._i l.at
