-- The loop makes the walk's steps: what the steps from the cursor on end with is what all of them end with. Assumes nothing.
use Rattle.trail.proofs.Looping.{Looping}
use Rattle.trail.proofs.walk.walk.Given as goal

abbrev pub invariant-loop-most : goal.invariant-loop-most
invariant-loop-most l = Looping l.file l.w l.c

abbrev pub decreases-loop-most : goal.decreases-loop-most
decreases-loop-most l = l.c.end
