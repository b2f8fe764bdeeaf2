-- The loop makes the walk's steps: what the steps from the cursor on end with is what all of them end with. Assumes nothing.
use Rattle.std.proofs.lemmas.Result.{err_from_is_err_and}
use Rattle.trail.proofs.Looping.{loop-again, loop_end, loop-less, loop_refused, loop_start}
use Rattle.trail.proofs.walk.walk.Goals as goal

pub loop-most-init : goal.loop-most-init
loop-most-init c = loop_start _ _ _ c.begin-c.ensures

pub returns-in_err-most : goal.returns-in_err-most
returns-in_err-most c =
    let told = err_from_is_err_and c.from_residual.result c.from_residual.ensures.1 in
    rw (told.1, told.2) (loop_refused _ _ _ c.loop-most.invariant _ c.in_err-most.ensures)

pub returns-in-End : goal.returns-in-End
returns-in-End c = loop_end _ _ _ c.loop-most.invariant _ (rw c.in-End.is at c.in_ok-most.ensures)

pub loop-most-smaller : goal.loop-most-smaller
loop-most-smaller c = loop-less _ _ _ c.loop-most.invariant _ _ _ (rw c.in-Shown.is at c.in_ok-most.ensures)

pub loop-most-preserved : goal.loop-most-preserved
loop-most-preserved c = loop-again _ _ _ c.loop-most.invariant _ _ _ (rw c.in-Shown.is at c.in_ok-most.ensures)
