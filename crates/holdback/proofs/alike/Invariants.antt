-- No frame in the slots before slot i has the same from and number. Assumes nothing.
use mathlib.Core.Path.{◌≡◌}
use Rattle.frame.specs.Frame.{decode}
use Rattle.holdback.proofs.Origins.{alike_from}
use Rattle.holdback.proofs.alike.Given as goal

abbrev pub invariant-loop-i : goal.invariant-loop-i
invariant-loop-i l = alike_from l.held l.q (decode l.s) 0 ≡ alike_from l.held l.q (decode l.s) l.i
