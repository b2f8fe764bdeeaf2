-- No key before place i is equal to a later one. Assumes nothing.
use mathlib.Core.Path.{◌≡◌}
use lib.ListN.{drop}
use Rattle.holdback.specs.Steps.{some_equal}
use Rattle.holdback.proofs.some_equal.Given as goal

abbrev pub invariant-loop-i : goal.invariant-loop-i
invariant-loop-i l = some_equal l.keys ≡ some_equal (drop l.i l.keys)
