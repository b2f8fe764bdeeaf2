-- The loop has counted the places before v. Assumes nothing.
use Prim.Native.Nat.{◌≤◌}
use mathlib.Core.Path.{◌≡◌}
use lib.ListN.{get_or}
use Rattle.matrix.specs.Matrix.{non_zero, sum}
use Rattle.matrix.proofs.count.Given as goal

abbrev pub invariant-loop-v : goal.invariant-loop-v
invariant-loop-v l = (l.found ≤ l.v-index) × (l.found ≡ sum l.v-index (λ i. non_zero (get_or l.m i 0)))
