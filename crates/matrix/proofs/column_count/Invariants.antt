-- The loop has counted the rows before x. Assumes nothing.
use Prim.Native.Nat.{◌≤◌}
use mathlib.Core.Path.{◌≡◌}
use Rattle.matrix.specs.Array.{entry}
use Rattle.matrix.specs.Matrix.{non_zero, sum}
use Rattle.matrix.proofs.column_count.Given as goal

abbrev pub invariant-loop-x : goal.invariant-loop-x
invariant-loop-x l = (l.found ≤ l.x) × (l.found ≡ sum l.x (λ a. non_zero (entry l.m a l.y)))
