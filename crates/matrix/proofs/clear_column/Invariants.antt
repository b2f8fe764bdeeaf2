-- The loop has made column j zero in the rows before x; then row i is counted up. Assumes nothing.
use mathlib.Core.Path.{◌≡◌}
use Rattle.matrix.proofs.Stores.{emptied}
use Rattle.matrix.specs.Array.{entry, flat}
use Rattle.matrix.proofs.clear_column.Given as goal

abbrev pub invariant-loop-x : goal.invariant-loop-x
invariant-loop-x l = (l.m ≡ flat (emptied l.x l.j (entry l.initial.m)))
