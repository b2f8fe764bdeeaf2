-- The loop has found the fullest of the columns before y, and how many entries it has. Assumes nothing.
use mathlib.Core.Path.{◌≡◌}
use Rattle.matrix.specs.Array.{entry}
use Rattle.matrix.specs.Matrix.{column_count, largest}
use Rattle.matrix.proofs.fullest.Given as goal

abbrev pub invariant-loop-y : goal.invariant-loop-y
invariant-loop-y l = (l.best ≡ largest l.y (column_count (entry l.m))) × (l.most ≡ column_count (entry l.m) l.best)
