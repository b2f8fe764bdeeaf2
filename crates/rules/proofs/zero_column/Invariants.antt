-- The loop has tested the rows before x. Assumes nothing.
use mathlib.Core.Path.{◌≡◌}
use lib.Dec.{eqb}
use Rattle.matrix.specs.Array.{entry}
use Rattle.protocol.specs.Node.{each_below}
use Rattle.rules.proofs.zero_column.Given as goal

abbrev pub invariant-loop-x : goal.invariant-loop-x
invariant-loop-x l = l.ok ≡ each_below l.x (λ a. eqb (entry l.m a l.y) 0)
