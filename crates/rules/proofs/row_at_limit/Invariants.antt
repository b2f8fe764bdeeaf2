-- The loop has looked at the columns before y. Assumes nothing.
use mathlib.Core.Path.{◌≡◌}
use lib.Dec.{eqb}
use Rattle.matrix.specs.Array.{entry}
use Rattle.protocol.specs.Node.{some_below}
use Rattle.wire.specs.Limits.{max_count}
use Rattle.rules.proofs.row_at_limit.Given as goal

abbrev pub invariant-loop-y : goal.invariant-loop-y
invariant-loop-y l = l.found ≡ some_below l.y (λ b. eqb (entry l.m l.me b) max_count)
