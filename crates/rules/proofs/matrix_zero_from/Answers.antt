-- The rows from n on are tested, and the loop has tested the columns from n on of the rows before x. Assumes nothing.
use Rattle.std.proofs.Common.{arith, ap, ◌||◌, ◌∙◌, ◌≡◌}
use lib.Dec.{eqb, ltb}
use Rattle.matrix.specs.Array.{entry}
use Rattle.protocol.specs.Node.{each_below}
use Rattle.rules.proofs.Passes.{each_after, outside}
use Rattle.rules.proofs.matrix_zero_from.Invariants.{passed}
use Rattle.rules.proofs.matrix_zero_from.Goals as goal

pub loop-x-preserved : goal.loop-x-preserved
loop-x-preserved c =
    let a = c.args in
    let m = entry a.m.now in
    rw (c.loop-x.invariant, c.row_zero_from-ok.ensures)
    (each_after (each_below 12 (λ x. each_below 12 (λ y. ltb x a.n || eqb (m x y) 0))) c.loop-x.x (λ x. each_below 12 (λ y. ltb y a.n || eqb (m x y) 0)))

pub returns : goal.returns
returns c =
    let end : c.loop-x.x ≡ c.args.n = omega arith in
    c.loop-x.invariant ∙ ap (passed c.args.m.now c.args.n) end ∙ outside c.args.n (entry c.args.m.now) c.requires
