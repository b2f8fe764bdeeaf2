-- The row, from place n on. Assumes nothing.
use Rattle.std.proofs.Common.{arith, rules, ◌∙◌}
use lib.Dec.{eqb}
use Rattle.rules.proofs.Passes.{row_rest}
use Rattle.rules.proofs.row_zero_from.Goals as goal

pub returns : goal.returns
returns c =
    let a = c.args in
    c.each.ensures (λ v. eqb v 0) (λ v b h q. search rules) ∙ row_rest (λ v. eqb v 0) a.m.now a.x _ a.n _ (search rules) c.requires.0 (omega arith) c.requires.1 (omega arith)
