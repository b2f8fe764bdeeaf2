-- The rows from n on are the array from place 12 * n on. Assumes nothing.
use Rattle.std.proofs.Common.{arith, rules, ◌∙◌}
use lib.Dec.{eqb}
use Rattle.rules.proofs.Passes.{array_rest}
use Rattle.rules.proofs.rows_zero_from.Goals as goal

pub returns : goal.returns
returns c =
    let a = c.args in
    c.each.ensures (λ v. eqb v 0) (λ v b h q. search rules) ∙ array_rest a.m.now a.n _ (search rules) c.requires (omega arith)
