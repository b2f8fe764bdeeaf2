-- The vector from place n on. Assumes nothing.
use Rattle.std.proofs.Common.{arith, rules, ◌∙◌}
use lib.Dec.{eqb}
use Rattle.rules.proofs.Passes.{vector_rest}
use Rattle.rules.proofs.vector_zero_from.Goals as goal

pub returns : goal.returns
returns c =
    let a = c.args in
    c.each.ensures (λ v. eqb v 0) (λ v b h q. search rules) ∙ vector_rest (λ v. eqb v 0) a.v.now a.n _ (search rules) c.requires (omega arith)
