-- Not each of the vector is below the limit. Assumes nothing.
use Rattle.std.proofs.Common.{rules, ap, not, ◌∙◌}
use lib.Dec.{eqb}
use Rattle.matrix.specs.Array.{vector}
use Rattle.wire.specs.Limits.{max_count}
use Rattle.rules.proofs.Passes.{not_each, vector_places}
use Rattle.rules.proofs.vector_at_limit.Goals as goal

pub returns : goal.returns
returns c =
    let a = c.args in
    ap not (c.each.ensures (λ v. not (eqb v max_count)) (λ v b h q. search rules) ∙ vector_places (λ v. not (eqb v max_count)) a.v.now (search rules)) ∙ not_each 12 (λ x. eqb (vector a.v.now x) max_count)
