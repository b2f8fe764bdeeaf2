-- All places of the array. Assumes nothing.
use Rattle.std.proofs.Common.{rules, ◌∙◌}
use lib.Dec.{leb}
use Rattle.wire.specs.Limits.{max_count}
use Rattle.rules.proofs.Passes.{array_places}
use Rattle.rules.proofs.matrix_within.Goals as goal

pub returns : goal.returns
returns c =
    let a = c.args in
    c.each.ensures (λ v. leb v max_count) (λ v b h q. search rules) ∙ array_places (λ v. leb v max_count) a.m.now (search rules)
