-- All twelve columns are looked at. Assumes nothing.
use mathlib.Core.Path.{◌∙◌, ◌≡◌}
use native.Mathlib.Omega.{arith}
use Rattle.matrix.specs.Matrix.{fullest}
use Rattle.matrix.proofs.fullest.Goals as goal

pub returns : goal.returns
unfolding fullest
returns c =
    let end : c.loop-y.y ≡ 12 = omega arith in
    c.loop-y.invariant.0 ∙ rw end
