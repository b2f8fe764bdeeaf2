-- All 144 places are looked at. Assumes nothing.
use mathlib.Core.Path.{◌∙◌, ◌≡◌}
use native.Mathlib.Omega.{arith}
use Rattle.matrix.proofs.Array.{count_array}
use Rattle.matrix.proofs.count.Goals as goal

pub returns : goal.returns
returns c =
    let end : c.loop-v.v-index ≡ 144 = omega arith in
    c.loop-v.invariant.1 ∙ rw end (count_array c.args.m.now)
