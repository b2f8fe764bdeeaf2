-- Nothing, or the step of the draw, counted. Assumes nothing.
use mathlib.Core.Path.{refl}
use native.Mathlib.Omega.{arith}
use Rattle.counting.proofs.Counts.{few_as}
use Rattle.sweep.proofs.Drawing.{drawn-none, drawn-some, step-few}
use Rattle.sweep.proofs.draw.make.Goals as goal

pub step_of-requires : goal.step_of-requires
step_of-requires c = omega (arith, c.requires.holds.least, c.requires.holds.nodes)

pub returns-in_default : goal.returns-in_default
returns-in_default c = λ n caps k z short st. drawn-none n caps k z _ _ _ st _ _ c.step_of.ensures c.in_default.is

pub count-requires : goal.count-requires
count-requires c =
    let d = c.requires in
    let t = c.step-step.ensures d.n d.caps d.k d.world d.more d.holds in
    few_as _ _ t.0 (step-few d.n d.world c.in-Some.draw)

pub returns : goal.returns
returns c =
    λ n caps k z short st. drawn-some n caps k z _ _ _ st _ _ c.step_of.ensures _ c.in-Some.is _ _ _ _
    (c.step-step.ensures n caps k z.world short st.world) _ refl c.count.ensures
