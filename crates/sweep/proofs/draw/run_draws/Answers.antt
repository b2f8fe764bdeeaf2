-- Draw by draw: the definition's state is stored, and the draws that are left lead to its end. Assumes nothing.
use mathlib.Core.Path.{◌∙◌, refl}
use native.Mathlib.Omega.{arith}
use Rattle.sweep.proofs.Drawing.{drawing_ends, drawing_goes, drawing_standing, drawing_starts}
use Rattle.sweep.proofs.draw.run_draws.Goals as goal

pub loop-i-init : goal.loop-i-init
loop-i-init c = (refl, refl, λ n caps h. drawing_starts n caps _ _ _ _ _ h c.default-counters.ensures)

pub make-requires : goal.make-requires
make-requires c =
    let p = c.requires in
    drawing_standing _ _ _ _ _ _ _ _ _ (c.loop-i.invariant.2 p.0.n p.0.caps p.0.holds) (omega (arith, p.1))

pub loop-i-preserved : goal.loop-i-preserved
loop-i-preserved c = (
  c.make.auto.queues ∙ c.loop-i.invariant.0,
  c.make.auto.log ∙ c.loop-i.invariant.1,
  λ n caps h. drawing_goes n caps _ _ _ _ _ _ _ (c.loop-i.invariant.2 n caps h) (omega arith) _ _ _ _ c.next-v.ensures
      (λ z k. c.make.ensures n caps c.loop-i._i z (omega (arith, c.requires.1)) k),
)

pub returns : goal.returns
returns c = λ n caps h. drawing_ends n caps _ _ _ _ _ _ _ (c.loop-i.invariant.2 n caps h) (omega arith)
