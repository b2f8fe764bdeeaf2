-- The bytes of both halves before step at are or-ed to acc. Assumes nothing.
use mathlib.Core.Path.{◌∙◌, sym}
use native.Mathlib.Omega.{arith}
use borrow.Author.Rules.{rules}
use Rattle.holdback.proofs.Zero.{halves-end, halves-rest, halves-start}
use Rattle.holdback.proofs.all_zero.Goals as goal

pub loop-at-init : goal.loop-at-init
loop-at-init c = (search rules, halves-start c.args.s.now _ _ (omega arith))

pub loop-at-preserved : goal.loop-at-preserved
loop-at-preserved c =
    let i = c.loop-at.invariant in (
      i.0,
      i.1 ∙ halves-rest c.args.s.now _ _ c.loop-at.acc c.loop-at.at (omega (arith, i.0)) (search rules) (omega (arith, i.0)),
    )

pub returns : goal.returns
returns c =
    let i = c.loop-at.invariant in
    sym (i.1 ∙ halves-end c.args.s.now _ _ c.loop-at.acc c.loop-at.at (omega (arith, i.0)) c.loop-at-test.false (omega (arith, i.0)))
