-- Each number is written behind a space, then the line feed. Assumes nothing.
use Rattle.std.proofs.Common.{arith, length-set}
use Rattle.text.proofs.Print.{printing_ends, printing_fits, printing_goes}
use Rattle.text.proofs.put_line_end.Goals as goal

pub bounds-out-end : goal.bounds-out-end
bounds-out-end c = omega (arith, printing_fits _ _ _ _ _ _ c.loop-v.invariant c.requires c.loop-v-test.true)

pub put_decimal-end-requires : goal.put_decimal-end-requires
put_decimal-end-requires c = simp length-set (printing_fits _ _ _ _ _ _ c.loop-v.invariant c.requires c.loop-v-test.true)

pub loop-v-preserved : goal.loop-v-preserved
loop-v-preserved c =
    let r = c.put_decimal-end.ensures in
    printing_goes _ _ _ _ _ _ c.loop-v.invariant _ _ c.loop-v-test.true r.0 r.1

pub returns : goal.returns
returns c = printing_ends _ _ _ _ _ _ c.loop-v.invariant c.loop-v-test.false
