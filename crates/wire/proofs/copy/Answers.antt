-- The loop has written the bytes before place i, and the rest is still to be written. Assumes nothing.
use Rattle.std.proofs.Common.{sym, ◌∙◌, add-zero, length-set, rules}
use Rattle.wire.proofs.Bytes.{put-nil, put_rest, rest_end}
use Rattle.wire.proofs.copy.Goals as goal

pub loop-i-init : goal.loop-i-init
loop-i-init c = (search rules, rw add-zero)

pub loop-i-preserved : goal.loop-i-preserved
loop-i-preserved c = (
  simp length-set (search rules),
  sym (put_rest c.loop-i.out c.args.at c.args.s.now c.loop-i.i (search rules)) ∙ c.loop-i.invariant.1,
)

pub returns : goal.returns
returns c = rw (rest_end c.args.s.now c.loop-i.i (search rules) (search rules), put-nil) at c.loop-i.invariant.1
