-- The own length of the frame, read in its slot. Assumes nothing.
use Prim.Native.Nat.{◌*◌, ◌+◌, ◌-◌, ℕ}
use mathlib.Core.Path.{◌≡◌}
use native.Mathlib.Omega.{arith}
use borrow.Author.Rules.{rules}
use Rattle.holdback.proofs.Slots.{own-most}
use Rattle.wire.specs.Limits.{max_frame}
use Rattle.holdback.proofs.frame_end.Goals as goal

-- a slot has 802 bytes
width : (k : ℕ) → k + max_frame - k ≡ max_frame
width k = omega arith

pub overflow_add-result : goal.overflow_add-result
overflow_add-result c = omega (arith, c.own_length.ensures, own-most c.read.result (search rules) (search rules), c.requires)

pub returns : goal.returns
returns c = rw (c.own_length.ensures, c.read.ensures, width (max_frame * c.args.i))
