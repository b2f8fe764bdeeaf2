-- The own length of the frame, read at its beginning. Assumes nothing.
use native.Mathlib.Omega.{arith}
use borrow.Author.Rules.{rules}
use Rattle.holdback.proofs.Slots.{own-most}
use Rattle.world.proofs.log.frame_end.Goals as goal

pub overflow_add-result : goal.overflow_add-result
overflow_add-result c = omega (arith, c.own_length.ensures, own-most c.read.result (search rules) (search rules), c.requires)
