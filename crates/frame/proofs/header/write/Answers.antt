-- The part of eight bytes is written over. Assumes nothing.
use native.Mathlib.Omega.{arith}
use Rattle.frame.proofs.Parts.{put-part}
use Rattle.frame.specs.Header.{header_bytes}
use Rattle.frame.proofs.header.write.Goals as goal

pub returns : goal.returns
unfolding header_bytes
returns c = put-part c.args.out.now c.args.at _ _ (header_bytes c.args.h) c.copy_from_slice.ensures.after (omega arith) (omega arith)
