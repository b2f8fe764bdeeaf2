-- Behind i frames of the log. Assumes nothing.
use mathlib.Core.Path.{ap, sym}
use native.Mathlib.Omega.{arith}
use lib.ListN.{length}
use Rattle.world.proofs.Logs.{begins-room, log-part, joined-none}
use Rattle.world.proofs.log.skip.Goals as goal

pub loop-i-init : goal.loop-i-init
loop-i-init c = λ f b h. sym (ap length joined-none)

pub frame_end-at-requires : goal.frame_end-at-requires
frame_end-at-requires c = begins-room c.requires (omega arith) c.loop-i.invariant

pub loop-i-preserved : goal.loop-i-preserved
loop-i-preserved c =
    λ f b h. (log-part f _ c.loop-i._i c.loop-i.at c.frame_end-at.result b (omega arith) (c.loop-i.invariant f b h) c.frame_end-at.ensures).next
