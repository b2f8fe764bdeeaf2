-- each frame has bytes, so fewer are left behind it
use Rattle.std.proofs.Common.{length}
use Rattle.vectors.proofs.calls.log_frames.Given as goal

abbrev pub decreases-loop-rest : goal.decreases-loop-rest
decreases-loop-rest g l = length l.rest
