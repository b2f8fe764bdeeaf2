-- The loop has written the bytes before place i, and the rest is still to be written. Assumes nothing.
use Rattle.std.proofs.Common.{◌≡◌, ◌+◌, length, drop}
use Rattle.wire.specs.Bytes.{put}
use Rattle.wire.proofs.copy.Given as goal

abbrev pub invariant-loop-i : goal.invariant-loop-i
invariant-loop-i l = (length l.out ≡ length l.initial.out) × (put l.out (l.at + l.i) (drop l.i l.s) ≡ put l.initial.out l.at l.s)
