-- The loop has written the numbers before place k, and the rest is still to be written. Assumes nothing.
use Prim.Native.Nat.{◌*◌, ◌+◌}
use mathlib.Core.Path.{◌≡◌}
use lib.ListN.{drop, length}
use Rattle.wire.specs.Bytes.{put}
use Rattle.image.specs.Image.{fields}
use Rattle.image.proofs.write_numbers.Given as goal

abbrev pub invariant-loop-k : goal.invariant-loop-k
invariant-loop-k l = (length l.s ≡ length l.initial.s) × (put l.s (l.at + 4 * l.k) (fields (drop l.k l.a)) ≡ put l.initial.s l.at (fields l.a))
