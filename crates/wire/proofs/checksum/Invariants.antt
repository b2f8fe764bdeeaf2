-- The loop's total, with the rest of the bytes added by wrapping add, is that of all bytes. Assumes nothing.
use Rattle.std.proofs.Common.{◌≡◌, drop}
use Rattle.wire.proofs.Trailer.{wrapped}
use Rattle.wire.proofs.checksum.Given as goal

abbrev pub invariant-loop-byte : goal.invariant-loop-byte
invariant-loop-byte l = wrapped l.acc l.weight (drop l.byte-index l.s) ≡ wrapped 0 1 l.s
