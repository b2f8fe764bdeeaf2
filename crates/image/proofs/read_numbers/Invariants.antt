-- The loop has read the numbers before place k. Assumes nothing.
use Rattle.image.proofs.Numbers.{ReadTo}
use Rattle.image.proofs.read_numbers.Given as goal

abbrev pub invariant-loop-k : goal.invariant-loop-k
invariant-loop-k l = ReadTo l.s l.at l.initial.a l.a l.k
