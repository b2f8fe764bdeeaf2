-- The loop has merged the entries before entry k. Assumes nothing.
use Rattle.arrival.proofs.Merging.{Merging}
use Rattle.arrival.proofs.merge.Given as goal

abbrev pub invariant-loop-k : goal.invariant-loop-k
invariant-loop-k l = Merging l.s l.j l.e l.initial.m l.m l.k
