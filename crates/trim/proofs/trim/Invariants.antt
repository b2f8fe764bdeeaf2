-- Before each round, what is left to trim makes the whole. Assumes nothing.
use Rattle.trim.proofs.Trimming.{Trimming}
use Rattle.trim.proofs.trim.Given as goal

abbrev pub invariant-loop-extras : goal.invariant-loop-extras
invariant-loop-extras l = Trimming l.me l.n l.cap l.at l.initial.m l.initial.out l.m l.out l.pos l.extras
