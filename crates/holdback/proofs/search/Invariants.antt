-- The slots before slot at hold no deliverable frame; of the frame in slot at, the entries before entry k are ready. Assumes nothing.
use mathlib.Core.Path.{◌≡◌}
use Rattle.holdback.proofs.Trying.{Trying, ready_from}
use Rattle.holdback.proofs.search.Given as goal

abbrev pub invariant-loop-k : goal.invariant-loop-k
invariant-loop-k l = ready_from l.me l.deliv l.s 0 l.e ≡ ready_from l.me l.deliv l.s l.k l.e

abbrev pub invariant-slots : goal.invariant-slots
invariant-slots l = Trying l.me l.deliv l.held l.q l.at
