-- The loop has passed the entries before entry k, none of which exceeds the matrix. Assumes nothing.
use Prim.Native.Nat.{◌-◌}
use mathlib.Core.Path.{◌≡◌}
use Rattle.arrival.proofs.Walks.{some_entry}
use Rattle.arrival.specs.Tests.{exceeds}
use Rattle.frame.specs.Entries.{entries_from}
use Rattle.matrix.specs.Array.{entry}
use Rattle.arrival.proofs.claims_too_much.Given as goal

abbrev pub invariant-loop-k : goal.invariant-loop-k
invariant-loop-k l = (some_entry (exceeds l.me (entry l.m)) (entries_from l.s 0 l.e) ≡ some_entry (exceeds l.me (entry l.m)) (entries_from l.s l.k (l.e - l.k)))
