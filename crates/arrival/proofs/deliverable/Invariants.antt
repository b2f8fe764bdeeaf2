-- The loop has passed the entries before entry k, each of which is ready. Assumes nothing.
use Prim.Native.Nat.{◌-◌}
use mathlib.Core.Path.{◌≡◌}
use Rattle.arrival.proofs.Walks.{every_entry}
use Rattle.matrix.specs.Array.{vector}
use Rattle.arrival.specs.Tests.{ready}
use Rattle.frame.specs.Entries.{entries_from}
use Rattle.arrival.proofs.deliverable.Given as goal

abbrev pub invariant-loop-k : goal.invariant-loop-k
invariant-loop-k l = (every_entry (ready l.me (vector l.deliv)) (entries_from l.s 0 l.e) ≡ every_entry (ready l.me (vector l.deliv)) (entries_from l.s l.k (l.e - l.k)))
