-- The loop has passed the entries before entry k, and the walk goes on from place `least`. Assumes nothing.
use Prim.Native.Nat.{◌-◌, ◌≤◌}
use mathlib.Core.Path.{◌≡◌}
use Rattle.frame.proofs.Checks.{ok_from}
use Rattle.frame.specs.Entries.{entries_from}
use Rattle.frame.proofs.check.wrong_entries.Given as goal

abbrev pub invariant-loop-k : goal.invariant-loop-k
invariant-loop-k l = (l.least ≤ 65536) × (ok_from l.n l.h 0 (entries_from l.s 0 l.e) ≡ ok_from l.n l.h l.least (entries_from l.s l.k (l.e - l.k)))
