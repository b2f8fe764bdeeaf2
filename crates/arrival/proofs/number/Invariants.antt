-- The loop has passed the entries before entry k, none of which stands in row from and column to. Assumes nothing.
use Prim.Native.Nat.{◌-◌}
use mathlib.Core.Path.{◌≡◌}
use Rattle.frame.specs.Entries.{entries_from, matrix_of}
use Rattle.arrival.proofs.number.Given as goal

abbrev pub invariant-loop-k : goal.invariant-loop-k
invariant-loop-k l = (matrix_of (entries_from l.s 0 l.e) l.h.from l.h.to ≡ matrix_of (entries_from l.s l.k (l.e - l.k)) l.h.from l.h.to)
