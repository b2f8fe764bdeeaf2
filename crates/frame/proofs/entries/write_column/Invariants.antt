-- The loop has written the entries of column l before row x. Assumes nothing.
use Prim.Native.Nat.{◌*◌}
use lib.ListN.{drop}
use Rattle.frame.proofs.Writing.{Writing}
use Rattle.frame.specs.Entries.{entries_of, listed}
use Rattle.matrix.specs.Array.{entry, flat}
use Rattle.matrix.specs.Matrix.{only}
use Rattle.frame.proofs.entries.write_column.Given as goal

abbrev pub invariant-loop-x : goal.invariant-loop-x
invariant-loop-x l = Writing l.initial.out l.at (entries_of (only l.l (entry l.m))) l.out l.pos (listed (12 * l.x) (drop (12 * l.x) (flat (only l.l (entry l.m)))))
