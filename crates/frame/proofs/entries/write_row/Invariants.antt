-- The loop has written the entries of row x before column y. Assumes nothing.
use Prim.Native.Nat.{◌*◌, ◌+◌}
use lib.ListN.{drop}
use Rattle.frame.proofs.Writing.{Writing, row_of}
use Rattle.frame.specs.Entries.{listed}
use Rattle.frame.proofs.entries.write_row.Given as goal

abbrev pub invariant-loop-y : goal.invariant-loop-y
invariant-loop-y l = Writing l.initial.out l.at (listed (12 * l.x) (row_of l.m l.x)) l.out l.pos (listed (12 * l.x + l.y) (drop l.y (row_of l.m l.x)))
