-- Cap by cap: one run for every cap in range, its line, and the lines that are left. Assumes nothing.
use Prim.Native.Nat.{◌*◌}
use mathlib.Core.Path.{◌≡◌}
use lib.ListN.{length}
use Rattle.sweep.proofs.Tables.{Listing}
use Rattle.sweep.proofs.table.put_table.Given as goal

abbrev pub invariant-loop-cap : goal.invariant-loop-cap
invariant-loop-cap l =
    (length l.out ≡ length l.initial.out) × (length l.log ≡ 146408) × Listing l.fn.n l.fn.seed l.fn.draws (l.fn.n * l.fn.n) l.initial.out l.out l.at l.cap
