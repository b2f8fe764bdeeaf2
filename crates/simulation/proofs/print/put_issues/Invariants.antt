-- The headers are read one after the other, each behind the frame before it. Assumes nothing.
use Prim.Native.Nat.{ℕ, ◌+◌, ◌-◌, ◌*◌, ◌≤◌}
use mathlib.Core.List.{List}
use mathlib.Core.Path.{◌≡◌}
use lib.ListN.{length}
use Rattle.simulation.specs.Asked.{InLog}
use Rattle.simulation.proofs.Rows.{Issuing}
use Rattle.simulation.proofs.print.put_issues.Given as goal

abbrev pub invariant-loop-i : goal.invariant-loop-i
invariant-loop-i l =
    (length l.out ≡ length l.initial.out) × (l.end ≤ l.at + 17 * (l.i - l.fn.issues.from))
    × ((f : List (List ℕ)) → InLog l.fn.issues l.log f → Issuing l.fn.issues.from l.at f l.initial.out l.out l.next l.end l.i)
