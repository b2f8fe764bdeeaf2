-- None of the first i frames of the log is so named. Assumes nothing.
use Prim.Native.Nat.{◌+◌, ℕ}
use mathlib.Core.List.{List}
use mathlib.Core.Path.{◌≡◌}
use lib.ListN.{length, drop}
use Rattle.causality.specs.Demand3.{Label}
use Rattle.world.specs.declared.log.Name.{Name}
use Rattle.world.specs.Steps.{issue_from}
use Rattle.world.specs.Stored.{Begins}
use Rattle.world.proofs.Logs.{Behind}
use Rattle.world.proofs.log.find.Given as goal

abbrev pub label_of : Name → Label
label_of a = record { kind = a.kind; from = a.from; number = a.number }

abbrev pub invariant-loop-i : goal.invariant-loop-i
invariant-loop-i l = record {
  behind : Behind l.count l.log l.i l.at;
  passed : (f : List (List ℕ)) → Begins f l.log → l.count ≡ length f
      → issue_from 1 (label_of l.name) l.name.to f ≡ issue_from (l.i + 1) (label_of l.name) l.name.to (drop l.i f);
}
