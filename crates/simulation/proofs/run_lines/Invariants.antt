-- Line by line: what is printed so far and the definition on what is left make the whole output. Assumes nothing.
use Prim.Native.Nat.{ℕ, ◌+◌, ◌*◌, ◌≤◌}
use mathlib.Core.Path.{◌≡◌}
use lib.ListN.{length}
use Rattle.causality.specs.Demand3.{start}
use Rattle.world.specs.Stored.{Holds}
use Rattle.simulation.specs.Yard.{max_issues}
use Rattle.simulation.proofs.Lines.{Running}
use Rattle.simulation.proofs.run_lines.Given as goal

abbrev pub invariant-loop-line : goal.invariant-loop-line
invariant-loop-line l =
    (length l.queues ≡ length l.initial.queues) × (length l.log ≡ length l.initial.log) × (length l.out ≡ length l.initial.out)
    × (l.end + 5 * length l.rest ≤ 5 * length l.input + 17 * l.yard.world.issued)
    × ((n : ℕ) (caps : ℕ → ℕ) → Holds n caps max_issues 0 (start n caps) l.initial.yard.world l.initial.queues l.initial.log
    → Running n caps l.input l.initial.out l.yard l.queues l.log l.out l.rest l.end)

abbrev pub decreases-loop-line : goal.decreases-loop-line
decreases-loop-line l = length l.rest
