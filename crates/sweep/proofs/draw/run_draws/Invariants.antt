-- Draw by draw: the definition's state is stored, and the draws that are left lead to its end. Assumes nothing.
use Prim.Native.Nat.{ℕ}
use mathlib.Core.Path.{◌≡◌}
use lib.ListN.{length}
use Rattle.causality.specs.Demand3.{start}
use Rattle.world.specs.Stored.{Holds}
use Rattle.sweep.specs.Load.{max_issues}
use Rattle.sweep.proofs.Drawing.{Drawing}
use Rattle.sweep.proofs.draw.run_draws.Given as goal

abbrev pub invariant-loop-i : goal.invariant-loop-i
invariant-loop-i l =
    (length l.queues ≡ length l.initial.queues) × (length l.log ≡ length l.initial.log)
    × ((n : ℕ) (caps : ℕ → ℕ) → Holds n caps max_issues 0 (start n caps) l.initial.state.world l.initial.queues l.initial.log
    → Drawing n caps l.fn.seed l.fn.count l.state l.v l._i l.queues l.log)
