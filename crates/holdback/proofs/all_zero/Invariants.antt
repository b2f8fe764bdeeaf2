-- The bytes of both halves before step at are or-ed to acc. Assumes nothing.
use Prim.Native.Nat.{◌+◌}
use mathlib.Core.Bool.{◌&&◌}
use mathlib.Core.Path.{◌≡◌}
use lib.Dec.{eqb}
use lib.ListN.{length}
use Rattle.holdback.proofs.Zero.{halves}
use Rattle.holdback.specs.Steps.{all_zero}
use Rattle.holdback.proofs.all_zero.Given as goal

abbrev pub invariant-loop-at : goal.invariant-loop-at
invariant-loop-at l = (l.low + l.high ≡ length l.s) × (all_zero l.s ≡ (eqb l.acc 0 && halves l.s l.low l.high l.at))
