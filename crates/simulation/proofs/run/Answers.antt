-- The test of the output, then the input. Assumes nothing.
use mathlib.Core.Path.{◌∙◌}
use native.Mathlib.Nat.{zero-add}
use native.Mathlib.Omega.{arith}
use Rattle.text.proofs.Print.{run_short, run-written}
use Rattle.simulation.specs.Run.{run_call}
use Rattle.simulation.proofs.run.Goals as goal

pub returns-then-out-lt-OUTPUT_SIZE : goal.returns-then-out-lt-OUTPUT_SIZE
unfolding run_call
returns-then-out-lt-OUTPUT_SIZE c = (run_short _ _ _ c.if-out-lt-OUTPUT_SIZE.true, tt)

pub returns-in-Some : goal.returns-in-Some
unfolding run_call
returns-in-Some c =
    let e = c.in-Some.ensures in
    let r = c.run_sizes.ensures in
    (run-written _ _ _ (omega arith) _ e.2 _ _ r.1.0 r.1.1, r.0)

pub returns-in-None : goal.returns-in-None
unfolding run_call
returns-in-None c =
    let r = rw c.number.ensures at c.put_refusal.ensures in
    (run-written _ _ _ (omega arith) _ c.in-None.ensures _ _ (r.1.0 ∙ zero-add _) r.1.1, omega (arith, r.0))
