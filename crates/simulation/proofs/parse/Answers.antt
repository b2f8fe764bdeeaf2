-- The tests in order. Assumes nothing.
use mathlib.Core.Path.{◌∙◌, sym}
use native.Mathlib.Omega.{arith}
use Rattle.simulation.proofs.Lines.{parted-length}
use Rattle.simulation.proofs.Runs.{output-none, output-out, output-started, output-unended}
use Rattle.simulation.proofs.parse.Goals as goal

pub returns-in_err-first : goal.returns-in_err-first
returns-in_err-first c = rw c.from_residual.ensures (output-unended _ (omega arith) c.in_err-first.ensures)

pub returns-in_err-sizes : goal.returns-in_err-sizes
returns-in_err-sizes c =
    rw c.from_residual-in_err-sizes.ensures
    (output-none _ (omega arith) _ _ c.in_ok-first.ensures (sym c.parse_first_line.ensures ∙ c.in_err-sizes.was))

pub returns-then-not-startable : goal.returns-then-not-startable
returns-then-not-startable c =
    output-out _ (omega arith) _ _ c.in_ok-first.ensures _ (sym c.parse_first_line.ensures ∙ c.in_ok-sizes.was)
    (sym c.startable.ensures ∙ c.if-not-startable.true)

pub returns : goal.returns
returns c =
    let s = sym c.startable.ensures ∙ c.if-not-startable.false in (
      s,
      omega (arith, parted-length _ _ _ c.in_ok-first.ensures),
      output-started _ (omega arith) _ _ c.in_ok-first.ensures _ (sym c.parse_first_line.ensures ∙ c.in_ok-sizes.was) s,
    )
