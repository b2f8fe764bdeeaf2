-- The digits before byte b make the number v, which has at most as many digits. Assumes nothing.
use Rattle.std.proofs.Common.{arith, get_or, sym, ◌∙◌}
use Rattle.std.proofs.lemmas.Grind.{common_steps}
use Rattle.std.specs.Char.{IsAsciiDigit}
use Rattle.text.proofs.Fields.{continued_goes, digits-below, digits-fit}
use Rattle.text.proofs.value.Goals as goal

pub overflow_mul-v : goal.overflow_mul-v
overflow_mul-v c = record { fits = omega (arith, digits-fit c.loop-b.v c.loop-b.b-index c.loop-b.invariant.0 (omega arith)) }

pub overflow_add-v : goal.overflow_add-v
overflow_add-v c =
    let digit : IsAsciiDigit (get_or c.args.s.now c.loop-b.b-index 0) = grind (arith, common_steps) in
    record { fits = omega (arith, digits-fit c.loop-b.v c.loop-b.b-index c.loop-b.invariant.0 (omega arith)) }

pub loop-b-preserved : goal.loop-b-preserved
loop-b-preserved c =
    let digit : IsAsciiDigit (get_or c.args.s.now c.loop-b.b-index 0) = grind (arith, common_steps) in (
      rw c.from.ensures (digits-below c.loop-b.v c.loop-b.b-index _ c.loop-b.invariant.0 digit.1),
      rw c.from.ensures (sym (continued_goes c.loop-b.v c.args.s.now c.loop-b.b-index (omega arith) digit) ∙ c.loop-b.invariant.1),
    )
