-- One cap after the other is stored. Assumes nothing.
use Rattle.std.proofs.Common.{rules, tests, sym, ◌∙◌, arith}
use Rattle.std.proofs.lemmas.Iterator.Splits.{YieldsList-from_slice_split}
use Rattle.commands.proofs.Caps.{found_none, found_all, found-long, found-more, found-other}
use Rattle.commands.proofs.parse_first_line.Goals as goal

pub loop-field-init : goal.loop-field-init
loop-field-init c =
    rw (c.into_iter-field-iterator.ensures.into_iter_gives, c.value-n.ensures)
    (found_none _ _ c.split-fields.result c.next.new.self c.in_ok-next.field-0
    (YieldsList-from_slice_split _ _ c.args.line.now c.split-fields.ensures.rest c.split-fields.ensures.done c.split-fields.ensures.closure (λ x r q k. search (rules, tests)))
    c.in_ok-next.ensures.steps)

pub returns-then-count-eq-MAX_CAPS : goal.returns-then-count-eq-MAX_CAPS
returns-then-count-eq-MAX_CAPS c =
    found-long _ _ _ _ _ _ c.next-in-loop-field.new.self c.loop-field.invariant c.in-Some.field c.in-Some.ensures.steps (omega (arith, c.if-count-eq-MAX_CAPS.true))

pub returns-in_err-caps : goal.returns-in_err-caps
returns-in_err-caps c =
    c.from_residual-in_err-caps.ensures
    ∙ found-other _ _ _ _ _ _ c.next-in-loop-field.new.self c.loop-field.invariant c.in-Some.field c.in-Some.ensures.steps (sym c.value.ensures ∙ c.in_err-caps.was)

pub loop-field-preserved : goal.loop-field-preserved
loop-field-preserved c =
    found-more _ _ _ _ _ _ c.next-in-loop-field.new.self c.loop-field.invariant c.in-Some.field c.in-Some.ensures.steps _ (omega (arith, c.if-count-eq-MAX_CAPS.false)) (sym c.value.ensures ∙ c.in_ok-caps.was)

pub returns : goal.returns
returns c = c.counted.ensures ∙ found_all _ _ _ _ _ _ _ c.loop-field.invariant c.in-None.ensures.steps
