-- The cases of a step, by the laws of each. Assumes nothing.
use mathlib.Core.Path.{◌∙◌, sym}
use native.Mathlib.Omega.{arith}
use lib.Seq.{length-take-le}
use Rattle.trail.proofs.Lone.{bit-most}
use Rattle.trail.proofs.Stepping.{size-le, size-least, step-bad, step_end, step-shown, step-wrong, window-range}
use Rattle.trail.proofs.walk.step.Goals as goal

pub returns-then-wrong_window : goal.returns-then-wrong_window
returns-then-wrong_window c = sym (step-wrong _ _ (sym c.wrong_window.ensures ∙ c.if-wrong_window.true))

pub returns-then-end-eq0 : goal.returns-then-end-eq0
returns-then-end-eq0 c = sym (step_end _ _ _ (sym c.wrong_window.ensures ∙ c.if-wrong_window.false) c.min-end.ensures c.if-end-eq0.true)

pub slice_bounds-sound_last-end : goal.slice_bounds-sound_last-end
slice_bounds-sound_last-end c =
    let file = c.args.file.now in
    sym (length-take-le c.min-end.result file (omega (arith, c.min-end.ensures)))

pub returns-in_default : goal.returns-in_default
returns-in_default c =
    sym (step-bad _ _ _ (sym c.wrong_window.ensures ∙ c.if-wrong_window.false) c.min-end.ensures c.if-end-eq0.false c.in_default.ensures)

pub overflow_sub-start : goal.overflow_sub-start
overflow_sub-start c =
    size-le _ c.args.c _ (sym c.wrong_window.ensures ∙ c.if-wrong_window.false) c.min-end.ensures _ c.in-Some.ensures

pub bounds-file-start : goal.bounds-file-start
bounds-file-start c =
    let w = sym c.wrong_window.ensures ∙ c.if-wrong_window.false in
    omega (arith, c.min-end.ensures, size-least _ c.args.c _ w c.min-end.ensures _ c.in-Some.ensures, size-le _ c.args.c _ w c.min-end.ensures _ c.in-Some.ensures)

pub pass-next-requires : goal.pass-next-requires
pass-next-requires c =
    let r = window-range _ (sym c.wrong_window.ensures ∙ c.if-wrong_window.false) in
    (r.0, r.1, rw c.extra_bit.ensures (search bit-most))

pub returns : goal.returns
returns c =
    step-shown _ _ _ (sym c.wrong_window.ensures ∙ c.if-wrong_window.false) c.min-end.ensures _ c.in-Some.ensures _ _ c.extra_bit.ensures
    c.pass-next.ensures
