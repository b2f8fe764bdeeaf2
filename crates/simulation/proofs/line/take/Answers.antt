-- Without a command refusal 17; otherwise its step, counted and printed. Assumes nothing.
use mathlib.Core.Path.{◌∙◌, refl, sym}
use native.Mathlib.Omega.{arith}
use Rattle.counting.proofs.Counts.{few_as}
use Rattle.simulation.proofs.Concluding.{took_none, took_step, printable}
use Rattle.simulation.proofs.Parsed.{command-line}
use Rattle.simulation.proofs.Facts.{step-facts, step-few}
use Rattle.simulation.proofs.Rows.{refusal_17}
use Rattle.simulation.proofs.line.take.Goals as goal

pub returns-in_default : goal.returns-in_default
returns-in_default c =
    let e = sym c.parse_command.ensures ∙ c.in_default.is in
    let r = rw c.number.ensures at c.put_refusal.ensures in
    (omega (arith, r.1.0, refusal_17), λ n caps k z short st. took_none n caps k z _ _ _ st _ e _ _ _ _ r.1)

pub count-requires : goal.count-requires
count-requires c =
    let d = c.requires.0 in
    let t = c.step-step.ensures d.n d.caps d.k d.world d.more d.holds in
    few_as _ _ t.0 (step-few d.world d.n c.in-Some.c)

pub put_outcome-requires : goal.put_outcome-requires
put_outcome-requires c =
    let d = c.requires.0 in
    let t = c.step-step.ensures d.n d.caps d.k d.world d.more d.holds in
    let l = command-line c.args.text.now _ (sym c.parse_command.ensures ∙ c.in-Some.is) in
    let f = step-facts d.world d.n c.in-Some.c (omega (arith, d.holds.below)) l.1 in
    let p = printable _ _ _ _ _ _ _ d.holds _ _ f _ _ _ _ t c.args.at c.args.out.now c.requires.1 in
    (rw (c.printed_with.ensures, c.numbered.ensures) p.small, p.logged, p.room)

pub returns : goal.returns
returns c =
    let d = c.requires.0 in
    let t = c.step-step.ensures d.n d.caps d.k d.world d.more d.holds in
    let e = sym c.parse_command.ensures ∙ c.in-Some.is in
    let l = command-line c.args.text.now _ e in
    let f = step-facts d.world d.n c.in-Some.c (omega (arith, d.holds.below)) l.1 in
    let p = printable _ _ _ _ _ _ _ d.holds _ _ f _ _ _ _ t c.args.at c.args.out.now c.requires.1 in
    let r = rw c.numbered.ensures at c.put_outcome.ensures in (
      omega (arith, r.0, l.0, p.grown),
      λ n caps k z short st. took_step n caps k z _ _ _ st _ _ e l.1 _ c.printed_with.ensures _ _ _ _
          (c.step-step.ensures n caps k z.world short st.world) _ refl c.count.ensures _ _ _ _ r.1,
    )
