-- By the outcome, one line, or the lines of the frames issued. Assumes nothing.
use mathlib.Core.Path.{◌∙◌, ap}
use native.Mathlib.Omega.{arith}
use Rattle.text.proofs.Print.{shown}
use Rattle.world.specs.Told.{made_told}
use Rattle.simulation.specs.Asked.{numbered}
use Rattle.simulation.proofs.Outcomes.{shown-delivered, printed-refused, printed-sent, printed-held}
use Rattle.simulation.proofs.Outcomes.{printed-nothing, small-held, small-nothing, small-delivered}
use Rattle.simulation.proofs.Rows.{two-numbers, three-numbers}
use Rattle.simulation.proofs.print.put_outcome.Goals as goal

pub put_row-requires : goal.put_row-requires
put_row-requires c =
    let q = small-held _ _ c.requires.0 _ _ (ap numbered c.in-Ok-Held.is ∙ ap made_told (rw c.in-Ok-Held.is at c.in-Ok-Held.field-0-is)) in
    omega (arith, two-numbers 65 c.args.x c.in-Ok-Held.count q.0 q.1, c.requires.2)

pub put_row-requires-in-Ok-Nothing : goal.put_row-requires-in-Ok-Nothing
put_row-requires-in-Ok-Nothing c =
    let q = small-nothing _ _ c.requires.0 _ (ap numbered c.in-Ok-Nothing.is ∙ ap made_told (rw c.in-Ok-Nothing.is at c.in-Ok-Nothing.field-0-is)) in
    omega (arith, two-numbers 78 c.args.x c.in-Ok-Nothing.tried q.0 q.1, c.requires.2)

pub put_row-end-requires : goal.put_row-end-requires
put_row-end-requires c =
    let q = small-delivered _ _ c.requires.0 _ _ _ (ap numbered c.in-Ok-Delivered.is ∙ ap made_told (rw c.in-Ok-Delivered.is at c.in-Ok-Delivered.field-0-is)) in
    omega (arith, three-numbers 68 c.args.x c.in-Ok-Delivered.issue c.in-Ok-Delivered.tried q.0 q.1 q.2, c.requires.2)

pub put_issues-requires-in-Ok-Delivered : goal.put_issues-requires-in-Ok-Delivered
put_issues-requires-in-Ok-Delivered c =
    let q = small-delivered _ _ c.requires.0 _ _ _ (ap numbered c.in-Ok-Delivered.is ∙ ap made_told (rw c.in-Ok-Delivered.is at c.in-Ok-Delivered.field-0-is)) in
    let r = c.put_row-end in (
      c.requires.1,
      omega (arith, r.ensures.0, r.auto.out, three-numbers 68 c.args.x c.in-Ok-Delivered.issue c.in-Ok-Delivered.tried q.0 q.1 q.2, c.requires.2),
    )

pub returns-in-Err : goal.returns-in-Err
returns-in-Err c =
    let r = c.put_refusal.ensures in
    (omega (arith, r.0), λ f g. shown _ _ _ _ _ _ (printed-refused _ _ _ _ (ap numbered c.in-Err.is)) r.1.0 r.1.1)

pub returns-in-Ok-Sent : goal.returns-in-Ok-Sent
returns-in-Ok-Sent c =
    let r = c.put_issues.ensures in
    (omega (arith, r.0), λ f g. let d = r.1 f g in shown _ _ _ _ _ _ (printed-sent _ _ _ _ (ap numbered c.in-Ok-Sent.is ∙ ap made_told (rw c.in-Ok-Sent.is at c.in-Ok-Sent.field-0-is))) d.0 d.1)

pub returns-in-Ok-Held : goal.returns-in-Ok-Held
returns-in-Ok-Held c =
    let r = c.put_row.ensures in
    let q = small-held _ _ c.requires.0 _ _ (ap numbered c.in-Ok-Held.is ∙ ap made_told (rw c.in-Ok-Held.is at c.in-Ok-Held.field-0-is)) in (
      omega (arith, r.0, two-numbers 65 c.args.x c.in-Ok-Held.count q.0 q.1),
      λ f g. shown _ _ _ _ _ _ (printed-held _ _ _ _ _ (ap numbered c.in-Ok-Held.is ∙ ap made_told (rw c.in-Ok-Held.is at c.in-Ok-Held.field-0-is))) r.0 r.1,
    )

pub returns-in-Ok-Nothing : goal.returns-in-Ok-Nothing
returns-in-Ok-Nothing c =
    let r = c.put_row-in-Ok-Nothing.ensures in
    let q = small-nothing _ _ c.requires.0 _ (ap numbered c.in-Ok-Nothing.is ∙ ap made_told (rw c.in-Ok-Nothing.is at c.in-Ok-Nothing.field-0-is)) in (
      omega (arith, r.0, two-numbers 78 c.args.x c.in-Ok-Nothing.tried q.0 q.1),
      λ f g. shown _ _ _ _ _ _ (printed-nothing _ _ _ _ (ap numbered c.in-Ok-Nothing.is ∙ ap made_told (rw c.in-Ok-Nothing.is at c.in-Ok-Nothing.field-0-is))) r.0 r.1,
    )

pub returns-in-Ok-Delivered : goal.returns-in-Ok-Delivered
returns-in-Ok-Delivered c =
    let t = c.put_row-end.ensures in
    let r = c.put_issues-in-Ok-Delivered.ensures in
    let q = small-delivered _ _ c.requires.0 _ _ _ (ap numbered c.in-Ok-Delivered.is ∙ ap made_told (rw c.in-Ok-Delivered.is at c.in-Ok-Delivered.field-0-is)) in (
      omega (arith, t.0, r.0, three-numbers 68 c.args.x c.in-Ok-Delivered.issue c.in-Ok-Delivered.tried q.0 q.1 q.2),
      λ f g. let d = r.1 f g in shown-delivered _ _ _ _ _ (ap numbered c.in-Ok-Delivered.is ∙ ap made_told (rw c.in-Ok-Delivered.is at c.in-Ok-Delivered.field-0-is)) _ _ _ _ _ _ _ t.0 t.1 d.0 d.1,
    )
