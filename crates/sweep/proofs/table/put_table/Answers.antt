-- Cap by cap: one run for every cap in range, its line, and the lines that are left. Assumes nothing.
use mathlib.Core.Path.{◌∙◌, ap, refl}
use native.Mathlib.Omega.{arith}
use Rattle.text.specs.Print.{number_row}
use Rattle.counters.specs.Counted.{totals}
use Rattle.counters.specs.declared.Counters.{Counters}
use Rattle.world.specs.Stored.{log_size}
use Rattle.sweep.proofs.Tables.{last-least, last-most, listing_ends, listing_goes, listing_starts}
use borrow.Author.Rules.{rules}
use Rattle.sweep.proofs.table.put_table.Goals as goal

pub overflow_mul-last : goal.overflow_mul-last
overflow_mul-last c = omega (arith, last-most c.args.n c.requires.1)

pub loop-cap-init : goal.loop-cap-init
loop-cap-init c = (refl, search rules, listing_starts _ _ _ _ _)

pub run_cap-t-requires : goal.run_cap-t-requires
unfolding log_size
run_cap-t-requires c =
    let p = c.requires in
    (p.0, p.1, c.loop-cap.auto.cap, c.loop-cap-test.true, p.2, c.loop-cap.invariant.1)

pub put_cap-at-requires : goal.put_cap-at-requires
put_cap-at-requires c =
    let m = last-most c.args.n c.requires.1 in (
      omega (arith, m),
      omega (arith, m, c.loop-cap.invariant.0, c.loop-cap.invariant.2.most, c.requires.0, c.requires.3),
    )

pub loop-cap-preserved : goal.loop-cap-preserved
loop-cap-preserved c =
    let r = c.put_cap-at.ensures in (
      c.put_cap-at.auto.out ∙ c.loop-cap.invariant.0,
      c.run_cap-t.auto.log ∙ c.loop-cap.invariant.1,
      listing_goes _ _ _ _ _ _ _ _ c.loop-cap.invariant.2 (omega arith) _ (ap (λ (t : Counters). number_row c.loop-cap.cap (totals t)) c.run_cap-t.ensures)
          _ _ r.0 r.1.0 r.1.1,
    )

pub returns : goal.returns
returns c = absurd (omega (arith, c.loop-cap.auto.cap-end (last-least c.args.n c.requires.0), c.loop-cap-test.false))

pub returns-2 : goal.returns-2
returns-2 c =
    let r = c.put_cap-at.ensures in
    let l = listing_goes _ _ _ _ _ _ _ _ c.loop-cap.invariant.2 (omega arith) _ (ap (λ (t : Counters). number_row c.loop-cap.cap (totals t)) c.run_cap-t.ensures)
    _ _ r.0 r.1.0 r.1.1 in
    (omega (arith, last-most c.args.n c.requires.1, c.loop-cap-test.true, l.most, c.requires.0), listing_ends _ _ _ _ _ _ _ _ l (omega arith))
