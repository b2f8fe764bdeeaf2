-- The tests in order, then the table. Assumes nothing.
use Rattle.std.specs.Prelude.{Option}
use mathlib.Core.Path.{◌∙◌, ap, sym}
use native.Mathlib.Nat.{zero-add}
use native.Mathlib.Omega.{arith}
use Rattle.text.proofs.Print.{run_short, run-written}
use Rattle.request.specs.declared.Load.{Load}
use Rattle.request.proofs.Laws.{in_range_lem}
use Rattle.sweep.specs.Load.{answered, printed}
use Rattle.sweep.specs.Run.{run_call}
use Rattle.sweep.proofs.Outputs.{answered-refused, answered-table}
use Rattle.sweep.proofs.run.Goals as goal

pub returns-then-out-lt-OUTPUT_SIZE : goal.returns-then-out-lt-OUTPUT_SIZE
unfolding run_call
returns-then-out-lt-OUTPUT_SIZE c = (run_short _ _ _ c.if-out-lt-OUTPUT_SIZE.true, tt)

pub returns-then-is_wrong : goal.returns-then-is_wrong
unfolding run_call
returns-then-is_wrong c =
    let r = rw c.number.ensures at c.put_refusal.ensures in
    let w = sym c.is_wrong.ensures ∙ c.if-is_wrong.true in (
      run-written _ _ _ (omega arith) _ (ap (λ (x : Option Load). printed (answered x)) (sym c.parse-asked.ensures)
          ∙ ap printed (answered-refused _ w)) _ _ (r.1.0 ∙ zero-add _) r.1.1,
      omega (arith, r.0),
    )

pub overflow_cast-load : goal.overflow_cast-load
overflow_cast-load c =
    let g = in_range_lem _ _ c.in-Some.is (sym c.is_wrong.ensures ∙ c.if-is_wrong.false) in
    record { fits = g.bits32 }

pub put_table-requires : goal.put_table-requires
put_table-requires c =
    let g = in_range_lem _ _ c.in-Some.is (sym c.is_wrong.ensures ∙ c.if-is_wrong.false) in
    (g.two_nodes, g.four_nodes, g.few_draws, omega arith)

pub returns-in-Some : goal.returns-in-Some
unfolding run_call
returns-in-Some c =
    let r = c.put_table.ensures in
    let w = sym c.is_wrong.ensures ∙ c.if-is_wrong.false in (
      run-written _ _ _ (omega arith) _ (ap (λ (x : Option Load). printed (answered x)) (sym c.parse-asked.ensures)
          ∙ ap printed (answered-table _ _ c.in-Some.is w)) _ _ r.1.0 r.1.1,
      r.0,
    )

pub returns-in-None : goal.returns-in-None
unfolding run_call answered
returns-in-None c =
    let r = rw c.number-in-None.ensures at c.put_refusal-in-None.ensures in (
      run-written _ _ _ (omega arith) _ (ap (λ (x : Option Load). printed (answered x)) (sym c.parse-asked.ensures ∙ c.in-None.is)) _ _
          (r.1.0 ∙ zero-add _) r.1.1,
      omega (arith, r.0),
    )
