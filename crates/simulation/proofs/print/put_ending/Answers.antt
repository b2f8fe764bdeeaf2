-- With bytes left or without. Assumes nothing.
use native.Mathlib.Omega.{arith}
use Rattle.text.proofs.Print.{shown-both}
use Rattle.simulation.proofs.print.put_ending.Goals as goal

pub returns-then-rest : goal.returns-then-rest
returns-then-rest c =
    let r = rw c.number.ensures at c.put_refusal-end.ensures in
    let t = c.put_total.ensures in
    let z = shown-both _ _ _ _ _ _ _ _ r.1.0 r.1.1 t.1.0 t.1.1 in
    rw c.if-rest.true (omega (arith, r.0, t.0), z)

pub returns : goal.returns
returns c =
    let t = c.put_total-2.ensures in
    rw c.if-rest.false (omega (arith, t.0), t.1)
