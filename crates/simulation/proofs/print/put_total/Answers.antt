-- There is room for five numbers. Assumes nothing.
use Prim.Native.Nat.{◌≤◌}
use native.Mathlib.Omega.{arith}
use mathlib.Core.Path.{ap, sym}
use lib.ListN.{length}
use Rattle.counters.specs.Counted.{totals}
use Rattle.text.specs.Print.{row}
use Rattle.text.proofs.Print.{five_numbers, shown}
use borrow.Author.Rules.{rules}
use Rattle.simulation.proofs.print.put_total.Goals as goal

pub put_row-requires : goal.put_row-requires
put_row-requires c =
    let most : length (row 84 (totals c.args.t)) ≤ 57 =
    let t = c.args.t in
    five_numbers 84 t.user t.extras t.delivered t.delays t.share (search rules) (search rules) (search rules) (search rules) (search rules)
    in
    rw c.totals.ensures (omega (arith, most))

pub returns : goal.returns
returns c =
    let most : length (row 84 (totals c.args.t)) ≤ 57 =
    let t = c.args.t in
    five_numbers 84 t.user t.extras t.delivered t.delays t.share (search rules) (search rules) (search rules) (search rules) (search rules)
    in
    let r = c.put_row.ensures in
    let z = shown _ _ _ _ _ _ (ap (row 84) (sym c.totals.ensures)) r.0 r.1 in
    (omega (arith, z.0, most), z)
