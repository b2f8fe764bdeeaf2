-- There is room for a cap and five numbers. Assumes nothing.
use Prim.Native.Nat.{◌≤◌}
use mathlib.Core.Path.{ap, sym}
use native.Mathlib.Omega.{arith}
use lib.ListN.{length}
use Rattle.text.specs.Print.{number_row}
use Rattle.text.proofs.Print.{shown}
use Rattle.counters.specs.Counted.{totals}
use Rattle.sweep.proofs.Tables.{row-most}
use borrow.Author.Rules.{rules}
use Rattle.sweep.proofs.table.put_cap.Goals as goal

pub put_numbers-requires : goal.put_numbers-requires
put_numbers-requires c =
    let most : length (number_row c.args.cap (totals c.args.t)) ≤ 58 =
    let a = c.args in
    row-most a.cap a.t (omega arith) (search rules) (search rules) (search rules) (search rules) (search rules)
    in
    rw c.totals.ensures (omega (arith, most))

pub returns : goal.returns
returns c =
    let most : length (number_row c.args.cap (totals c.args.t)) ≤ 58 =
    let a = c.args in
    row-most a.cap a.t (omega arith) (search rules) (search rules) (search rules) (search rules) (search rules)
    in
    let r = c.put_numbers.ensures in
    let z = shown _ _ _ _ _ _ (ap (number_row c.args.cap) (sym
    c.totals.ensures)) r.0 r.1 in
    (omega (arith, z.0, most), z)
