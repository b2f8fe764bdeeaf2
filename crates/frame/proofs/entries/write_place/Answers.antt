-- A zero is not written, and another entry is. Assumes nothing.
use Prim.Native.Nat.{◌*◌, ◌+◌}
use mathlib.Core.Path.{◌∙◌, sym}
use native.Mathlib.Omega.{arith}
use Rattle.frame.proofs.EntryLists.{length-placed, placed_at, placed-none, put-none, put-single}
use Rattle.matrix.proofs.Matrix.{non_zero-one}
use Rattle.frame.proofs.entries.write_place.Goals as goal

pub returns-then-v-eq0 : goal.returns-then-v-eq0
returns-then-v-eq0 c =
    let a = c.args in
    let none = placed-none (12 * a.x + a.y) a.v c.if-v-eq0.true in
    rw none (omega arith, sym (put-none a.out.now a.at))

pub write_entry-requires : goal.write_entry-requires
write_entry-requires c = omega (arith, length-placed (12 * c.args.x + c.args.y) c.args.v, non_zero-one c.args.v c.if-v-eq0.false, c.requires.0)

pub returns : goal.returns
returns c =
    let a = c.args in
    let one = placed_at a.x a.y a.v c.requires.2 c.if-v-eq0.false in
    rw one (omega arith, c.write_entry.ensures ∙ sym (put-single a.out.now a.at (record { row = a.x; column = a.y; value = a.v })))
