-- The loop has written the entries of the rows before x. Assumes nothing.
use Prim.Native.Nat.{◌*◌, ◌+◌, ◌<◌}
use mathlib.Core.Path.{◌≡◌, ap}
use native.Mathlib.Omega.{arith}
use borrow.Author.Rules.{rules}
use lib.ListN.{drop}
use Rattle.frame.proofs.Writing.{row_of, rows-rest, writing_all, writing_end, writing_part, rows_end, writing_room, writing_start}
use Rattle.frame.specs.Entries.{entries_of, listed}
use Rattle.matrix.proofs.Array.{flat_back}
use Rattle.matrix.specs.Array.{entry}
use Rattle.frame.proofs.entries.write.Goals as goal

pub loop-x-init : goal.loop-x-init
unfolding entries_of
loop-x-init c =
    let a = c.args in
    let whole : entries_of (entry a.m.now) ≡ listed 0 a.m.now = ap (listed 0) (flat_back a.m.now c.told-m) in
    rw whole (writing_start a.out.now a.at (listed 0 a.m.now))

pub write_row-pos-requires : goal.write_row-pos-requires
write_row-pos-requires c =
    let a = c.args in
    let inside : c.loop-x.x < 12 = search rules in (
      writing_room _ _ _ _ _ _ (listed (12 * c.loop-x.x) (row_of a.m.now c.loop-x.x)) (listed (12 * (c.loop-x.x + 1)) (drop (12 * (c.loop-x.x + 1))
          a.m.now)) c.loop-x.invariant (rows-rest a.m.now c.loop-x.x c.told-m inside) (omega (arith, c.requires.0, c.requires.1)),
      inside,
    )

pub loop-x-preserved : goal.loop-x-preserved
loop-x-preserved c =
    let a = c.args in
    let inside : c.loop-x.x < 12 = search rules in
    writing_part _ _ _ _ _ _ _ _ _ _ c.loop-x.invariant (rows-rest a.m.now c.loop-x.x c.told-m inside)
    c.write_row-pos.ensures.1 c.write_row-pos.ensures.0

pub returns-after-loop-x : goal.returns-after-loop-x
returns-after-loop-x c = writing_end _ _ _ _ _ _ c.loop-x.invariant (rows_end c.args.m.now c.loop-x.x c.told-m c.loop-x-test.false)

pub returns-then-end-pos : goal.returns-then-end-pos
returns-then-end-pos c = writing_end _ _ _ _ _ _ c.loop-x.invariant (writing_all _ _ _ _ _ _ c.loop-x.invariant (omega (arith, c.requires.1)))
