-- The loop has written the entries of row x before column y. Assumes nothing.
use Prim.Native.Nat.{◌*◌, ◌+◌}
use borrow.Author.Rules.{rules}
use lib.ListN.{drop, get_or}
use Rattle.frame.proofs.Writing.{row-end, row-rest, row_of, writing_end, writing_part, writing_room}
use Rattle.frame.specs.Entries.{listed, placed}
use Rattle.frame.proofs.entries.write_row.Goals as goal

pub write_place-pos-requires : goal.write_place-pos-requires
write_place-pos-requires c =
    let a = c.args in (
      writing_room _ _ _ _ _ _ (placed (12 * a.x + c.loop-y.y) (get_or a.m.now (12 * a.x + c.loop-y.y) 0))
          (listed (12 * a.x + (c.loop-y.y + 1)) (drop (c.loop-y.y + 1) (row_of a.m.now a.x))) c.loop-y.invariant
          (row-rest a.m.now a.x c.loop-y.y c.told-m c.requires.1 (search rules)) c.requires.0,
      c.requires.1,
      search rules,
    )

pub loop-y-preserved : goal.loop-y-preserved
loop-y-preserved c =
    let a = c.args in
    writing_part _ _ _ _ _ _ _ _ _ _ c.loop-y.invariant (row-rest a.m.now a.x c.loop-y.y c.told-m c.requires.1 (search rules))
    c.write_place-pos.ensures.1 c.write_place-pos.ensures.0

pub returns : goal.returns
returns c = writing_end _ _ _ _ _ _ c.loop-y.invariant (row-end c.args.m.now c.args.x c.loop-y.y c.told-m c.requires.1 (search rules))
