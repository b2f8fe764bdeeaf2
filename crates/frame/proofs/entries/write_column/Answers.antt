-- The loop has written the entries of column l before row x. Assumes nothing.
use Prim.Native.Nat.{◌*◌, ◌+◌}
use borrow.Author.Rules.{rules}
use lib.ListN.{drop, get_or}
use Rattle.frame.proofs.Writing.{column-rest, rows_end, writing_end, writing_part, writing_room, writing_start}
use Rattle.frame.specs.Entries.{entries_of, listed, placed}
use Rattle.matrix.proofs.Array.{length-flat}
use Rattle.matrix.specs.Array.{entry, flat}
use Rattle.matrix.specs.Matrix.{only}
use Rattle.frame.proofs.entries.write_column.Goals as goal

pub loop-x-init : goal.loop-x-init
unfolding entries_of
loop-x-init c =
    let a = c.args in
    (writing_start a.out.now a.at (entries_of (only a.l (entry a.m.now))))

pub write_place-pos-requires : goal.write_place-pos-requires
write_place-pos-requires c =
    let a = c.args in (
      writing_room _ _ _ _ _ _ (placed (12 * c.loop-x.x + a.l) (get_or a.m.now (12 * c.loop-x.x + a.l) 0))
          (listed (12 * (c.loop-x.x + 1)) (drop (12 * (c.loop-x.x + 1)) (flat (only a.l (entry a.m.now))))) c.loop-x.invariant
          (column-rest a.m.now a.l c.loop-x.x c.requires.1 (search rules)) c.requires.0,
      search rules,
      c.requires.1,
    )

pub loop-x-preserved : goal.loop-x-preserved
loop-x-preserved c =
    let a = c.args in
    writing_part _ _ _ _ _ _ _ _ _ _ c.loop-x.invariant (column-rest a.m.now a.l c.loop-x.x c.requires.1 (search rules))
    c.write_place-pos.ensures.1 c.write_place-pos.ensures.0

pub returns : goal.returns
returns c =
    let m = only c.args.l (entry c.args.m.now) in
    writing_end _ _ _ _ _ _ c.loop-x.invariant (rows_end (flat m) c.loop-x.x (length-flat m) (search rules))
