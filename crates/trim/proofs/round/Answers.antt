-- The frame carries the fullest column as it stands, and then that column is cleared. Assumes nothing.
use Prim.Native.Nat.{◌<◌}
use mathlib.Core.Path.{◌≡◌}
use native.Mathlib.Omega.{arith}
use Rattle.frame.proofs.Frames.{length-extra}
use Rattle.matrix.proofs.Cleared.{column-le}
use Rattle.matrix.proofs.Columns.{fullest-lt}
use Rattle.matrix.specs.Array.{entry}
use Rattle.matrix.specs.Matrix.{fullest}
use Rattle.trim.proofs.round.Goals as goal

pub overflow_cast-a : goal.overflow_cast-a
overflow_cast-a c = record { fits = omega (arith, c.fullest-l.ensures, fullest-lt (entry c.args.m.now)) }

pub extra-end-requires : goal.extra-end-requires
extra-end-requires c =
    let m = entry c.args.m.now in
    (omega (arith, c.requires.1, column-le m c.fullest-l.result), omega (arith, c.fullest-l.ensures, fullest-lt m))

pub clear_column-requires : goal.clear_column-requires
clear_column-requires c =
    let l : c.fullest-l.result < 12 = omega (arith, c.fullest-l.ensures, fullest-lt (entry c.args.m.now)) in
    (omega (arith, c.requires.0), l, c.requires.2 _ _)

pub returns : goal.returns
returns c =
    let a = c.args in
    let m = entry a.m.now in
    let e : c.fullest-l.result ≡ fullest m = c.fullest-l.ensures in (
      rw e at c.clear_column.ensures,
      rw e at c.extra-end.ensures.1,
      omega (arith, rw e at c.extra-end.ensures.0, length-extra a.me (fullest m) a.n a.cap m (fullest-lt m)),
    )
