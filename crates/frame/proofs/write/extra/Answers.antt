-- Header, the entries of one column, and trailer, one after the other. Assumes nothing.
use mathlib.Core.Path.{◌∙◌, ap, sym}
use native.Mathlib.Omega.{arith}
use Rattle.frame.proofs.EntryLists.{length-entries_of}
use Rattle.frame.proofs.Framing.{front_length, header-extra, put-frame, put_front}
use Rattle.frame.specs.Header.{header_bytes}
use Rattle.frame.specs.declared.header.Header.{Header}
use Rattle.matrix.proofs.Bounds.{count-le, only-count}
use Rattle.matrix.specs.Array.{entry}
use Rattle.matrix.specs.Matrix.{only}
use Rattle.matrix.specs.Message.{extra_message}
use Rattle.wire.proofs.Bytes.{put-nil}
use Rattle.wire.specs.Bytes.{put}
use Rattle.frame.proofs.write.extra.Goals as goal

pub overflow_cast-e : goal.overflow_cast-e
overflow_cast-e c =
    record {
      fits = omega (
        arith,
        c.column_count-e.ensures,
        only-count (entry c.args.m.now) c.args.a.to c.requires.1,
        count-le (only c.args.a.to (entry c.args.m.now)),
      );
    }

pub write_column-pos-requires : goal.write_column-pos-requires
write_column-pos-requires c =
    let m = entry c.args.m.now in
    let l = c.args.a.to in
    (omega (arith, length-entries_of (only l m), only-count m l c.requires.1, c.requires.0, c.write.auto.out), c.requires.1)

pub write_trailer-requires : goal.write_trailer-requires
write_trailer-requires c =
    let m = entry c.args.m.now in
    let l = c.args.a.to in
    let e = length-entries_of (only l m) in
    let o = only-count m l c.requires.1 in
    let n = count-le (only l m) in (
      omega (arith, c.write_column-pos.ensures.0),
      omega (arith, c.requires.0, c.write.auto.out, c.write_column-pos.auto.out, c.write_column-pos.ensures.0),
      omega (arith, c.write_column-pos.ensures.0),
    )

pub returns : goal.returns
returns c =
    let a = c.args in
    let m = entry a.m.now in
    let x = extra_message a.a.from a.a.to a.a.n a.a.cap m in
    let e = length-entries_of (only a.a.to m) in
    let o = only-count m a.a.to c.requires.1 in
    let head = c.write.ensures ∙ ap (λ (y : Header). put a.out.now a.at (header_bytes y))
    (c.header.ensures ∙ header-extra a.a m c.column_count-e.result c.requires.1 c.column_count-e.ensures) in
    let body = put_front a.out.now a.at x _ _ _ c.write_column-pos.result head c.write_column-pos.ensures.1
    c.write_column-pos.ensures.0 (sym (put-nil _ _)) in (
      omega (arith, c.write_trailer.ensures.0, c.write_column-pos.ensures.0),
      put-frame a.out.now a.at x _ _ c.write_column-pos.result body (omega (arith, front_length x, c.write_column-pos.ensures.0))
          (omega (arith, c.requires.0, c.write_column-pos.ensures.0)) c.write_trailer.ensures.1,
    )
