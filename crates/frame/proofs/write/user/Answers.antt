-- Header, entries, body and trailer, one after the other. Assumes nothing.
use Prim.Native.Nat.{◌+◌}
use mathlib.Core.Path.{◌∙◌, ap}
use native.Mathlib.Omega.{arith}
use lib.ListN.{length}
use Rattle.frame.proofs.EntryLists.{length-entries_of}
use Rattle.frame.proofs.Framing.{front_length, header-user, put-frame, put_front}
use Rattle.frame.specs.Header.{header_bytes}
use Rattle.frame.specs.declared.header.Header.{Header}
use Rattle.matrix.proofs.Bounds.{count-le}
use Rattle.matrix.specs.Array.{entry}
use Rattle.matrix.specs.Message.{user_message}
use Rattle.wire.specs.Bytes.{put}
use Rattle.frame.proofs.write.user.Goals as goal

pub overflow_cast-e : goal.overflow_cast-e
overflow_cast-e c = record { fits = omega (arith, c.count-e.ensures, count-le (entry c.args.m.now)) }

pub write-pos-requires : goal.write-pos-requires
write-pos-requires c =
    let k = c.count-e.ensures in
    (omega (arith, k, c.requires.0, c.write.auto.out), omega (arith, k, length-entries_of (entry c.args.m.now)))

pub copy-requires : goal.copy-requires
copy-requires c = omega (arith, length-entries_of (entry c.args.m.now), c.requires.0, c.write.auto.out, c.write-pos.auto.out, c.write-pos.ensures.0)

pub overflow_add-pos : goal.overflow_add-pos
overflow_add-pos c = record { fits = omega (arith, length-entries_of (entry c.args.m.now), c.requires.0, c.write.auto.out, c.write-pos.auto.out, c.write-pos.ensures.0) }

pub write_trailer-requires : goal.write_trailer-requires
write_trailer-requires c =
    let e = length-entries_of (entry c.args.m.now) in
    let n = count-le (entry c.args.m.now) in (
      omega (arith, c.write-pos.ensures.0),
      omega (arith, c.requires.0, c.write.auto.out, c.write-pos.auto.out, c.copy.auto.out, c.write-pos.ensures.0),
      omega (arith, c.requires.1, c.write-pos.ensures.0),
    )

pub returns : goal.returns
returns c =
    let a = c.args in
    let m = user_message a.a.from a.a.to a.a.n a.a.cap (entry a.m.now) a.body.now in
    let e = length-entries_of (entry a.m.now) in
    let head = c.write.ensures ∙ ap (λ (x : Header). put a.out.now a.at (header_bytes x))
    (c.header.ensures ∙ header-user a.a (entry a.m.now) a.body.now c.count-e.result c.count-e.ensures) in
    let body = put_front a.out.now a.at m _ _ _ c.write-pos.result head c.write-pos.ensures.1 c.write-pos.ensures.0 c.copy.ensures in (
      omega (arith, c.write_trailer.ensures.0, c.write-pos.ensures.0),
      put-frame a.out.now a.at m _ _ (c.write-pos.result + length a.body.now) body (omega (arith, front_length m, c.write-pos.ensures.0))
          (omega (arith, c.requires.0, c.write-pos.ensures.0)) c.write_trailer.ensures.1,
    )
