-- The loop's total, with the rest of the bytes added by wrapping add, is that of all bytes. Assumes nothing.
use Rattle.std.proofs.Common.{sym, ◌∙◌, rules}
use Rattle.wire.proofs.Trailer.{wrapped_checksum, wrapped_end, wrapped_rest}
use Rattle.wire.proofs.checksum.Goals as goal

pub loop-byte-preserved : goal.loop-byte-preserved
loop-byte-preserved c =
    let l = c.loop-byte in
    rw c.from.ensures (sym (wrapped_rest l.acc l.weight c.args.s.now l.byte-index (search rules)) ∙ l.invariant)

pub returns : goal.returns
returns c =
    let l = c.loop-byte in
    let s = c.args.s.now in
    sym (wrapped_end l.acc l.weight s l.byte-index (search rules) (search rules)) ∙ l.invariant ∙ wrapped_checksum s
