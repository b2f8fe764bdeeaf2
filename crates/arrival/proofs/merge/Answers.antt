-- The loop has merged the entries before entry k. Assumes nothing.
use borrow.Author.Rules.{rules}
use Rattle.arrival.proofs.Merging.{merging_end, merging_start, merging_turn}
use Rattle.arrival.proofs.Sound.{Inside, entry-room, header-room, inside-read}
use Rattle.arrival.proofs.merge.Goals as goal

pub read-h-requires : goal.read-h-requires
read-h-requires c = header-room c.args.s.now c.requires.0

pub loop-k-init : goal.loop-k-init
loop-k-init c = merging_start c.args.s.now c.args.j c.read-h.result c.args.m.now c.requires.0 c.read-h.ensures c.told-m c.requires.1

pub read-a-requires : goal.read-a-requires
read-a-requires c = entry-room c.args.s.now c.read-h.result c.loop-k.k c.requires.0 c.read-h.ensures (search rules)

pub merge_entry-requires : goal.merge_entry-requires
merge_entry-requires c =
    let within : Inside c.read-a.result =
    inside-read c.args.s.now c.read-h.result c.loop-k.k c.read-a.result c.requires.0 c.read-h.ensures (search rules) c.read-a.ensures in
    let i = within in
    let w = c.loop-k.invariant in
    let most = w.limit c.read-a.result.row c.read-a.result.column in
    search rules

pub loop-k-preserved : goal.loop-k-preserved
loop-k-preserved c =
    let within : Inside c.read-a.result =
    inside-read c.args.s.now c.read-h.result c.loop-k.k c.read-a.result c.requires.0 c.read-h.ensures (search rules) c.read-a.ensures in
    let a = c.args in
    merging_turn a.s.now a.j c.read-h.result.e _ _ _ c.loop-k.k c.read-a.result c.loop-k.invariant (search rules)
    c.read-a.ensures within c.merge_entry.ensures

pub returns : goal.returns
returns c =
    let a = c.args in
    merging_end a.s.now a.j c.read-h.result _ _ c.loop-k.k c.loop-k.invariant (search rules) c.read-h.ensures
