-- The loop has passed the entries before entry k, each of which is ready. Assumes nothing.
use mathlib.Core.Path.{◌∙◌, sym}
use native.Mathlib.Nat.{sub-zero}
use borrow.Author.Rules.{rules}
use Rattle.arrival.proofs.Arrived.{deliverable-walk}
use Rattle.arrival.proofs.Sound.{entry-room, header-room, inside-read}
use Rattle.arrival.proofs.Walks.{every_end, every_fails, every_passed}
use Rattle.matrix.specs.Array.{vector}
use Rattle.arrival.specs.Tests.{ready}
use Rattle.wire.proofs.Tests.{denied, passed}
use Rattle.std.proofs.lemmas.Bool.{not_from_true, not_from_false}
use Rattle.arrival.proofs.deliverable.Goals as goal

pub read-h-requires : goal.read-h-requires
read-h-requires c = header-room c.args.s.now c.requires

pub loop-k-init : goal.loop-k-init
loop-k-init c = rw sub-zero

pub read-a-requires : goal.read-a-requires
read-a-requires c = entry-room c.args.s.now c.read-h.result c.loop-k.k c.requires c.read-h.ensures (search rules)

pub entry_ready-requires : goal.entry_ready-requires
entry_ready-requires c =
    let within = inside-read c.args.s.now c.read-h.result c.loop-k.k c.read-a.result c.requires
    c.read-h.ensures (search rules) c.read-a.ensures in
    within.row

pub returns-then-not-entry_ready : goal.returns-then-not-entry_ready
returns-then-not-entry_ready c =
    let a = c.args in
    let waits = denied _ _ c.entry_ready.ensures (not_from_false _ c.if-not-entry_ready.true) in
    let fails = every_fails (ready a.me (vector a.deliv.now)) a.s.now c.loop-k.k c.read-h.result.e c.read-a.result
    (search rules) c.read-a.ensures waits in
    λ n cap m l. sym (deliverable-walk a.s.now c.read-h.result a.me a.deliv.now c.requires c.read-h.ensures n cap m l ∙ c.loop-k.invariant ∙ fails)

pub loop-k-preserved : goal.loop-k-preserved
loop-k-preserved c =
    let a = c.args in
    let goes = passed _ _ c.entry_ready.ensures (not_from_true _ c.if-not-entry_ready.false) in
    c.loop-k.invariant ∙ every_passed (ready a.me (vector a.deliv.now)) a.s.now c.loop-k.k c.read-h.result.e c.read-a.result
    (search rules) c.read-a.ensures goes

pub returns : goal.returns
returns c =
    let a = c.args in
    let end = every_end (ready a.me (vector a.deliv.now)) a.s.now c.loop-k.k c.read-h.result.e (search rules) in
    λ n cap m l. sym (deliverable-walk a.s.now c.read-h.result a.me a.deliv.now c.requires c.read-h.ensures n cap m l ∙ c.loop-k.invariant ∙ end)
