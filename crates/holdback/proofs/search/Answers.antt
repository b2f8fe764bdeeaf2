-- The slots before slot at hold no deliverable frame; of the frame in slot at, the entries before entry k are ready. Assumes nothing.
use mathlib.Core.Path.{◌∙◌}
use borrow.Author.Rules.{rules}
use Rattle.arrival.proofs.Sound.{entry-room, header-room, inside-read}
use Rattle.arrival.proofs.Walks.{every_end, every_fails, every_passed}
use Rattle.holdback.proofs.Trying.{try-hit, try-next, try_none, try_start}
use Rattle.wire.proofs.Tests.{denied, passed}
use Rattle.std.proofs.lemmas.Bool.{not_from_true, not_from_false}
use Rattle.holdback.proofs.search.Goals as goal

pub slots-init : goal.slots-init
slots-init c = let a = c.args in try_start a.me a.deliv.now a.held a.q.now

pub read-e-requires : goal.read-e-requires
read-e-requires c = header-room _ c.held_frame-s.ensures.sound

pub read-requires : goal.read-requires
read-requires c = entry-room _ c.read-e.result _ c.held_frame-s.ensures.sound c.read-e.ensures (search rules)

pub entry_ready-requires : goal.entry_ready-requires
entry_ready-requires c =
    (inside-read _ c.read-e.result _ c.read.result c.held_frame-s.ensures.sound c.read-e.ensures (search rules) c.read.ensures).row

pub loop-k-preserved : goal.loop-k-preserved
loop-k-preserved c =
    c.loop-k.invariant
    ∙ every_passed _ _ _ _ c.read.result (search rules) c.read.ensures (passed _ _ c.entry_ready.ensures (not_from_true _ c.if-not-entry_ready.false))

pub slots-preserved : goal.slots-preserved
slots-preserved c =
    let a = c.args in
    try-next a.me a.deliv.now a.held a.q.now c.slots.at c.read-e.result _ c.slots.invariant (search rules) c.held_frame-s.ensures.same c.held_frame-s.ensures.sound c.read-e.ensures
    (c.loop-k.invariant ∙ every_fails _ _ _ _ c.read.result (search rules) c.read.ensures
    (denied _ _ c.entry_ready.ensures (not_from_false _ c.if-not-entry_ready.true)))

pub returns-in-slots : goal.returns-in-slots
returns-in-slots c =
    let a = c.args in
    try-hit a.me a.deliv.now a.held a.q.now c.slots.at c.read-e.result _ c.slots.invariant (search rules) c.held_frame-s.ensures.same c.held_frame-s.ensures.sound c.read-e.ensures
    (c.loop-k.invariant ∙ every_end _ _ _ _ c.loop-k-test.false)

pub returns : goal.returns
returns c = let a = c.args in try_none a.me a.deliv.now a.held a.q.now c.slots.at c.slots.invariant c.slots-test.false
