-- No frame in the slots before slot i has the same from and number. Assumes nothing.
use mathlib.Core.Path.{◌∙◌, sym}
use borrow.Author.Rules.{rules}
use Rattle.arrival.proofs.Arrived.{decode-from}
use Rattle.arrival.proofs.Sound.{header-room}
use Rattle.frame.specs.Frame.{decode}
use Rattle.holdback.proofs.Origins.{alike_end, alike_hit, alike_next, alike_start}
use Rattle.holdback.proofs.alike.Goals as goal

pub read-h-requires : goal.read-h-requires
read-h-requires c = header-room _ c.requires.1

pub number-number-requires : goal.number-number-requires
number-number-requires c = c.requires.1

pub same_origin-requires : goal.same_origin-requires
same_origin-requires c = c.held_frame.ensures.sound

pub returns-then-same_origin : goal.returns-then-same_origin
returns-then-same_origin c =
    let a = c.args in
    let told = c.same_origin.ensures (decode a.s.now) (sym (decode-from a.s.now _ c.read-h.ensures)) c.number-number.ensures in
    sym (sym (alike_start a.held a.q.now (decode a.s.now)) ∙ c.loop-i.invariant
    ∙ alike_hit a.held a.q.now (decode a.s.now) c.loop-i.i (search rules) (rw c.held_frame.ensures.same at (sym told ∙ c.if-same_origin.true)))

pub loop-i-preserved : goal.loop-i-preserved
loop-i-preserved c =
    let a = c.args in
    let told = c.same_origin.ensures (decode a.s.now) (sym (decode-from a.s.now _ c.read-h.ensures)) c.number-number.ensures in
    c.loop-i.invariant
    ∙ alike_next a.held a.q.now (decode a.s.now) c.loop-i.i (search rules) (rw c.held_frame.ensures.same at (sym told ∙ c.if-same_origin.false))

pub returns : goal.returns
returns c =
    let a = c.args in
    sym (sym (alike_start a.held a.q.now (decode a.s.now)) ∙ c.loop-i.invariant
    ∙ alike_end a.held a.q.now (decode a.s.now) c.loop-i.i c.loop-i-test.false)
