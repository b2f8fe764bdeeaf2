-- The tests of a slot in turn, each of them on the frame that its own length gives. Assumes nothing.
use mathlib.Core.List.{[]}
use Prim.Native.Nat.{◌≤◌}
use mathlib.Core.Path.{◌∙◌, sym}
use Rattle.arrival.specs.View.{node_with}
use Rattle.holdback.proofs.Keys.{SplitSlot, passed_ok, refused_ok, slot-checked, slot-long, slot-padding, slot-refused, slot-right}
use Rattle.std.proofs.lemmas.Bool.{not_from_false, not_from_true}
use Rattle.wire.proofs.Tests.{denied, passed}
use Rattle.wire.specs.Limits.{max_frame}
use Rattle.holdback.proofs.slot_key.Goals as goal
use Rattle.holdback.proofs.slot_key.Goals.{After-split_at}

parts : (c : After-split_at) → c.own_length-len.result ≤ max_frame → SplitSlot c.args.slot.now c.split_at.result.0.now c.split_at.result.1.now c.read-h.result c.own_length-len.result
parts c fits =
    record {
      long = c.requires.0;
      heading = c.read-h.ensures;
      own = c.own_length-len.ensures;
      fits = fits;
      front_is = c.split_at.ensures.front;
      back_is = c.split_at.ensures.back;
    }

pub returns-then-len-gt-MAX_FRAME : goal.returns-then-len-gt-MAX_FRAME
returns-then-len-gt-MAX_FRAME c =
    let a = c.args in
    λ cap. slot-long (node_with a.me a.n cap a.m.now a.deliv.now []) a.slot.now c.read-h.result _ c.requires.0 c.read-h.ensures c.own_length-len.ensures
    c.if-len-gt-MAX_FRAME.true

pub returns-in_err-ok : goal.returns-in_err-ok
returns-in_err-ok c =
    let fits_1 = c.if-len-gt-MAX_FRAME.false in
    let a = c.args in
    λ cap. c.from_residual.ensures
    ∙ slot-refused (node_with a.me a.n cap a.m.now a.deliv.now []) (parts (goal.at.returns-in_err-ok c).After-split_at fits_1)
    (sym (c.judged.ensures cap) ∙ refused_ok _ c.in_err-ok.ensures.variant)

pub returns-then-not-all_zero : goal.returns-then-not-all_zero
returns-then-not-all_zero c =
    let fits_2 = c.if-len-gt-MAX_FRAME.false in
    let a = c.args in
    λ cap. slot-padding (node_with a.me a.n cap a.m.now a.deliv.now []) (parts (goal.at.returns-then-not-all_zero c).After-split_at fits_2)
    (sym (c.judged.ensures cap) ∙ passed_ok _ c.in_ok-ok.ensures.variant) (denied _ _ c.all_zero.ensures (not_from_false _ c.if-not-all_zero.true))

pub number-requires : goal.number-requires
number-requires c =
    let a = c.args in
    slot-checked (node_with a.me a.n 0 a.m.now a.deliv.now []) _ c.requires.1 (sym (c.judged.ensures 0) ∙ passed_ok _ c.in_ok-ok.ensures.variant)

pub returns : goal.returns
returns c =
    let fits_3 = c.if-len-gt-MAX_FRAME.false in
    let a = c.args in
    λ cap. rw (c.from.ensures, c.from-2.ensures) (slot-right (node_with a.me a.n cap a.m.now a.deliv.now []) (parts (goal.at.returns c).After-split_at fits_3)
    (sym (c.judged.ensures cap) ∙ passed_ok _ c.in_ok-ok.ensures.variant) (passed _ _ c.all_zero.ensures (not_from_true _ c.if-not-all_zero.false))
    _ c.number.ensures)
