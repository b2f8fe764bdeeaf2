-- The slots before slot i are right, and their keys are kept. Assumes nothing.
use Prim.Native.Nat.{◌*◌, ◌≤◌}
use mathlib.Core.List.{[]}
use mathlib.Core.Path.{◌∙◌, ap, refl, sym}
use native.Mathlib.Omega.{arith}
use borrow.Author.Rules.{rules}
use lib.ListN.{length}
use lib.Seq.{length-take-le}
use Rattle.arrival.specs.View.{node_with}
use Rattle.holdback.proofs.Filling.{filling-end, filling-more, filling-rest, filling_start, filling-wrong, slot_lent}
use Rattle.holdback.proofs.Held.{length-slot}
use Rattle.holdback.specs.Steps.{all_zero}
use Rattle.wire.proofs.Bytes.{rest-lent}
use Rattle.wire.proofs.Tests.{denied, passed}
use Rattle.wire.specs.Limits.{max_frame}
use Rattle.std.proofs.lemmas.Bool.{not_from_true, not_from_false}
use Rattle.holdback.proofs.wrong_queue.Goals as goal

pub loop-i-init : goal.loop-i-init
loop-i-init c =
    let a = c.args in
    λ cap. filling_start (node_with a.me a.n cap a.m.now a.deliv.now []) a.held a.q.now c.requires.1 c.requires.0 _ refl

pub slot_key-requires : goal.slot_key-requires
slot_key-requires c = (rw slot_lent (length-slot c.args.q.now c.loop-i.i c.requires.0 (omega (arith, c.requires.1))), c.requires.2)

pub returns-in_default : goal.returns-in_default
returns-in_default c =
    let a = c.args in
    λ cap. sym (filling-wrong (node_with a.me a.n cap a.m.now a.deliv.now []) a.held a.q.now c.requires.1 c.requires.0 c.loop-i.keys c.loop-i.i (c.loop-i.invariant cap)
    (search rules) (rw slot_lent at (sym (c.in_default.ensures cap))))

pub bounds-keys-i : goal.bounds-keys-i
bounds-keys-i c = omega (arith, (c.loop-i.invariant 0).many, c.requires.1)

pub loop-i-preserved : goal.loop-i-preserved
loop-i-preserved c =
    let a = c.args in
    λ cap. filling-more (node_with a.me a.n cap a.m.now a.deliv.now []) a.held a.q.now c.requires.1 c.requires.0 c.loop-i.keys c.loop-i.i (c.loop-i.invariant cap)
    c.in-Some.key (search rules) (rw slot_lent at (sym (c.in-Some.ensures cap)))

pub returns-then-not-all_zero : goal.returns-then-not-all_zero
returns-then-not-all_zero c =
    let a = c.args in
    let behind = c.all_zero.ensures ∙ ap all_zero (rest-lent a.q.now (max_frame * a.held)) in
    λ cap. sym (filling-rest (node_with a.me a.n cap a.m.now a.deliv.now []) a.held a.q.now c.requires.1 c.requires.0 c.loop-i.keys c.loop-i.i (c.loop-i.invariant cap)
    c.loop-i-test.false (denied _ _ behind (not_from_false _ c.if-not-all_zero.true)))

pub slice_bounds-some_equal-end : goal.slice_bounds-some_equal-end
slice_bounds-some_equal-end c =
    let h : c.args.held ≤ length c.loop-i.keys = omega (arith, (c.loop-i.invariant 0).many, c.requires.1) in
    sym (length-take-le c.args.held c.loop-i.keys h)

pub returns : goal.returns
returns c =
    let a = c.args in
    let behind = c.all_zero.ensures ∙ ap all_zero (rest-lent a.q.now (max_frame * a.held)) in
    λ cap. c.some_equal.ensures
    ∙ sym (filling-end (node_with a.me a.n cap a.m.now a.deliv.now []) a.held a.q.now c.requires.1 c.requires.0 c.loop-i.keys c.loop-i.i (c.loop-i.invariant cap)
    c.loop-i-test.false c.requires.2 (passed _ _ behind (not_from_true _ c.if-not-all_zero.false)))
