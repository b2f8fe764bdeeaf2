-- The checks in rising order; only the last asks whether the frame is deliverable. Assumes nothing.
use mathlib.Core.Path.{◌∙◌, sym}
use Rattle.refusal.proofs.Laws.{number-none}
use Rattle.node.proofs.Offering.{hold_0, hold_15, hold_16, hold_arrival, room_at}
use Rattle.node.proofs.Shared.{passed_on}
use Rattle.node.proofs.Node.check_hold.Goals as goal

pub returns-in_err-check-clause-refusal : goal.returns-in_err-check-clause-refusal
returns-in_err-check-clause-refusal c =
    rw (passed_on c.from_residual.result _ c.from_residual.ensures.1) (hold_arrival _ _ _ (c.in_err-check.ensures _ _ _) (number-none _))

pub returns-then-alike-clause-refusal : goal.returns-then-alike-clause-refusal
returns-then-alike-clause-refusal c = sym (hold_15 _ _ (sym (c.in_ok-check.ensures _ _ _)) (sym c.alike.ensures ∙ c.if-alike.true))

pub returns-then-no_room-clause-refusal : goal.returns-then-no_room-clause-refusal
returns-then-no_room-clause-refusal c =
    let ready = c.deliverable-ready.ensures c.args.self.now.n c.args.self.now.cap c.args.self.now.m _ in
    sym (hold_16 _ _ (sym (c.in_ok-check.ensures _ _ _)) (sym c.alike.ensures ∙ c.if-alike.false)
    (sym (c.no_room.ensures ∙ room_at c.args.self.now c.args.queue.now _ _ ready) ∙ c.if-no_room.true))

pub returns-clause-refusal : goal.returns-clause-refusal
returns-clause-refusal c =
    let ready = c.deliverable-ready.ensures c.args.self.now.n c.args.self.now.cap c.args.self.now.m _ in
    sym (hold_0 _ _ (sym (c.in_ok-check.ensures _ _ _)) (sym c.alike.ensures ∙ c.if-alike.false)
    (sym (c.no_room.ensures ∙ room_at c.args.self.now c.args.queue.now _ _ ready) ∙ c.if-no_room.false))
