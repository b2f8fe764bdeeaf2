-- The image is opened, the checks are told, and the frame and the number of held frames are written. Assumes nothing.
use native.Mathlib.Omega.{arith}
use Rattle.refusal.proofs.Laws.{number-none}
use Rattle.node.proofs.Offering.{offerable}
use Rattle.node.proofs.Shared.{passed_on}
use Rattle.host.proofs.Left.{offer_20, offer-done, offer-ready, offer-why}
use Rattle.host.proofs.calls.offer.Goals as goal

pub returns-in_err-node : goal.returns-in_err-node
returns-in_err-node c =
    rw (passed_on c.from_residual.result _ c.from_residual.ensures.1) (offer_20 _ _ _ _ _ c.in_err-node.ensures.refusal (number-none _))

pub returns-in_err-told : goal.returns-in_err-told
returns-in_err-told c =
    rw (passed_on c.from_residual-in_err-told.result _ c.from_residual-in_err-told.ensures.1)
    (offer-why _ _ _ _ c.in_ok-node.ensures.refusal _ c.in_ok-node.ensures.record.0 _ c.check_offer.ensures.refusal _
    c.in_err-told.ensures (number-none _))

pub hold-requires : goal.hold-requires
hold-requires c =
    let ready = offer-ready _ _ _ _ c.in_ok-node.ensures.refusal _ c.in_ok-node.ensures.record.0 _ c.check_offer.ensures.refusal c.in_ok-told.ensures in
    let k = (offerable _ _ _ ready.passes).holdable in
    (k.size, k.room, k.fits, k.queue)

pub overflow_add-node : goal.overflow_add-node
overflow_add-node c =
    let ready = offer-ready _ _ _ _ c.in_ok-node.ensures.refusal _ c.in_ok-node.ensures.record.0 _ c.check_offer.ensures.refusal c.in_ok-told.ensures in
    let k = (offerable _ _ _ ready.passes).holdable in
    record { fits = omega (arith, k.room) }

pub write-requires : goal.write-requires
write-requires c =
    let ready = offer-ready _ _ _ _ c.in_ok-node.ensures.refusal _ c.in_ok-node.ensures.record.0 _ c.check_offer.ensures.refusal c.in_ok-told.ensures in
    ready.long

pub returns : goal.returns
returns c =
    let ready = offer-ready _ _ _ _ c.in_ok-node.ensures.refusal _ c.in_ok-node.ensures.record.0 _ c.check_offer.ensures.refusal c.in_ok-told.ensures in
    offer-done _ _ _ _ _ _ _ _ _ ready _ _ _ c.hold.ensures c.store_held.ensures (cc)
