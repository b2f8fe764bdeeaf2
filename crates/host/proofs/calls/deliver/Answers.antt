-- The image is opened, the checks are told, and what the delivery left is written. Assumes nothing.
use lib.ListN.{length}
use Rattle.refusal.proofs.Laws.{number-none}
use Rattle.node.proofs.Delivering.{deliver-ready as node-ready, finds-at}
use Rattle.node.proofs.Shared.{passed_on}
use Rattle.host.proofs.Left.{deliver_20, deliver-done, deliver-nothing, deliver-ready, deliver-small, deliver-why}
use Rattle.host.proofs.calls.deliver.Goals as goal

pub returns-in_err-node : goal.returns-in_err-node
returns-in_err-node c =
    rw (passed_on c.from_residual.result _ c.from_residual.ensures.1) (deliver_20 _ _ _ _ _ _ c.in_err-node.ensures.refusal (number-none _))

pub returns-in_err-told : goal.returns-in_err-told
returns-in_err-told c =
    rw (passed_on c.from_residual-in_err-told.result _ c.from_residual-in_err-told.ensures.1)
    (deliver-why _ _ _ _ _ c.in_ok-node.ensures.refusal _ c.in_ok-node.ensures.record.0 _ _ c.short_for_deliver-short.ensures c.check_deliver.ensures _
    c.in_err-told.ensures (number-none _))

pub search-requires : goal.search-requires
search-requires c =
    let a = c.args in
    let ready = deliver-ready a.image.now a.queue.now a.out.now a.body.now a.answer.now c.in_ok-node.ensures.refusal _ c.in_ok-node.ensures.record.0 _ _
    c.short_for_deliver-short.ensures c.check_deliver.ensures c.in_ok-told.ensures in
    (node-ready _ _ (length a.out.now) (length a.body.now) ready.passes).queue

pub write-requires : goal.write-requires
write-requires c =
    let a = c.args in
    let ready = deliver-ready a.image.now a.queue.now a.out.now a.body.now a.answer.now c.in_ok-node.ensures.refusal _ c.in_ok-node.ensures.record.0 _ _
    c.short_for_deliver-short.ensures c.check_deliver.ensures c.in_ok-told.ensures in
    ready.long

pub returns-in_default : goal.returns-in_default
returns-in_default c =
    let a = c.args in
    let ready = deliver-ready a.image.now a.queue.now a.out.now a.body.now a.answer.now c.in_ok-node.ensures.refusal _ c.in_ok-node.ensures.record.0 _ _
    c.short_for_deliver-short.ensures c.check_deliver.ensures c.in_ok-told.ensures in
    deliver-nothing _ _ _ _ _ _ _ _ _ _ _ _ ready _ (c.in_default.ensures _ _ _ _) (cc)

pub take-d-requires : goal.take-d-requires
take-d-requires c =
    let a = c.args in
    let ready = deliver-ready a.image.now a.queue.now a.out.now a.body.now a.answer.now c.in_ok-node.ensures.refusal _ c.in_ok-node.ensures.record.0 _ _
    c.short_for_deliver-short.ensures c.check_deliver.ensures c.in_ok-told.ensures in
    finds-at (record { passes = ready.passes; found = c.in-Some.ensures _ _ _ _ })

pub delivery-requires : goal.delivery-requires
delivery-requires c =
    let a = c.args in
    let ready = deliver-ready a.image.now a.queue.now a.out.now a.body.now a.answer.now c.in_ok-node.ensures.refusal _ c.in_ok-node.ensures.record.0 _ _
    c.short_for_deliver-short.ensures c.check_deliver.ensures c.in_ok-told.ensures in
    deliver-small _ _ _ _ _ _ _ _ _ _ _ _ ready _ _ _ _ _ (c.take-d.ensures.taken (record { passes = ready.passes; found = c.in-Some.ensures _ _ _ _ }))

pub write-requires-2 : goal.write-requires-2
write-requires-2 c =
    let a = c.args in
    let ready = deliver-ready a.image.now a.queue.now a.out.now a.body.now a.answer.now c.in_ok-node.ensures.refusal _ c.in_ok-node.ensures.record.0 _ _
    c.short_for_deliver-short.ensures c.check_deliver.ensures c.in_ok-told.ensures in
    ready.long

pub returns : goal.returns
returns c =
    let a = c.args in
    let ready = deliver-ready a.image.now a.queue.now a.out.now a.body.now a.answer.now c.in_ok-node.ensures.refusal _ c.in_ok-node.ensures.record.0 _ _
    c.short_for_deliver-short.ensures c.check_deliver.ensures c.in_ok-told.ensures in
    deliver-done _ _ _ _ _ _ _ _ _ _ _ _ ready _ _ _ _ _ (c.take-d.ensures.taken (record { passes = ready.passes; found = c.in-Some.ensures _ _ _ _ })) _ _ c.store_delivery.ensures (cc)
