-- The image is opened, the checks are told, and what the send issued is written. Assumes nothing.
use native.Mathlib.Omega.{arith}
use Rattle.refusal.proofs.Laws.{number-none}
use Rattle.node.proofs.Sending.{passes-at}
use Rattle.node.proofs.Shared.{passed_on}
use Rattle.host.proofs.Left.{send_20, send-done, send-ready, send-small, send-why}
use Rattle.host.proofs.calls.send.Goals as goal

pub returns-in_err-node : goal.returns-in_err-node
returns-in_err-node c =
    rw (passed_on c.from_residual.result _ c.from_residual.ensures.1) (send_20 _ _ _ _ _ _ _ c.in_err-node.ensures.refusal (number-none _))

pub returns-in_err-told : goal.returns-in_err-told
returns-in_err-told c =
    rw (passed_on c.from_residual-in_err-told.result _ c.from_residual-in_err-told.ensures.1)
    (send-why _ _ _ _ _ _ c.in_ok-node.ensures.refusal _ c.in_ok-node.ensures.record.0 _ _ c.room.ensures c.check_send.ensures _
    c.in_err-told.ensures (number-none _))

pub issue-issue-requires : goal.issue-issue-requires
issue-issue-requires c =
    let ready = send-ready _ _ _ _ _ _ c.in_ok-node.ensures.refusal _ c.in_ok-node.ensures.record.0 _ _
    c.room.ensures c.check_send.ensures c.in_ok-told.ensures in
    passes-at (record { class = c.args.class; passes = ready.passes })

pub overflow_cast-said : goal.overflow_cast-said
overflow_cast-said c =
    let ready = send-ready _ _ _ _ _ _ c.in_ok-node.ensures.refusal _ c.in_ok-node.ensures.record.0 _ _
    c.room.ensures c.check_send.ensures c.in_ok-told.ensures in
    let small = send-small _ _ _ _ _ _ _ _ _ _ _ _ _ ready _ _ _ _ c.issue-issue.ensures in
    record { fits = omega (arith, small.0) }

pub overflow_cast-said-2 : goal.overflow_cast-said-2
overflow_cast-said-2 c =
    let ready = send-ready _ _ _ _ _ _ c.in_ok-node.ensures.refusal _ c.in_ok-node.ensures.record.0 _ _
    c.room.ensures c.check_send.ensures c.in_ok-told.ensures in
    let small = send-small _ _ _ _ _ _ _ _ _ _ _ _ _ ready _ _ _ _ c.issue-issue.ensures in
    record { fits = omega (arith, small.1) }

pub write-requires : goal.write-requires
write-requires c =
    let ready = send-ready _ _ _ _ _ _ c.in_ok-node.ensures.refusal _ c.in_ok-node.ensures.record.0 _ _
    c.room.ensures c.check_send.ensures c.in_ok-told.ensures in
    ready.long

pub returns : goal.returns
returns c =
    let ready = send-ready _ _ _ _ _ _ c.in_ok-node.ensures.refusal _ c.in_ok-node.ensures.record.0 _ _
    c.room.ensures c.check_send.ensures c.in_ok-told.ensures in
    send-done _ _ _ _ _ _ _ _ _ _ _ _ _ ready _ _ _ _ c.issue-issue.ensures _ _ c.store_matrix.ensures (cc)
