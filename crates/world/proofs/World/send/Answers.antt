-- The test, the call, and what it leaves. Assumes nothing.
use mathlib.Core.Path.{ap, sym}
use native.Mathlib.Omega.{arith}
use lib.Seq.{length-take-le}
use Rattle.holdback.specs.Slots.{zeros}
use Rattle.node.proofs.Shared.{passed_on}
use Rattle.node.specs.Told.{send_told}
use Rattle.world.proofs.Sends.{send-fits, send_17, send-refused, send-sent}
use Rattle.world.proofs.World.send.Goals as goal

pub returns-then-stops-clause-step : goal.returns-then-stops-clause-step
returns-then-stops-clause-step c = λ n caps k v q short h. send_17 n caps _ k v _ q _ h short _ _ c.stops.ensures c.if-stops.true

pub overflow_add-issue : goal.overflow_add-issue
unfolding zeros
overflow_add-issue c =
    let f = send-fits c.requires _ _ c.stops.ensures c.if-stops.false c.send-sent.ensures (ap send_told c.in_ok-issue.was) in omega (arith, f.few)

pub slice_bounds-out-end : goal.slice_bounds-out-end
unfolding zeros
slice_bounds-out-end c = (send-fits c.requires _ _ c.stops.ensures c.if-stops.false c.send-sent.ensures (ap send_told c.in_ok-issue.was)).inside

pub slice_bounds-append-end : goal.slice_bounds-append-end
unfolding zeros
slice_bounds-append-end c =
    sym (length-take-le _ _ (send-fits c.requires _ _ c.stops.ensures c.if-stops.false c.send-sent.ensures (ap send_told c.in_ok-issue.was)).inside)

pub append-requires-clause-counted : goal.append-requires-clause-counted
unfolding zeros
append-requires-clause-counted c =
    let f = send-fits c.requires _ _ c.stops.ensures c.if-stops.false c.send-sent.ensures (ap send_told c.in_ok-issue.was) in omega (arith, f.counted)

pub append-requires-clause-room : goal.append-requires-clause-room
unfolding zeros
append-requires-clause-room c = (send-fits c.requires _ _ c.stops.ensures c.if-stops.false c.send-sent.ensures (ap send_told c.in_ok-issue.was)).room

pub returns-in_err-issue-clause-step : goal.returns-in_err-issue-clause-step
unfolding zeros
returns-in_err-issue-clause-step c =
    rw (passed_on c.from_residual.result _ c.from_residual.ensures.1)
    λ n caps k v q short h. send-refused n caps _ k v _ q _ h short _ _ c.stops.ensures c.if-stops.false _ _ c.send-sent.ensures _
    (ap send_told c.in_err-issue.was)

pub returns-clause-step : goal.returns-clause-step
unfolding zeros
returns-clause-step c =
    λ n caps k v q short h. send-sent n caps _ k v _ q _ h short _ _ c.stops.ensures c.if-stops.false _ _ c.send-sent.ensures
    (ap send_told c.in_ok-issue.was) _ _ c.append.ensures.counts c.append.ensures.written
