-- The test, the call, the issue found in the log, and what is left. Assumes nothing.
use Prim.Native.Nat.{ℕ}
use mathlib.Core.Path.{◌∙◌, ap, sym}
use native.Mathlib.Omega.{arith}
use lib.ListN.{length-map}
use lib.Seq.{length-take-le}
use Rattle.causality.specs.Demand3.{Issue}
use Rattle.holdback.specs.Slots.{zeros}
use Rattle.node.proofs.Shared.{passed_on}
use Rattle.node.specs.Told.{deliver_told, found_told}
use Rattle.world.proofs.Delivers.{deliver_17, deliver-frame, deliver-nothing, deliver-refused, delivery-fits}
use Rattle.world.proofs.Logs.{some-or}
use Rattle.world.specs.Steps.{frames, issue_from}
use Rattle.world.proofs.World.deliver.Goals as goal

pub returns-then-stops-clause-step : goal.returns-then-stops-clause-step
returns-then-stops-clause-step c = λ n caps k v short h. deliver_17 n caps _ k v _ _ _ h short _ c.stops.ensures c.if-stops.true

pub slice_bounds-out-end : goal.slice_bounds-out-end
unfolding zeros
slice_bounds-out-end c =
    (delivery-fits c.requires _ c.stops.ensures c.if-stops.false _ c.deliver-done.ensures c.deliver-done.auto.queue (ap deliver_told c.in_ok-tried.was ∙ ap found_told c.in-Frame.is)).inside

pub slice_bounds-append-end : goal.slice_bounds-append-end
unfolding zeros
slice_bounds-append-end c =
    sym (length-take-le _ _
    (delivery-fits c.requires _ c.stops.ensures c.if-stops.false _ c.deliver-done.ensures c.deliver-done.auto.queue (ap deliver_told c.in_ok-tried.was ∙ ap found_told c.in-Frame.is)).inside)

pub append-requires-clause-counted : goal.append-requires-clause-counted
unfolding zeros
append-requires-clause-counted c =
    let f = delivery-fits c.requires _ c.stops.ensures c.if-stops.false _ c.deliver-done.ensures c.deliver-done.auto.queue (ap deliver_told c.in_ok-tried.was ∙ ap found_told c.in-Frame.is) in
    omega (arith, f.counted)

pub append-requires-clause-room : goal.append-requires-clause-room
unfolding zeros
append-requires-clause-room c =
    (delivery-fits c.requires _ c.stops.ensures c.if-stops.false _ c.deliver-done.ensures c.deliver-done.auto.queue (ap deliver_told c.in_ok-tried.was ∙ ap found_told c.in-Frame.is)).room

pub returns-in_err-tried-clause-step : goal.returns-in_err-tried-clause-step
unfolding zeros
returns-in_err-tried-clause-step c =
    rw (passed_on c.from_residual.result _ c.from_residual.ensures.1)
    λ n caps k v short h. deliver-refused n caps _ k v _ _ _ h short _ c.stops.ensures c.if-stops.false _ _ _ _ c.deliver-done.ensures
    c.deliver-done.auto.queue _ (ap deliver_told c.in_err-tried.was)

pub returns-in-Nothing-clause-step : goal.returns-in-Nothing-clause-step
unfolding zeros
returns-in-Nothing-clause-step c =
    λ n caps k v short h. deliver-nothing n caps _ k v _ _ _ h short _ c.stops.ensures c.if-stops.false _ _ _ _ c.deliver-done.ensures
    c.deliver-done.auto.queue _ (ap deliver_told c.in_ok-tried.was ∙ ap found_told c.in-Nothing.is)

pub returns-in-Frame-clause-step : goal.returns-in-Frame-clause-step
unfolding zeros
returns-in-Frame-clause-step c =
    λ n caps k v short h. deliver-frame n caps _ k v _ _ _ h short _ c.stops.ensures c.if-stops.false _ _ _ _ c.deliver-done.ensures
    c.deliver-done.auto.queue (ap deliver_told c.in_ok-tried.was ∙ ap found_told c.in-Frame.is) _
    (c.unwrap_or-issue.ensures ∙ some-or _ _ (c.find.ensures (frames v.log) h.begins (omega (arith, h.issued, length-map v.log (λ (g : Issue). g.frame))))
    ∙ ap (λ (x : ℕ). issue_from 1 (record { kind = x; from = c.in-Frame.d.from; number = c.in-Frame.d.number }) c.args.at (frames v.log)) c.byte.ensures)
    _ _ c.append.ensures.counts c.append.ensures.written
