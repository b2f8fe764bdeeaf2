-- The tests, the frame found in the log, the call, and what it leaves. Assumes nothing.
use mathlib.Core.Path.{ap, refl}
use native.Mathlib.Omega.{arith}
use Rattle.arrival.proofs.Sound.{header-room}
use Rattle.node.proofs.Shared.{passed_on}
use Rattle.node.specs.Told.{offer_told}
use Rattle.world.proofs.Offers.{made-part, made-room, made-to, offer-held, offer-none, offer-past, offer-refused}
use Rattle.world.proofs.World.offer.Goals as goal
use Rattle.world.proofs.World.offer.Goals.{then-issue-eq0-via-then-issue-eq0, then-issue-eq0-via-else-issue-eq0+then-self-issue}

pub returns-then-issue-eq0-clause-step : goal.returns-then-issue-eq0-clause-step
returns-then-issue-eq0-clause-step c =
    λ n caps k v short h. elim c.then-issue-eq0.branch [
      | then-issue-eq0-via-then-issue-eq0 w ↦ offer-none n caps _ k v _ _ _ h short _ w.if-issue-eq0.true
      | then-issue-eq0-via-else-issue-eq0+then-self-issue w ↦ offer-past n caps _ k v _ _ _ h short _ w.if-issue-eq0.false w.if-self-issue.true
    ]

pub frame_end-end-requires : goal.frame_end-end-requires
frame_end-end-requires c = made-room c.requires c.if-issue-eq0.false c.if-self-issue.false c.skip-start.ensures

pub slice_bounds-frame-end : goal.slice_bounds-frame-end
slice_bounds-frame-end c =
    let p = made-part c.requires c.if-issue-eq0.false c.if-self-issue.false c.skip-start.ensures c.frame_end-end.ensures in omega (arith, p.from, p.inside)

pub read-requires : goal.read-requires
read-requires c =
    let p = made-part c.requires c.if-issue-eq0.false c.if-self-issue.false c.skip-start.ensures c.frame_end-end.ensures in rw p.same (header-room _ p.sound)

pub bounds-self-to : goal.bounds-self-to
bounds-self-to c = made-to c.requires c.if-issue-eq0.false c.if-self-issue.false c.skip-start.ensures c.frame_end-end.ensures c.read.ensures _ c.from-to.ensures

pub slice_bounds-offer-end : goal.slice_bounds-offer-end
slice_bounds-offer-end c =
    let t = made-to c.requires c.if-issue-eq0.false c.if-self-issue.false c.skip-start.ensures c.frame_end-end.ensures c.read.ensures _ c.from-to.ensures in
    omega (arith, t, c.requires.holds.size)

pub returns-in_err-held-clause-step : goal.returns-in_err-held-clause-step
returns-in_err-held-clause-step c =
    rw (passed_on c.from_residual.result _ c.from_residual.ensures.1)
    λ n caps k v short h. offer-refused n caps _ k v _ _ _ h short _ c.if-issue-eq0.false c.if-self-issue.false _ _ c.skip-start.ensures c.frame_end-end.ensures
    _ c.read.ensures _ c.from-to.ensures _ _ c.offer-offered.ensures c.offer-offered.auto.queue _ (ap offer_told c.in_err-held.was)

pub returns-clause-step : goal.returns-clause-step
returns-clause-step c =
    λ n caps k v short h. offer-held n caps _ k v _ _ _ h short _ c.if-issue-eq0.false c.if-self-issue.false _ _ c.skip-start.ensures c.frame_end-end.ensures
    _ c.read.ensures _ c.from-to.ensures _ _ c.offer-offered.ensures c.offer-offered.auto.queue _ _ (ap offer_told c.in_ok-held.was) _ refl
