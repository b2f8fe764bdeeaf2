-- The refusal, or the frame laid behind the held ones. Assumes nothing.
use mathlib.Core.Path.{◌∙◌, refl}
use native.Mathlib.Omega.{arith}
use Rattle.refusal.proofs.Laws.{number-none}
use Rattle.node.proofs.Offering.{offer-accepted, offer-leaves, offer-refused, offerable, passed-offer, take-offer}
use Rattle.node.proofs.Shared.{passed_on}
use Rattle.node.proofs.Node.offer_in_place.Goals as goal

pub returns-in_err-ready : goal.returns-in_err-ready
returns-in_err-ready c =
    rw (passed_on c.from_residual.result _ c.from_residual.ensures.1)
    (offer-refused _ _ _ _ (c.in_err-ready.ensures.refusal ∙ take-offer _ _ _) (number-none _))

pub hold-requires : goal.hold-requires
hold-requires c =
    let k = (offerable _ _ _ (passed-offer _ _ _ c.in_ok-ready.ensures.refusal)).holdable in
    (k.size, k.room, k.fits, k.queue)

pub overflow_add-self : goal.overflow_add-self
overflow_add-self c =
    record { fits = omega (arith, (offerable _ _ _ (passed-offer _ _ _ c.in_ok-ready.ensures.refusal)).holdable.room) }

pub returns : goal.returns
returns c =
    offer-leaves c.args.self.now c.args.frame.now c.args.queue.now _ _ _ c.hold.ensures c.in_ok-ready.ensures.ready refl
    ∙ offer-accepted _ _ _ (passed-offer _ _ _ c.in_ok-ready.ensures.refusal)
