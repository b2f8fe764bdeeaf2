-- The refusal, nothing deliverable, or the frame that is taken and counted. Assumes nothing.
use mathlib.Core.Path.{◌∙◌, ap}
use lib.ListN.{length}
use Rattle.refusal.proofs.Laws.{number-none}
use Rattle.node.proofs.Delivering.{deliver-accepted, deliver-none, deliver-passes, deliver-ready, deliver-refused, finds-at}
use Rattle.node.proofs.Shared.{passed_on}
use Rattle.node.specs.CallRefusals.{deliver_refusal}
use Rattle.node.proofs.Node.deliver_in_place.Goals as goal

pub returns-in_err-check_deliver : goal.returns-in_err-check_deliver
returns-in_err-check_deliver c =
    rw (passed_on c.from_residual.result _ c.from_residual.ensures.1)
    (deliver-refused _ _ _ _ _ (c.in_err-check_deliver.ensures ∙ ap (deliver_refusal c.args.self.now c.args.queue.now) c.short_outputs-short.ensures)
    (number-none _))

pub search-requires : goal.search-requires
search-requires c =
    let a = c.args in
    let passes = deliver-passes a.self.now a.queue.now (length a.out.now) (length a.body.now) _ c.short_outputs-short.ensures c.in_ok-check_deliver.ensures in
    (deliver-ready a.self.now a.queue.now (length a.out.now) (length a.body.now) passes).queue

pub returns-in-None : goal.returns-in-None
returns-in-None c =
    let a = c.args in
    deliver-none _ _ _ _ (c.in-None.ensures _ _ _ _)
    ∙ deliver-accepted _ _ _ _
    (deliver-passes a.self.now a.queue.now (length a.out.now) (length a.body.now) _ c.short_outputs-short.ensures c.in_ok-check_deliver.ensures)

pub take-requires : goal.take-requires
take-requires c =
    let a = c.args in
    finds-at (record {
      passes = deliver-passes a.self.now a.queue.now (length a.out.now) (length a.body.now) _ c.short_outputs-short.ensures c.in_ok-check_deliver.ensures;
      found = c.in-Some.ensures _ _ _ _;
    })

pub returns-in-Some : goal.returns-in-Some
returns-in-Some c =
    let a = c.args in
    c.take.ensures.taken (record {
      passes = deliver-passes a.self.now a.queue.now (length a.out.now) (length a.body.now) _ c.short_outputs-short.ensures c.in_ok-check_deliver.ensures;
      found = c.in-Some.ensures _ _ _ _;
    })
