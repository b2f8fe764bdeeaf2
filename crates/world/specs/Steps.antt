-- A simulation's steps on the world of a list (document 01, *Steps* and *The yard*): each is a call of the node's own definitions, or refusal 17.
use Rattle.std.specs.Prelude.{ℕ, zero, suc, ◌+◌, ◌-◌, Bool, cond, ◌&&◌, ◌||◌, List, [], ◌∷◌, map, eqb, leb, ltb, length}
use Rattle.std.proofs.Math.Option.{Option, none, some}
use Rattle.std.proofs.Math.ListN.{get_elem?}
use Rattle.wire.specs.Limits.{max_body}
use Rattle.holdback.specs.Slots.{zeros}
use Rattle.rights.specs.Rights.{mover}
use Rattle.node.specs.SendAnswer.{SendAnswer}
use Rattle.node.specs.OfferAnswer.{OfferAnswer}
use Rattle.node.specs.DeliverAnswer.{DeliverAnswer}
use Rattle.node.specs.SendAnswer as send_answer
use Rattle.node.specs.OfferAnswer as offer_answer
use Rattle.node.specs.DeliverAnswer as deliver_answer
use Rattle.node.specs.Answers.{AfterSend, AfterOffer, AfterDeliver}
use Rattle.node.specs.Sizes.{out_size}
use Rattle.node.specs.Calls.{send_call, offer_call, deliver_call}
use Rattle.causality.specs.Demand3.{World, Issue, Label, sends, offers, delivers, send_at, offer_at, deliver_at, label, destination}
use Rattle.world.specs.Outcome.{Outcome}
use Rattle.world.specs.Outcome as outcome

-- the buffers lent to a step's call
abbrev pub frame_output : List ℕ
frame_output = zeros out_size

abbrev pub body_output : List ℕ
body_output = zeros max_body

-- what a step leaves: its outcome, and the world
pub record AfterStep : Type 0 where
  pub outcome : Outcome
  pub world : World

-- a refusal: nothing else is done
abbrev pub refuse : ℕ → World → AfterStep
refuse k w = record { outcome = outcome.Refused k; world = w }

-- fewer than n of the limit's issues are left
abbrev pub exhausted : ℕ → ℕ → World → Bool
exhausted n limit w = ltb (limit - length w.log) n

-- ---- send, with an empty body, which every class may send; a simulation sends with class 0 (document 02, (vii))

abbrev pub after_sent : World → ℕ → ℕ → AfterSend → SendAnswer → AfterStep
after_sent w i j c (send_answer.Refused k) = refuse k w
after_sent w i j c (send_answer.Sent bytes extras) = record { outcome = outcome.Sent extras; world = send_at w i (sends i j mover [] frame_output) c }

-- from i to j: 17 where i is not below n or too few issues are left; j is left to the node
unfoldable pub send_step : ℕ → ℕ → World → ℕ → ℕ → AfterStep
send_step n limit w i j =
    cond (leb n i || exhausted n limit w) (refuse 17 w)
    (let c : AfterSend = send_call (w.records i) j mover [] frame_output in after_sent w i j c c.result.answer)

-- ---- offer, of an issue counted from 1, at its destination

abbrev pub after_offered : World → ℕ → ℕ → AfterOffer → OfferAnswer → AfterStep
after_offered w j p c (offer_answer.Refused k) = refuse k w
after_offered w j p c (offer_answer.Held count ready) = record { outcome = outcome.Held count ready; world = offer_at w j (offers j p) c }

-- 17 where the issue was not made
abbrev pub offer_to : World → ℕ → Option Issue → AfterStep
offer_to w p none = refuse 17 w
offer_to w p (some g) =
    let j : ℕ = destination g.frame in
    let c : AfterOffer = offer_call (w.records j) g.frame (w.queues j) in
    after_offered w j p c c.result.answer

unfoldable pub offer_step : World → ℕ → AfterStep
offer_step w zero = refuse 17 w
offer_step w (suc p) = offer_to w p (get_elem? w.log p)

-- ---- deliver

-- whether the frame s goes to node j and has this kind, from and number
unfoldable pub named : Label → ℕ → List ℕ → Bool
named a j s = eqb (destination s) j && eqb (label s).kind a.kind && eqb (label s).from a.from && eqb (label s).number a.number

-- the issue of the first of the frames, counted from k on, that is so named; 0 where none is
unfoldable pub issue_from : ℕ → Label → ℕ → List (List ℕ) → ℕ
issue_from k a j [] = 0
issue_from k a j (s ∷ l) = cond (named a j s) k (issue_from (k + 1) a j l)

-- the frames of a log
abbrev pub frames : List Issue → List (List ℕ)
frames l = map (λ (g : Issue). g.frame) l

abbrev pub after_delivered : World → ℕ → AfterDeliver → DeliverAnswer → AfterStep
after_delivered w j c (deliver_answer.Refused k) = refuse k w
after_delivered w j c (deliver_answer.Nothing tried) = record { outcome = outcome.Nothing tried; world = deliver_at w j (delivers j frame_output body_output) c }
after_delivered w j c (deliver_answer.Frame d) =
    record {
      outcome = outcome.Delivered (issue_from 1 (record { kind = d.kind; from = d.from; number = d.number }) j (frames w.log)) d.tried d.extras;
      world = deliver_at w j (delivers j frame_output body_output) c;
    }

-- at j: 17 where j is not below n or too few issues are left
unfoldable pub deliver_step : ℕ → ℕ → World → ℕ → AfterStep
deliver_step n limit w j =
    cond (leb n j || exhausted n limit w) (refuse 17 w)
    (let c : AfterDeliver = deliver_call (w.records j) (w.queues j) frame_output body_output in after_delivered w j c c.result.answer)
