-- A step of a simulation by its cases: what holds of every refusal, and of what the call leaves where it is not refused, holds of the step. Assumes nothing.
use Prim.Native.Nat.{ℕ, zero, suc, ◌<◌}
use mathlib.Core.Bool.{◌||◌}
use mathlib.Core.List.{[]}
use mathlib.Core.Option.{Option, none, some}
use mathlib.Core.Path.{◌≡◌, refl}
use lib.Dec.{leb, nleb→lt}
use lib.ListN.{get_elem?}
use Rattle.wire.proofs.Tests.{cond_elim, or-not}
use Rattle.rights.specs.Rights.{mover}
use Rattle.node.proofs.Told.{DeliverTold, OfferTold, SendTold, deliver-told, offer-told, send-told}
use Rattle.node.specs.Answers.{AfterDeliver, AfterOffer, AfterSend}
use Rattle.node.specs.Calls.{deliver_call, offer_call, send_call}
use Rattle.node.specs.Delivered.{Delivered}
use Rattle.node.specs.SendAnswer.{SendAnswer}
use Rattle.node.specs.OfferAnswer.{OfferAnswer}
use Rattle.node.specs.DeliverAnswer.{DeliverAnswer}
use Rattle.node.specs.SendAnswer as send_answer
use Rattle.node.specs.OfferAnswer as offer_answer
use Rattle.node.specs.DeliverAnswer as deliver_answer
use Rattle.causality.specs.Demand3.{Issue, World, destination}
use Rattle.world.specs.Steps.{AfterStep, after_delivered, after_offered, after_sent, body_output, deliver_step, exhausted}
use Rattle.world.specs.Steps.{frame_output, offer_step, offer_to, refuse, send_step}

-- the calls of the three steps
abbrev pub send_made : World → ℕ → ℕ → AfterSend
send_made w i j = send_call (w.records i) j mover [] frame_output

abbrev pub offer_made : World → Issue → AfterOffer
offer_made w g = offer_call (w.records (destination g.frame)) g.frame (w.queues (destination g.frame))

abbrev pub deliver_made : World → ℕ → AfterDeliver
deliver_made w j = deliver_call (w.records j) (w.queues j) frame_output body_output

module _ (w : World) (P : AfterStep → Type 0) (refused : (k : ℕ) → P (refuse k w)) where
  pub send-cases : (n limit i j : ℕ)
      → (i < n → (bytes extras : ℕ) → SendTold frame_output (send_answer.Sent bytes extras) (send_made w i j)
      → P (after_sent w i j (send_made w i j) (send_answer.Sent bytes extras)))
      → P (send_step n limit w i j)
  unfolding send_step
  send-cases n limit i j sent =
      cond_elim P (leb n i || exhausted n limit w) (refuse 17 w) (after_sent w i j (send_made w i j) (send_made w i j).result.answer) (λ t. refused 17)
      (λ t. go (nleb→lt n i (or-not (leb n i) (exhausted n limit w) t).0) (send_made w i j).result.answer (send-told (w.records i) j mover [] frame_output))
    where
      go : i < n → (a : SendAnswer) → SendTold frame_output a (send_made w i j) → P (after_sent w i j (send_made w i j) a)
      go h (send_answer.Refused k) t = refused k
      go h (send_answer.Sent bytes extras) t = sent h bytes extras t

  pub offer-cases : (m : ℕ)
      → ((p : ℕ) (g : Issue) → get_elem? w.log p ≡ some g → (count : ℕ) (ready : _) → (offer_made w g).result.answer ≡ offer_answer.Held count ready
      → OfferTold (w.queues (destination g.frame)) (offer_answer.Held count ready) (offer_made w g)
      → P (after_offered w (destination g.frame) p (offer_made w g) (offer_answer.Held count ready)))
      → P (offer_step w m)
  unfolding offer_step
  offer-cases zero held = refused 17
  offer-cases (suc p) held = to (get_elem? w.log p) refl
    where
      go : (g : Issue) → get_elem? w.log p ≡ some g → (a : OfferAnswer) → (offer_made w g).result.answer ≡ a
          → OfferTold (w.queues (destination g.frame)) a (offer_made w g)
          → P (after_offered w (destination g.frame) p (offer_made w g) a)
      go g at (offer_answer.Refused k) e t = refused k
      go g at (offer_answer.Held count ready) e t = held p g at count ready e t

      to : (o : Option Issue) → get_elem? w.log p ≡ o → P (offer_to w p o)
      to none at = refused 17
      to (some g) at =
          go g at (offer_made w g).result.answer refl (offer-told (w.records (destination g.frame)) g.frame (w.queues (destination g.frame)))

  pub deliver-cases : (n limit j : ℕ)
      → (j < n → (tried : ℕ) → DeliverTold (w.records j) (w.queues j) frame_output (deliver_answer.Nothing tried) (deliver_made w j)
      → P (after_delivered w j (deliver_made w j) (deliver_answer.Nothing tried)))
      → (j < n → (d : Delivered) → DeliverTold (w.records j) (w.queues j) frame_output (deliver_answer.Frame d) (deliver_made w j)
      → P (after_delivered w j (deliver_made w j) (deliver_answer.Frame d)))
      → P (deliver_step n limit w j)
  unfolding deliver_step
  deliver-cases n limit j nothing frame =
      cond_elim P (leb n j || exhausted n limit w) (refuse 17 w) (after_delivered w j (deliver_made w j) (deliver_made w j).result.answer) (λ t. refused 17)
      (λ t. go (nleb→lt n j (or-not (leb n j) (exhausted n limit w) t).0) (deliver_made w j).result.answer
      (deliver-told (w.records j) (w.queues j) frame_output body_output))
    where
      go : j < n → (a : DeliverAnswer) → DeliverTold (w.records j) (w.queues j) frame_output a (deliver_made w j) → P (after_delivered w j (deliver_made w j) a)
      go h (deliver_answer.Refused k) t = refused k
      go h (deliver_answer.Nothing tried) t = nothing h tried t
      go h (deliver_answer.Frame d) t = frame h d t
