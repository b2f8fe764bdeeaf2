-- A simulation's step leads from a world that a list leads to to another such world, whatever the limit of issues. Assumes nothing.
use Prim.Native.Nat.{ℕ, ◌+◌, ◌<◌}
use Rattle.matrix.specs.Message.{EachInRange}
use Rattle.causality.specs.Demand3.{World, destination}
use Rattle.rights.specs.Rights.{mover}
use Rattle.world.proofs.Cases.{deliver-cases, offer-cases, send-cases}
use Rattle.world.proofs.Reach.{issued-facts, reached-deliver, reached-later, reached-offer, reached-send}
use Rattle.world.specs.Reached.{Reached}
use Rattle.world.specs.Steps.{AfterStep, body_output, deliver_step, frame_output, offer_step, refuse, send_step}

module _ (n : ℕ) (caps : ℕ → ℕ) (k : ℕ) (w : World) (r : Reached n caps k w) where
  abbrev Next : AfterStep → Type 0
  Next a = Reached n caps (k + 1) a.world

  refused-reached : (x : ℕ) → Next (refuse x w)
  refused-reached x = reached-later n caps k w r

  pub send-reached : (limit i j : ℕ) → Next (send_step n limit w i j)
  send-reached limit i j = send-cases w Next refused-reached n limit i j (λ h bytes extras told. reached-send n caps k w r i j mover frame_output h)

  pub offer-reached : EachInRange n caps → k < 1000000000 → (m : ℕ) → Next (offer_step w m)
  offer-reached inside short m =
      offer-cases w Next refused-reached m
      (λ p g at count ready e told. reached-offer n caps k w r (destination g.frame) p g (issued-facts n caps k w r inside short p g at).to at)

  pub deliver-reached : (limit j : ℕ) → Next (deliver_step n limit w j)
  deliver-reached limit j =
      deliver-cases w Next refused-reached n limit j (λ h tried told. reached-deliver n caps k w r j frame_output body_output h)
      (λ h d told. reached-deliver n caps k w r j frame_output body_output h)
