-- The numbers that a step's outcome counts are small. Assumes nothing.
use Prim.Native.Nat.{ℕ}
use mathlib.Core.Path.{◌≡◌, subst, sym}
use native.Mathlib.Omega.{arith}
use Rattle.causality.specs.Demand3.{World}
use Rattle.world.proofs.Cases.{deliver-cases, offer-cases, send-cases}
use Rattle.world.specs.Steps.{AfterStep, deliver_step, offer_step, send_step}
use Rattle.world.specs.Outcome.{Outcome}
use Rattle.counting.specs.Stands.{Few}

-- of what is another step's
pub few_as : (o p : Outcome) → o ≡ p → Few p → Few o
few_as o p e f = subst Few (sym e) f

-- of each step
abbrev Counts : AfterStep → Type 0
Counts a = Few a.outcome

module _ (w : World) where
  pub send-few : (n limit i j : ℕ) → Few (send_step n limit w i j).outcome
  send-few n limit i j = send-cases w Counts (λ k. tt) n limit i j (λ h bytes extras t. omega (arith, t.few))

  pub offer-few : (m : ℕ) → Few (offer_step w m).outcome
  offer-few m = offer-cases w Counts (λ k. tt) m (λ p g at count ready e t. tt)

  pub deliver-few : (n limit j : ℕ) → Few (deliver_step n limit w j).outcome
  deliver-few n limit j = deliver-cases w Counts (λ k. tt) n limit j (λ h tried t. omega (arith, t.0)) (λ h d t. omega (arith, t.few, t.nodes))
