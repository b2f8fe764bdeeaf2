-- What holds of a step's outcome and world: the numbers that are printed are small, and the log only grows. Assumes nothing.
use Prim.Native.Nat.{ℕ, suc, ◌+◌, ◌≤◌, ◌<◌}
use mathlib.Core.List.{List, [], ◌∷◌, ◌++◌, append-nil}
use mathlib.Core.Path.{◌≡◌, refl, sym}
use native.Mathlib.Omega.{arith}
use lib.ListN.{length, length-map}
use Rattle.wire.proofs.Tests.{cond_elim}
use Rattle.causality.specs.Demand3.{Issue, Label, World}
use Rattle.world.proofs.Cases.{deliver-cases, offer-cases, send-cases}
use Rattle.world.specs.Steps.{AfterStep, deliver_step, frames, issue_from, named, offer_step, refuse, send_step}
use Rattle.commands.specs.declared.Command.{Command}
use Rattle.commands.specs.declared.Command.TheVariants as command
use Rattle.counting.proofs.Counts.{deliver-few, offer-few, send-few}
use Rattle.counting.specs.Stands.{Few}
use Rattle.simulation.specs.Asked.{Small}
use Rattle.simulation.specs.Commanded.{printed_with, step_of}
use Rattle.simulation.specs.Yard.{max_issues}

-- an issue that is found is one of the frames
issue-most : (k : ℕ) (a : Label) (j : ℕ) (f : List (List ℕ)) → issue_from k a j f ≤ k + length f
unfolding issue_from
issue-most k a j [] = omega arith
issue-most k a j (s ∷ f) =
    cond_elim (λ (i : ℕ). i ≤ k + suc (length f)) (named a j s) k (issue_from (k + 1) a j f) (λ t. omega arith) (λ t. omega (arith, issue-most (k + 1) a j f))

-- the frames of w are the first of v
abbrev pub Grown : World → World → Type 0
Grown w v = (l : List Issue) × (v.log ≡ w.log ++ l)

-- of a step at the world w: its numbers, x printed with them, are small, and the log grows
pub record StepFacts (x : ℕ) (w : World) (a : AfterStep) : Type 0 where
  pub small : Small x a.outcome
  pub grown : Grown w a.world

module _ (w : World) where
  refused-facts : (x k : ℕ) → StepFacts x w (refuse k w)
  refused-facts x k = record { small = tt; grown = ([], sym (append-nil w.log)) }

  pub send-facts : (x n limit i j : ℕ) → StepFacts x w (send_step n limit w i j)
  send-facts x n limit i j =
      send-cases w (StepFacts x w) (refused-facts x) n limit i j (λ _ bytes extras t. record { small = tt; grown = (_, refl) })

  pub offer-facts : (m : ℕ) → m < 1000 → StepFacts m w (offer_step w m)
  offer-facts m h =
      offer-cases w (StepFacts m w) (refused-facts m) m (λ p g at count ready e t. record { small = (h, omega (arith, t)); grown = (_, refl) })

  pub deliver-facts : (n limit j : ℕ) → length w.log < 99 → j < 1000 → StepFacts j w (deliver_step n limit w j)
  deliver-facts n limit j l h =
      deliver-cases w (StepFacts j w) (refused-facts j) n limit j (λ _ tried t. record { small = (h, omega (arith, t.0)); grown = (_, refl) })
      (λ _ d t. record {
        small = (
          h,
          omega (
            arith,
            issue-most 1 (record { kind = d.kind; from = d.from; number = d.number }) j (frames w.log),
            length-map w.log (λ (g : Issue). g.frame),
          ),
          omega (arith, t.tried),
        );
        grown = (_, refl);
      })

  -- of a command's step: what is printed with it, and what is counted
  pub step-facts : (n : ℕ) (c : Command) → length w.log < 99 → printed_with c < 1000 → StepFacts (printed_with c) w (step_of n w c)
  step-facts n (command.Send i j) l h = send-facts i n max_issues i j
  step-facts n (command.Offer m) l h = offer-facts m h
  step-facts n (command.Deliver j) l h = deliver-facts n max_issues j l h

  pub step-few : (n : ℕ) (c : Command) → Few (step_of n w c).outcome
  step-few n (command.Send i j) = send-few w n max_issues i j
  step-few n (command.Offer m) = offer-few w m
  step-few n (command.Deliver j) = deliver-few w n max_issues j
