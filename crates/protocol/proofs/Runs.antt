-- Every list of steps leads to a good world, with at most one event for each step.
use Prim.Native.Nat.{ℕ, suc, ◌+◌, ◌≤◌, ◌<◌}
use mathlib.Core.List.{List, [], ◌∷◌}
use mathlib.Core.Option.{Option, none, some}
use mathlib.Core.Path.{◌≡◌, refl}
use native.Mathlib.Omega.{arith}
use lib.Dec.{ltb→lt, ltb}
use lib.ListN.{length, get_elem?}
use Rattle.matrix.specs.Matrix.{column_count, count}
use Rattle.matrix.specs.Message.{EachInRange}
use Rattle.protocol.proofs.Good.{state_of, Good}
use Rattle.protocol.proofs.Lists.{at_none, length-snoc}
use Rattle.protocol.proofs.Offering.{offer-good}
use Rattle.protocol.proofs.Sending.{send-good}
use Rattle.protocol.proofs.State.{Invariant}
use Rattle.protocol.proofs.Taking.{deliver-good}
use Rattle.protocol.specs.Answer.{Outcome}
use Rattle.protocol.specs.Deliver.{deliver}
use Rattle.protocol.specs.Offer.{offer}
use Rattle.protocol.specs.Send.{send}
use Rattle.protocol.specs.World.{Step, sends, offers, delivers, Issue, IssueAt, step, World, start, after_step, offer_at, run}
use Rattle.wire.proofs.Tests.{cond_elim}

-- a step by its cases: what holds of the world as it was, and of what each call leaves, holds of the world after it
pub step-cases : (n : ℕ) (w : World) (P : World → Type 0) → P w
    → ((i to : ℕ) (body : List ℕ) → i < n → P (after_step w i (sends i to body) (send (w.nodes i) to body)))
    → ((i p : ℕ) (l : Issue) → i < n → IssueAt w p l → P (after_step w i (offers i p) (offer (w.nodes i) l.message)))
    → ((i : ℕ) → i < n → P (after_step w i (delivers i) (deliver (w.nodes i)))) → (s : Step) → P (step n w s)
unfolding step
step-cases n w P same sent offered delivered (sends i to body) =
    cond_elim P (ltb i n) (after_step w i (sends i to body) (send (w.nodes i) to body)) w (λ t. sent i to body (ltb→lt i n t)) (λ _. same)
step-cases n w P same sent offered delivered (offers i p) =
    cond_elim P (ltb i n) (offer_at w i p (get_elem? w.log p)) w (λ t. go (ltb→lt i n t) (get_elem? w.log p) refl) (λ _. same)
  where
    go : i < n → (o : Option Issue) → get_elem? w.log p ≡ o → P (offer_at w i p o)
    go h none e = same
    go h (some l) e = offered i p l h e
step-cases n w P same sent offered delivered (delivers i) =
    cond_elim P (ltb i n) (after_step w i (delivers i) (deliver (w.nodes i))) w (λ t. delivered i (ltb→lt i n t)) (λ _. same)

-- a step
pub step-good : (n : ℕ) (caps : ℕ → ℕ) (w : World) (s : Step) → Good n caps w → Good n caps (step n w s)
step-good n caps w s g =
    step-cases n w (Good n caps) g (λ i to body h. send-good n caps w g i to body h) (λ i p l h e. offer-good n caps w g i h p l e)
    (λ i h. deliver-good n caps w g i h) s

-- a list of steps
pub run-good : (n : ℕ) (caps : ℕ → ℕ) (w : World) (l : List Step) → Good n caps w → Good n caps (run n w l)
run-good n caps w [] g = g
run-good n caps w (s ∷ l) g = run-good n caps (step n w s) l (step-good n caps w s g)

-- at most one event more
abbrev Longer : World → World → Type 0
Longer w w' = length w'.history ≤ suc (length w.history)

-- a step that was made
after-longer : (w : World) (i : ℕ) (s : Step) (r : Outcome) → Longer w (after_step w i s r)
after-longer w i s r = rw length-snoc (omega arith)

-- any step
step-longer : (n : ℕ) (w : World) (s : Step) → Longer w (step n w s)
step-longer n w s =
    step-cases n w (λ (z : World). Longer w z) (omega arith) (λ i to body _. after-longer w i (sends i to body) (send (w.nodes i) to body))
    (λ i p l _ _. after-longer w i (offers i p) (offer (w.nodes i) l.message)) (λ i _. after-longer w i (delivers i) (deliver (w.nodes i))) s

-- no more events than steps
pub run_length : (n : ℕ) (w : World) (l : List Step) → length (run n w l).history ≤ length w.history + length l
run_length n w [] = omega arith
run_length n w (s ∷ l) = omega (arith, run_length n (step n w s) l, step-longer n w s)

-- a zero matrix has no entries
pub count-zero : count (λ x y. 0) ≡ 0
unfolding count column_count
count-zero = refl

-- the fresh nodes
pub start-good : (n : ℕ) (caps : ℕ → ℕ) → EachInRange n caps → Good n caps (start n caps)
start-good n caps range = record {
  range = range;
  invariant = invariant₀;
  node = λ k h. record {
    me = refl;
    sized = refl;
    capped = refl;
    rules = record { rows = λ x y h. refl; columns = λ x y h. refl; diagonal = λ x. refl; own = λ x. refl };
    few = omega (arith, count-zero);
    row = λ y. omega arith;
    queue = record {
      from = λ h f e. absurd (at_none h f e);
      to = λ h f e. absurd (at_none h f e);
      above = λ h f e. absurd (at_none h f e);
      distinct = λ h h' f f' e. absurd (at_none h f e);
      room = omega arith;
      ready = λ e. absurd (omega arith);
    };
    number = refl;
  };
  sound = λ p l e. absurd (at_none p l e);
  taken = λ t j p e a. absurd (at_none t e a);
}
  where
    invariant₀ : Invariant (state_of (start n caps))
    invariant₀ = record {
      early = λ p f e. absurd (at_none p f e);
      one_each = λ p q f g e. absurd (at_none p f e);
      distinct = λ p q f g e. absurd (at_none p f e);
      numbered = λ p f e. absurd (at_none p f e);
      kept = λ i x y k e. absurd (omega arith);
      carried = λ p f e. absurd (at_none p f e);
      deliv_bound = λ j x. omega arith;
      closed = λ p f e. absurd (at_none p f e);
      seen = λ p f e. absurd (at_none p f e);
      told = λ t e k a. absurd (at_none t e a);
      later = λ p b f e. absurd (at_none p f e);
      once = λ t u e e' k k' a. absurd (at_none t e a);
      own = λ i x. refl;
      node_covers = λ p b i m e a. absurd (at_none p m a);
      message_covers = λ p q m f a. absurd (at_none p m a);
      causal = λ p q u m f a. absurd (at_none p m a);
    }
