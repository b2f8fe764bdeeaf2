-- Laws of the small definitions that the steps share: tests of the numbers below a bound, one value of a function changed, one count raised.
use Prim.Native.Nat.{ℕ, zero, suc, ◌+◌, ◌≤◌, ◌<◌}
use mathlib.Core.Bool.{Bool, not, cond}
use mathlib.Core.List.{List, [], ◌∷◌, ◌++◌}
use mathlib.Core.Logic.{◌≢◌}
use mathlib.Core.Path.{◌≡◌}
use native.Mathlib.Decide.{ℕ_discrete}
use native.Mathlib.Nat.{not-suc-le-zero}
use native.Mathlib.Omega.{arith}
use lib.Dec.{eqb, T}
use Rattle.protocol.specs.Answer.{Answer}
use Rattle.protocol.specs.Deliver.{count_up}
use Rattle.protocol.specs.Demand3.{answers_at}
use Rattle.protocol.specs.Node.{some_below, each_below, update}
use Rattle.protocol.specs.World.{Event}
use Rattle.wire.proofs.Tests.{cond_elim, cond_yes, eq→eqb, cond_same, cond-other, and_T, T_and, not-or, or-not}

-- each passes the test, as a test and as a fact
pub each_all : (k : ℕ) (p : ℕ → Bool) → T (each_below k p) → (x : ℕ) → x < k → T (p x)
each_all zero p t x h = absurd (not-suc-le-zero h)
each_all (suc k) p t x h = let r = and_T (each_below k p) (p k) t in go r.1 (each_all k p r.0 x) (ℕ_discrete x k)
  where
    go : T (p k) → (x < k → T (p x)) → Dec (x ≡ k) → T (p x)
    go last ih (yes e) = rw e last
    go last ih (no e) = ih (omega arith)

-- and back
pub all-each : (k : ℕ) (p : ℕ → Bool) → ((x : ℕ) → x < k → T (p x)) → T (each_below k p)
all-each zero p f = tt
all-each (suc k) p f = T_and (each_below k p) (p k) (all-each k p (λ x h. f x (omega arith))) (f k (omega arith))

-- where none passes the test, it is not the case that some do
pub none-some : (k : ℕ) (p : ℕ → Bool) → ((x : ℕ) → x < k → T (not (p x))) → T (not (some_below k p))
none-some zero p f = tt
none-some (suc k) p f = not-or (some_below k p) (p k) (none-some k p (λ x h. f x (omega arith))) (f k (omega arith))

-- where it is not the case that some pass the test, none does
pub some-none : (k : ℕ) (p : ℕ → Bool) → T (not (some_below k p)) → (x : ℕ) → x < k → T (not (p x))
some-none zero p t x h = absurd (omega arith)
some-none (suc k) p t x h = let r = or-not (some_below k p) (p k) t in go r.1 (some-none k p r.0 x) (ℕ_discrete x k)
  where
    go : T (not (p k)) → (x < k → T (not (p x))) → Dec (x ≡ k) → T (not (p x))
    go last ih (yes e) = rw e last
    go last ih (no e) = ih (omega arith)

-- the value that was put
pub update_same : {A : Type 0} (v : ℕ → A) (i : ℕ) (a : A) → update v i a i ≡ a
update_same v i a = cond_same i a (v i)

-- the other values stay
pub update_other : {A : Type 0} (v : ℕ → A) (i : ℕ) (a : A) (k : ℕ) → k ≢ i → update v i a k ≡ v k
update_other v i a k h = cond-other k i a (v k) h

-- the count that was raised
pub count_up-same : (i : ℕ) (v : ℕ → ℕ) → count_up i v i ≡ suc (v i)
count_up-same i v = cond_same i (suc (v i)) (v i)

-- the other counts stay
pub count_up-other : (i : ℕ) (v : ℕ → ℕ) (x : ℕ) → x ≢ i → count_up i v x ≡ v x
count_up-other i v x h = cond-other x i (suc (v x)) (v x) h

-- no count goes down
pub count_up-le : (i : ℕ) (v : ℕ → ℕ) (x : ℕ) → v x ≤ count_up i v x
count_up-le i v x = cond_elim (λ (z : ℕ). v x ≤ z) (eqb x i) (suc (v x)) (v x) (λ _. omega arith) (λ _. omega arith)

-- how often node j has answered so, with one more step
pub answers-snoc : (f : Answer → ℕ) (j : ℕ) (l : List Event) (e : Event)
    → answers_at f j (l ++ (e ∷ [])) ≡ answers_at f j l + cond (eqb e.node j) (f e.answer) 0
answers-snoc f j [] e = omega arith
answers-snoc f j (x ∷ l) e = omega (arith, answers-snoc f j l e)

-- one more step of node j
pub answers-here : (f : Answer → ℕ) (j : ℕ) (l : List Event) (e : Event) → e.node ≡ j → answers_at f j (l ++ (e ∷ [])) ≡ answers_at f j l + f e.answer
answers-here f j l e h = omega (arith, answers-snoc f j l e, cond_yes (eqb e.node j) (f e.answer) 0 (eq→eqb e.node j h))

-- one more step of another node
pub answers-other : (f : Answer → ℕ) (j : ℕ) (l : List Event) (e : Event) → e.node ≢ j → answers_at f j (l ++ (e ∷ [])) ≡ answers_at f j l
answers-other f j l e h = omega (arith, answers-snoc f j l e, cond-other e.node j (f e.answer) 0 h)
