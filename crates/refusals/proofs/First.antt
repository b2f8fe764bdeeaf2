-- The first check of a list that is met, both ways. Assumes nothing.
use Prim.Native.Nat.{ℕ, ◌<◌}
use mathlib.Core.Bool.{Bool, true, false, cond, not}
use mathlib.Core.List.{List, [], ◌∷◌}
use mathlib.Core.Logic.{inl, inr}
use mathlib.Core.Path.{◌≡◌, refl, sym, ap, ◌∙◌}
use native.Mathlib.Omega.{arith}
use native.Mathlib.Decide.{ℕ_discrete}
use borrow.Author.Tests.{ne_eqb}
use lib.Dec.{eqb}
use Rattle.wire.proofs.Tests.{not-both}
use Rattle.refusals.specs.Checks.{Answers, Check, First, Met, NoneMet, Numbered, Rising, first_met}

-- no number of the list is 0
abbrev pub Positive : List Check → Type 0
Positive [] = Unit {0}
Positive (c ∷ l) = (0 < c.number) × Positive l

-- a test and its opposite
pub turned : {A : Type 0} (b : Bool) (x y : A) → cond b x y ≡ cond (not b) y x
turned true x y = refl
turned false x y = refl

-- the first check of the list is met, or it is not
module _ (c : Check) (l : List Check) where
  here : c.met ≡ true → first_met (c ∷ l) ≡ c.number
  here p = rw p

  past : c.met ≡ false → first_met (c ∷ l) ≡ first_met l
  past p = rw p

  none-later : c.met ≡ false → NoneMet l → NoneMet (c ∷ l)
  none-later p f k (inl m) = not-both c.met m.1 p
  none-later p f k (inr m) = f k m

-- the first that is met has a number of the list
first-positive : (l : List Check) → Positive l → (k : ℕ) → First l k → 0 < k
first-positive [] a k f = absurd f
first-positive (c ∷ l) a k (inl m) = omega (arith, a.0, m.0)
first-positive (c ∷ l) a k (inr m) = first-positive l a.1 k m.1

-- a number of the first met check that is not 0 is that of the first that is met
first-given : (l : List Check) (k : ℕ) → ¬ (k ≡ 0) → first_met l ≡ k → First l k
first-given [] k h e = absurd (h (sym e))
first-given (c ∷ l) k h e = go c.met refl (first-given l k h)
  where
    go : (b : Bool) → c.met ≡ b → (first_met l ≡ k → First l k) → First (c ∷ l) k
    go true p f = inl (sym (here c l p) ∙ e, p)
    go false p f = inr (p, f (sym (past c l p) ∙ e))

-- and the other way
first_gives : (l : List Check) (k : ℕ) → First l k → first_met l ≡ k
first_gives [] k f = absurd f
first_gives (c ∷ l) k (inl m) = here c l m.1 ∙ m.0
first_gives (c ∷ l) k (inr m) = past c l m.0 ∙ first_gives l k m.1

-- 0 says that none is met
none-given : (l : List Check) → Positive l → first_met l ≡ 0 → NoneMet l
none-given [] a e = λ k m. m
none-given (c ∷ l) a e = go c.met refl (none-given l a.1)
  where
    go : (b : Bool) → c.met ≡ b → (first_met l ≡ 0 → NoneMet l) → NoneMet (c ∷ l)
    go true p g = absurd (omega (arith, a.0, sym (here c l p) ∙ e))
    go false p g = none-later c l p (g (sym (past c l p) ∙ e))

none-gives : (l : List Check) → NoneMet l → first_met l ≡ 0
none-gives [] f = refl
none-gives (c ∷ l) f = go c.met refl (none-gives l)
  where
    go : (b : Bool) → c.met ≡ b → (NoneMet l → first_met l ≡ 0) → first_met (c ∷ l) ≡ 0
    go true p g = absurd (f c.number (inl (refl, p)))
    go false p g = past c l p ∙ g (λ k m. f k (inr m))

-- of a list whose numbers rise, no check has a number below the first one's
rising-above : (c : Check) (l : List Check) → Rising (c ∷ l) → (j : ℕ) → Met l j → c.number < j
rising-above c [] r j m = absurd m
rising-above c (d ∷ l) r j (inl m) = omega (arith, r.0, m.0)
rising-above c (d ∷ l) r j (inr m) = omega (arith, r.0, rising-above d l r.1 j m)

-- so the first that is met has the lowest number
pub first-lowest : (l : List Check) (k : ℕ) → Rising l → First l k → (j : ℕ) → j < k → ¬ Met l j
first-lowest [] k r f j h m = m
first-lowest (c ∷ l) k r (inl f) j h (inl m) = absurd (omega (arith, f.0, m.0))
first-lowest (c ∷ l) k r (inl f) j h (inr m) = absurd (omega (arith, f.0, rising-above c l r j m))
first-lowest (c ∷ l) k r (inr f) j h (inl m) = not-both c.met m.1 f.0
first-lowest (c ∷ []) k r (inr f) j h (inr m) = m
first-lowest (c ∷ d ∷ l) k r (inr f) j h (inr m) = first-lowest (d ∷ l) k r.1 f.1 j h m

-- the number of the first check that is met says what it should
pub by_number : (l : List Check) (status : ℕ) → Positive l → status ≡ first_met l → Numbered l status
by_number l status a e =
    record {
      first = e;
      given = λ k h p. first-given l k h (sym e ∙ p);
      gives = λ k f. e ∙ first_gives l k f;
      accepted = λ p. none-given l a (sym e ∙ p);
      accepts = λ f. e ∙ none-gives l f;
    }

-- an answer that is the refusal of the first met check, or where none is met is no refusal, says what it should
pub by_first : {A : Type 0} (refused : ℕ → A) (number : A → ℕ) (l : List Check) (accepted answer : A) → Positive l
    → answer ≡ cond (eqb (first_met l) 0) accepted (refused (first_met l))
    → ((k : ℕ) → number (refused k) ≡ k) → number accepted ≡ 0 → ((k : ℕ) → ¬ (accepted ≡ refused k)) → Answers refused number l answer
by_first {A} refused number l accepted answer a e n z d =
    record {
      numbered = by_number l (number answer) a first;
      refusal = refusal;
      refuses = λ k f. refuses k f (first_gives l k f);
    }
  where
    taken : first_met l ≡ 0 → answer ≡ accepted
    taken p = e ∙ rw p

    given-up : ¬ (first_met l ≡ 0) → answer ≡ refused (first_met l)
    given-up h = e ∙ rw (ne_eqb (first_met l) 0 h)

    either : Dec (first_met l ≡ 0) → number answer ≡ first_met l
    either (yes p) = ap number (taken p) ∙ z ∙ sym p
    either (no h) = ap number (given-up h) ∙ n (first_met l)

    first : number answer ≡ first_met l
    first = either (ℕ_discrete (first_met l) 0)

    refusal : (k : ℕ) → answer ≡ refused k → First l k
    refusal k p = go (ℕ_discrete (first_met l) 0)
      where
        same : first_met l ≡ k
        same = sym first ∙ ap number p ∙ n k

        go : Dec (first_met l ≡ 0) → First l k
        go (yes q) = absurd (d k (sym (taken q) ∙ p))
        go (no h) = first-given l k (λ q. h (same ∙ q)) same

    refuses : (k : ℕ) → First l k → first_met l ≡ k → answer ≡ refused k
    refuses k f p = given-up (λ q. absurd (omega (arith, first-positive l a k f, p, q))) ∙ ap refused p
