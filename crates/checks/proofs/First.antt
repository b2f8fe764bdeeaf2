-- The first check of a list that is met, both ways. Assumes nothing.
use Prim.Native.Nat.{ℕ, ◌<◌}
use mathlib.Core.Bool.{Bool, true, false}
use mathlib.Core.List.{List, [], ◌∷◌, ◌++◌}
use mathlib.Core.Logic.{inl, inr}
use mathlib.Core.Path.{◌≡◌, refl, sym, ◌∙◌}
use native.Mathlib.Omega.{arith}
use Rattle.wire.proofs.Tests.{not-both}
use Rattle.checks.specs.Checks.{Check, First, Met, NoneMet, Numbered, Rising, first_met}

-- no number of the list is 0
abbrev pub Positive : List Check → Type 0
Positive [] = Unit {0}
Positive (c ∷ l) = (0 < c.number) × Positive l

-- no check of the list is met, one by one
abbrev pub Passed : List Check → Type 0
Passed [] = Unit {0}
Passed (c ∷ l) = (c.met ≡ false) × Passed l

-- the first check of the list is met, or it is not
module _ (c : Check) (l : List Check) where
  pub here : c.met ≡ true → first_met (c ∷ l) ≡ c.number
  here p = rw p

  pub past : c.met ≡ false → first_met (c ∷ l) ≡ first_met l
  past p = rw p

  none-later : c.met ≡ false → NoneMet l → NoneMet (c ∷ l)
  none-later p f k (inl m) = not-both c.met m.1 p
  none-later p f k (inr m) = f k m

-- the first that is met has a number of the list
pub first-positive : (l : List Check) → Positive l → (k : ℕ) → First l k → 0 < k
first-positive [] a k f = absurd f
first-positive (c ∷ l) a k (inl m) = omega (arith, a.0, m.0)
first-positive (c ∷ l) a k (inr m) = first-positive l a.1 k m.1

-- a number of the first met check that is not 0 is that of the first that is met
pub first-given : (l : List Check) (k : ℕ) → ¬ (k ≡ 0) → first_met l ≡ k → First l k
first-given [] k h e = absurd (h (sym e))
first-given (c ∷ l) k h e = go c.met refl (first-given l k h)
  where
    go : (b : Bool) → c.met ≡ b → (first_met l ≡ k → First l k) → First (c ∷ l) k
    go true p f = inl (sym (here c l p) ∙ e, p)
    go false p f = inr (p, f (sym (past c l p) ∙ e))

-- and the other way
pub first_gives : (l : List Check) (k : ℕ) → First l k → first_met l ≡ k
first_gives [] k f = absurd f
first_gives (c ∷ l) k (inl m) = here c l m.1 ∙ m.0
first_gives (c ∷ l) k (inr m) = past c l m.0 ∙ first_gives l k m.1

-- 0 says that none is met
pub passed : (l : List Check) → Positive l → first_met l ≡ 0 → Passed l
passed [] a e = tt
passed (c ∷ l) a e = go c.met refl (passed l a.1)
  where
    go : (b : Bool) → c.met ≡ b → (first_met l ≡ 0 → Passed l) → Passed (c ∷ l)
    go true p g = absurd (omega (arith, a.0, sym (here c l p) ∙ e))
    go false p g = (p, g (sym (past c l p) ∙ e))

pub none-met : (l : List Check) → Passed l → first_met l ≡ 0
none-met [] p = refl
none-met (c ∷ l) p = past c l p.0 ∙ none-met l p.1

none-given : (l : List Check) → Passed l → NoneMet l
none-given [] p = λ k m. m
none-given (c ∷ l) p = none-later c l p.0 (none-given l p.1)

none-gives : (l : List Check) → NoneMet l → first_met l ≡ 0
none-gives [] f = refl
none-gives (c ∷ l) f = go c.met refl (none-gives l)
  where
    go : (b : Bool) → c.met ≡ b → (NoneMet l → first_met l ≡ 0) → first_met (c ∷ l) ≡ 0
    go true p g = absurd (f c.number (inl (refl, p)))
    go false p g = past c l p ∙ g (λ k m. f k (inr m))

-- of a list whose numbers rise, no check has a number below the first one's
rising-above : (c : Check) (l : List Check) → Rising (c ∷ l) → (j : ℕ) → Met l j → c.number < j
rising-above c [] r j m = absurd m
rising-above c (d ∷ l) r j (inl m) = omega (arith, r.0, m.0)
rising-above c (d ∷ l) r j (inr m) = omega (arith, r.0, rising-above d l r.1 j m)

-- so the first that is met has the lowest number
pub first-lowest : (l : List Check) (k : ℕ) → Rising l → First l k → (j : ℕ) → j < k → ¬ Met l j
first-lowest [] k r f j h m = m
first-lowest (c ∷ l) k r (inl f) j h (inl m) = absurd (omega (arith, f.0, m.0))
first-lowest (c ∷ l) k r (inl f) j h (inr m) = absurd (omega (arith, f.0, rising-above c l r j m))
first-lowest (c ∷ l) k r (inr f) j h (inl m) = not-both c.met m.1 f.0
first-lowest (c ∷ []) k r (inr f) j h (inr m) = m
first-lowest (c ∷ d ∷ l) k r (inr f) j h (inr m) = first-lowest (d ∷ l) k r.1 f.1 j h m

-- the number of the first check that is met says what it should
pub by_number : (l : List Check) (status : ℕ) → Positive l → status ≡ first_met l → Numbered l status
by_number l status a e =
    record {
      first = e;
      given = λ k h p. first-given l k h (sym e ∙ p);
      gives = λ k f. e ∙ first_gives l k f;
      accepted = λ p. none-given l (passed l a (sym e ∙ p));
      accepts = λ f. e ∙ none-gives l f;
    }

-- ---- checks in front of others

-- one that is met in front is given whatever comes behind
pub first-front : (l m : List Check) (k : ℕ) → k ≡ first_met l → (k ≡ 0 → ⊥) → k ≡ first_met (l ++ m)
first-front [] m k e h = absurd (h e)
first-front (c ∷ l) m k e h = go c.met refl (first-front l m k)
  where
    go : (b : Bool) → c.met ≡ b → (k ≡ first_met l → (k ≡ 0 → ⊥) → k ≡ first_met (l ++ m)) → k ≡ first_met (c ∷ (l ++ m))
    go true p f = e ∙ here c l p ∙ sym (here c (l ++ m) p)
    go false p f = f (e ∙ past c l p) h ∙ sym (past c (l ++ m) p)

-- where none in front is met, what is behind decides
pub first-behind : (l m : List Check) → Passed l → first_met (l ++ m) ≡ first_met m
first-behind [] m p = refl
first-behind (c ∷ l) m p = past c (l ++ m) p.0 ∙ first-behind l m p.1
