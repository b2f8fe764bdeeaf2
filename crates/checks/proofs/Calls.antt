-- A call by its checks: what it gives where one is met, and where none is. Assumes nothing.
use Prim.Native.Nat.{ℕ}
use mathlib.Core.Bool.{Bool, true, false}
use mathlib.Core.List.{List, [], ◌∷◌}
use mathlib.Core.Path.{◌≡◌, refl, ap, subst, ◌∙◌}
use native.Mathlib.Decide.{ℕ_discrete}
use Rattle.checks.proofs.First.{Passed, Positive, first-given, here, passed, past}
use Rattle.checks.specs.Checks.{Check, First, checked, first_met}

-- a call whose first met check has number k, and one that meets none
pub refused : {C : Type 0} (l : List Check) (f : ℕ → C) (a : C) (k : ℕ) → k ≡ first_met l → (k ≡ 0 → ⊥) → f k ≡ checked l f a
refused [] f a k e h = absurd (h e)
refused {C} (c ∷ l) f a k e h = go c.met refl (refused l f a k)
  where
    go : (b : Bool) → c.met ≡ b → (k ≡ first_met l → (k ≡ 0 → ⊥) → f k ≡ checked l f a) → f k ≡ checked (c ∷ l) f a
    go true p g = rw p (ap f (e ∙ here c l p))
    go false p g = rw p (g (e ∙ past c l p) h)

pub accepted : {C : Type 0} (l : List Check) (f : ℕ → C) (a : C) → Passed l → a ≡ checked l f a
accepted [] f a p = refl
accepted (c ∷ l) f a p = rw p.0 (accepted l f a p.1)

-- what holds of every refusal, and of what the call does where no check is met, holds of the call
pub cases : {C : Type 0} (P : C → Type 0) (l : List Check) (f : ℕ → C) (a : C) → Positive l → ((k : ℕ) → First l k → P (f k)) → (Passed l → P a) → P (checked l f a)
cases P l f a h refuses goes = go (ℕ_discrete (first_met l) 0)
  where
    go : Dec (first_met l ≡ 0) → P (checked l f a)
    go (yes z) = subst P (accepted l f a (passed l h z)) (goes (passed l h z))
    go (no z) = subst P (refused l f a (first_met l) refl z) (refuses (first_met l) (first-given l (first_met l) z refl))
