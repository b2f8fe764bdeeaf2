-- A call's checks, one line for each: the first that is met is given, and where none is met the call does what it is for.
use Rattle.std.specs.Prelude.{ℕ, ◌<◌, Bool, true, false, cond, List, [], ◌∷◌, map, ◌⊎◌, ◌≡◌}

-- a check: its number in the papers, and whether it is met
pub record Check : Type 0 where
  pub number : ℕ
  pub met : Bool

abbrev pub check : ℕ → Bool → Check
check k b = record { number = k; met = b }

-- the numbers of a list of checks
abbrev pub numbers : List Check → List ℕ
numbers l = map (λ (c : Check). c.number) l

-- a call by its checks: refused with the number of the first that is met, and where none is, what it does
abbrev pub checked : {C : Type 0} → List Check → (refuse : ℕ → C) → (does : C) → C
checked [] refuse does = does
checked (c ∷ l) refuse does = cond c.met (refuse c.number) (checked l refuse does)

-- the number of the first check of a list that is met, and 0 where none is
abbrev pub first_met : List Check → ℕ
first_met l = checked l (λ k. k) 0

-- the check with number k stands in the list and is met
abbrev pub Met : List Check → ℕ → Type 0
Met [] k = ⊥
Met (c ∷ l) k = ((c.number ≡ k) × (c.met ≡ true)) ⊎ Met l k

-- none of the list is met
abbrev pub NoneMet : List Check → Type 0
NoneMet l = (k : ℕ) → ¬ Met l k

-- the first check of the list that is met has number k: it is met, and none that stands in front of it is
abbrev pub First : List Check → ℕ → Type 0
First [] k = ⊥
First (c ∷ l) k = ((c.number ≡ k) × (c.met ≡ true)) ⊎ ((c.met ≡ false) × First l k)

-- the numbers of the list rise
abbrev pub Rising : List Check → Type 0
Rising [] = Unit {0}
Rising (c ∷ []) = Unit {0}
Rising (c ∷ d ∷ l) = (c.number < d.number) × Rising (d ∷ l)

-- what a number says, for a list of checks: 0 exactly where none is met, and else the first that is met
pub record Numbered (l : List Check) (status : ℕ) : Type 0 where
  pub first : status ≡ first_met l
  pub given : (k : ℕ) → ¬ (k ≡ 0) → status ≡ k → First l k
  pub gives : (k : ℕ) → First l k → status ≡ k
  pub accepted : status ≡ 0 → NoneMet l
  pub accepts : NoneMet l → status ≡ 0

-- what an answer says: so much by its number, and it is a refusal exactly where a check is met
pub record Answers {A : Type 0} (refused : ℕ → A) (number : A → ℕ) (l : List Check) (answer : A) : Type 0 where
  pub numbered : Numbered l (number answer)
  pub refusal : (k : ℕ) → answer ≡ refused k → First l k
  pub refuses : (k : ℕ) → First l k → answer ≡ refused k
