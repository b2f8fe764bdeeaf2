-- The search through the queue: what it finds, at which place, and what is left of the queue; and what it means that it finds none.
use Prim.Native.Nat.{ℕ, zero, suc}
use mathlib.Core.Bool.{Bool, not}
use mathlib.Core.List.{List, [], ◌∷◌}
use mathlib.Core.Logic.{◌⊎◌, inl, inr, ◌≢◌}
use mathlib.Core.Option.{some}
use mathlib.Core.Path.{◌≡◌, refl, sym, ap, ◌∙◌}
use native.Mathlib.Omega.{arith}
use lib.Dec.{T}
use lib.ListN.{get_elem?, length}
use Rattle.matrix.specs.Message.{Message}
use Rattle.protocol.proofs.Lists.{at_none}
use Rattle.protocol.specs.Deliver.{Search, absent, found, past, search}
use Rattle.wire.proofs.Tests.{decide, cond_yes, cond_no}

-- place q of a list without its place h, in the whole list
abbrev pub skip : ℕ → ℕ → ℕ
skip zero q = suc q
skip (suc h) zero = zero
skip (suc h) (suc q) = suc (skip h q)

-- it is not place h
pub skip-ne : (h q : ℕ) → skip h q ≢ h
skip-ne zero q e = omega arith
skip-ne (suc h) zero e = omega arith
skip-ne (suc h) (suc q) e = skip-ne h q (omega arith)

-- it is another for each place
pub skip_inj : (h p q : ℕ) → skip h p ≡ skip h q → p ≡ q
skip_inj zero p q e = omega arith
skip_inj (suc h) zero zero e = refl
skip_inj (suc h) zero (suc q) e = absurd (omega arith)
skip_inj (suc h) (suc p) zero e = absurd (omega arith)
skip_inj (suc h) (suc p) (suc q) e = ap suc (skip_inj h p q (omega arith))

-- every other place is one of these
pub unskip : (h q : ℕ) → q ≢ h → (p : ℕ) × (skip h p ≡ q)
unskip zero zero ne = absurd (ne refl)
unskip zero (suc q) ne = (q, refl)
unskip (suc h) zero ne = (0, refl)
unskip (suc h) (suc q) ne = let r = unskip h q (λ e. ne (ap suc e)) in (suc r.0, ap suc r.1)

-- the list s with f at place h, and the others
pub record Removed (s : List Message) (h : ℕ) (f : Message) (others : List Message) : Type 0 where
  pub at : get_elem? s h ≡ some f
  pub rest : (q : ℕ) → get_elem? others q ≡ get_elem? s (skip h q)
  pub fewer : length s ≡ suc (length others)

-- what is found passes the test, and its place counts from 1
pub search-found : (p : Message → Bool) (s : List Message) (k : ℕ) (f : Message) (l : List Message) → search p s ≡ found k f l
    → (h : ℕ) × T (p f) × Removed s h f l × (k ≡ suc h)
search-found p [] k f l e = let z : ◌≡◌ {A = ℕ} 0 1 = cc in absurd (omega arith)
search-found p (g ∷ s) k f l e = go (decide (p g)) (search p s) refl (λ k f l e. search-found p s k f l e)
  where
    go : T (p g) ⊎ T (not (p g)) → (r : Search) → search p s ≡ r
        → ((k : ℕ) (f : Message) (l : List Message) → search p s ≡ found k f l → (h : ℕ) × T (p f) × Removed s h f l × (k ≡ suc h))
        → (h : ℕ) × T (p f) × Removed (g ∷ s) h f l × (k ≡ suc h)
    go (inl t) r q ih =
        let e' : found 1 g s ≡ found k f l = sym (cond_yes (p g) (found 1 g s) (past g (search p s)) t) ∙ e in
        let a : g ≡ f = cc in
        let b : s ≡ l = cc in
        let c : 1 ≡ k = cc in
        (0, rw a at t, record { at = ap (λ (z : Message). some z) a; rest = λ q. rw b; fewer = rw b }, sym c)
    go (inr t) absent q ih =
        let e' : past g (search p s) ≡ found k f l = sym (cond_no (p g) (found 1 g s) (past g (search p s)) t) ∙ e in
        let z : ◌≡◌ {A = ℕ} 0 1 = cc in absurd (omega arith)
    go (inr t) (found k₁ f₁ l₁) q ih =
        let e' : past g (search p s) ≡ found k f l = sym (cond_no (p g) (found 1 g s) (past g (search p s)) t) ∙ e in
        let e'' : found (suc k₁) f₁ (g ∷ l₁) ≡ found k f l = ap (past g) (sym q) ∙ e' in
        let a : f₁ ≡ f = cc in
        let b : g ∷ l₁ ≡ l = cc in
        let c : suc k₁ ≡ k = cc in
        let r = ih k₁ f₁ l₁ q in (
          suc r.0,
          rw a at r.1,
          record {
            at = r.2.at ∙ ap (λ (z : Message). some z) a;
            rest = λ n. rest n r.0 l₁ r.2.rest b;
            fewer = ap suc r.2.fewer ∙ ap (λ (z : List Message). suc (length z)) b;
          },
          sym c ∙ ap suc r.3,
        )
      where
        rest : (n h : ℕ) (l₁ : List Message) → ((n : ℕ) → get_elem? l₁ n ≡ get_elem? s (skip h n)) → g ∷ l₁ ≡ l → get_elem? l n ≡ get_elem? (g ∷ s) (skip (suc h) n)
        rest zero h l₁ ih b = ap (λ (z : List Message). get_elem? z 0) (sym b)
        rest (suc n) h l₁ ih b = ap (λ (z : List Message). get_elem? z (suc n)) (sym b) ∙ ih n

-- where none is found, none passes the test
pub search-absent : (p : Message → Bool) (s : List Message) → search p s ≡ absent → (h : ℕ) (f : Message) → get_elem? s h ≡ some f → T (not (p f))
search-absent p [] e h f a = absurd (at_none h f a)
search-absent p (g ∷ s) e h f a = go h a (decide (p g)) (search p s) refl (λ q h f a. search-absent p s q h f a)
  where
    go : (h : ℕ) → get_elem? (g ∷ s) h ≡ some f → T (p g) ⊎ T (not (p g)) → (r : Search) → search p s ≡ r
        → (search p s ≡ absent → (h : ℕ) (f : Message) → get_elem? s h ≡ some f → T (not (p f))) → T (not (p f))
    go h a (inl t) r q ih =
        let e' : found 1 g s ≡ absent = sym (cond_yes (p g) (found 1 g s) (past g (search p s)) t) ∙ e in
        let z : ◌≡◌ {A = ℕ} 0 1 = cc in absurd (omega arith)
    go zero a (inr t) absent q ih = let z : g ≡ f = cc in rw z at t
    go (suc h) a (inr t) absent q ih = ih q h f a
    go h a (inr t) (found k₁ f₁ l₁) q ih =
        let e' : past g (search p s) ≡ absent = sym (cond_no (p g) (found 1 g s) (past g (search p s)) t) ∙ e in
        let e'' : found (suc k₁) f₁ (g ∷ l₁) ≡ absent = ap (past g) (sym q) ∙ e' in
        let z : ◌≡◌ {A = ℕ} 0 1 = cc in absurd (omega arith)
