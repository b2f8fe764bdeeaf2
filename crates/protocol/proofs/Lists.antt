-- Lists by place, `get_elem? l p ≡ some a`: what appending and mapping do to it.
use Prim.Native.Nat.{ℕ, zero, suc, ◌<◌}
use mathlib.Core.List.{List, [], ◌∷◌, ◌++◌, map}
use mathlib.Core.Logic.{◌⊎◌, inl, inr}
use mathlib.Core.Option.{none, some}
use mathlib.Core.Path.{◌≡◌, refl, ap}
use native.Mathlib.Omega.{arith}
use lib.ListN.{get_elem?, length}

module _ {A : Type 0} where
  -- the empty list has no place
  pub at_none : (p : ℕ) (a : A) → get_elem? [] p ≡ some a → ⊥
  at_none p a e = let z : ◌≡◌ {A = ℕ} 0 1 = cc in omega arith

  -- a place that answers is in bounds
  pub at_bound : (l : List A) (p : ℕ) (a : A) → get_elem? l p ≡ some a → p < length l
  at_bound [] p a e = absurd (at_none p a e)
  at_bound (x ∷ l) zero a e = omega arith
  at_bound (x ∷ l) (suc p) a e = omega (arith, at_bound l p a e)

  -- an append keeps every place
  pub at_left : (l r : List A) (p : ℕ) (a : A) → get_elem? l p ≡ some a → get_elem? (l ++ r) p ≡ some a
  at_left [] r p a e = absurd (at_none p a e)
  at_left (x ∷ l) r zero a e = e
  at_left (x ∷ l) r (suc p) a e = at_left l r p a e

  -- the place of one more element
  pub at_last : (l : List A) (a : A) → get_elem? (l ++ (a ∷ [])) (length l) ≡ some a
  at_last [] a = refl
  at_last (x ∷ l) a = at_last l a

  -- a place of the list l with b at its end: an old place, or the new one
  abbrev pub Snoc : List A → A → ℕ → A → Type 0
  Snoc l b p a = (get_elem? l p ≡ some a) ⊎ ((p ≡ length l) × (a ≡ b))

  -- every place is of one of these kinds
  pub at_snoc : (l : List A) (b : A) (p : ℕ) (a : A) → get_elem? (l ++ (b ∷ [])) p ≡ some a → Snoc l b p a
  at_snoc [] b zero a e = inr (refl, cc)
  at_snoc [] b (suc p) a e = absurd (at_none p a e)
  at_snoc (x ∷ l) b zero a e = inl e
  at_snoc (x ∷ l) b (suc p) a e = elim (at_snoc l b p a e) [ inl h ↦ inl h | inr h ↦ inr (ap suc h.0, h.1) ]

  -- what holds of each element, and of one more
  pub each_snoc : (P : A → Type 0) (l : List A) (b : A) → ((p : ℕ) (a : A) → get_elem? l p ≡ some a → P a) → P b → (p : ℕ) (a : A)
      → get_elem? (l ++ (b ∷ [])) p ≡ some a → P a
  each_snoc P l b f h p a e = go (at_snoc l b p a e)
    where
      go : Snoc l b p a → P a
      go (inl z) = f p a z
      go (inr z) = rw z.1 h

  -- with more elements: an old place, or one of the new list
  pub at_append : (l r : List A) (p : ℕ) (a : A) → get_elem? (l ++ r) p ≡ some a → (get_elem? l p ≡ some a) ⊎ ((q : ℕ) × (get_elem? r q ≡ some a))
  at_append [] r p a e = inr (p, e)
  at_append (x ∷ l) r zero a e = inl e
  at_append (x ∷ l) r (suc p) a e = at_append l r p a e

  -- one more element
  pub length-snoc : (l : List A) (b : A) → length (l ++ (b ∷ [])) ≡ suc (length l)
  length-snoc [] b = refl
  length-snoc (x ∷ l) b = ap suc (length-snoc l b)

-- a place of a mapped list
pub map_at : {A B : Type 0} (f : A → B) (l : List A) (p : ℕ) (b : B) → get_elem? (map f l) p ≡ some b → (a : A) × (get_elem? l p ≡ some a) × (f a ≡ b)
map_at f [] p b e = absurd (at_none p b e)
map_at f (x ∷ l) zero b e = (x, refl, cc)
map_at f (x ∷ l) (suc p) b e = map_at f l p b e

-- and the other way: an element and its place, or no element
pub at_map : {A B : Type 0} (f : A → B) (l : List A) (p : ℕ) (a : A) → get_elem? l p ≡ some a → get_elem? (map f l) p ≡ some (f a)
at_map f [] p a e = absurd (at_none p a e)
at_map f (x ∷ l) zero a e = let z : x ≡ a = cc in ap (λ (y : _). some (f y)) z
at_map f (x ∷ l) (suc p) a e = at_map f l p a e

pub none-map : {A B : Type 0} (f : A → B) (l : List A) (p : ℕ) → get_elem? l p ≡ none → get_elem? (map f l) p ≡ none
none-map f [] p e = refl
none-map f (x ∷ l) zero e = let z : ◌≡◌ {A = ℕ} 0 1 = cc in absurd (omega arith)
none-map f (x ∷ l) (suc p) e = none-map f l p e
