-- Messages of which no two agree in from and number: as a test, with one message more, and with one taken out.
use Prim.Native.Nat.{ℕ, zero, suc, ◌<◌}
use mathlib.Core.Bool.{not}
use mathlib.Core.List.{List, [], ◌∷◌, ◌++◌}
use mathlib.Core.Logic.{◌⊎◌, inl, inr, ◌≢◌}
use mathlib.Core.Option.{some}
use mathlib.Core.Path.{◌≡◌, refl, sym, ap, subst, ◌∙◌}
use native.Mathlib.Decide.{ℕ_discrete}
use native.Mathlib.Omega.{arith}
use lib.Dec.{T, T_not, eqb, eqb→eq}
use lib.ListN.{get_elem?}
use Rattle.matrix.specs.Message.{Message, number}
use Rattle.protocol.proofs.Below.{count_up-other, count_up-same}
use Rattle.protocol.proofs.Lists.{Snoc, at_none, at_snoc}
use Rattle.protocol.proofs.Searching.{Removed, skip, skip_inj, skip-ne}
use Rattle.protocol.specs.Deliver.{count_up}
use Rattle.protocol.specs.Offer.{same_origin, some_same_origin}
use Rattle.wire.proofs.Tests.{T_and, and_T, eq→eqb, or-T, or-not}

-- a message of the list that has the from and number of m
pub origin_at : (l : List Message) (m : Message) → T (some_same_origin l m)
    → (h : ℕ) × (a : Message) × (get_elem? l h ≡ some a) × (a.from ≡ m.from) × (number a ≡ number m)
origin_at [] m t = absurd t
origin_at (a ∷ l) m t = go (or-T (same_origin a m) (some_same_origin l m) t) (λ q. origin_at l m q)
  where
    go : T (same_origin a m) ⊎ T (some_same_origin l m)
        → (T (some_same_origin l m) → (h : ℕ) × (b : Message) × (get_elem? l h ≡ some b) × (b.from ≡ m.from) × (number b ≡ number m))
        → (h : ℕ) × (b : Message) × (get_elem? (a ∷ l) h ≡ some b) × (b.from ≡ m.from) × (number b ≡ number m)
    go (inl q) ih =
        let r = and_T (eqb a.from m.from) (eqb (number a) (number m)) q in
        (0, a, refl, eqb→eq a.from m.from r.0, eqb→eq (number a) (number m) r.1)
    go (inr q) ih = let r = ih q in (suc r.0, r.1, r.2, r.3, r.4)

-- where it is not the case that one has, none at any place has
pub other_origin : (l : List Message) (f : Message) → T (not (some_same_origin l f)) → (h : ℕ) (a : Message) → get_elem? l h ≡ some a
    → a.from ≡ f.from → number a ≡ number f → ⊥
other_origin [] f t h a e p q = at_none h a e
other_origin (b ∷ l) f t zero a e p q =
    let z : b ≡ a = cc in
    T_not (same_origin b f) (or-not (same_origin b f) (some_same_origin l f) t).0
    (T_and (eqb b.from f.from) (eqb (number b) (number f)) (eq→eqb b.from f.from (cc)) (eq→eqb (number b) (number f) (ap number z ∙ q)))
other_origin (b ∷ l) f t (suc h) a e p q = other_origin l f (or-not (same_origin b f) (some_same_origin l f) t).1 h a e p q

-- no two messages of the list agree in from and number
abbrev pub Apart : List Message → Type 0
Apart l = (h k : ℕ) (a b : Message) → get_elem? l h ≡ some a → get_elem? l k ≡ some b → a.from ≡ b.from → number a ≡ number b → h ≡ k

-- one message more, with another from or number
pub apart_snoc : (l : List Message) (f : Message) → Apart l → T (not (some_same_origin l f)) → Apart (l ++ (f ∷ []))
apart_snoc l f d free h k a b e e' p n = go (at_snoc l f h a e) (at_snoc l f k b e')
  where
    go : Snoc l f h a → Snoc l f k b → h ≡ k
    go (inl x) (inl y) = d h k a b x y p n
    go (inl x) (inr y) = absurd (other_origin l f free h a x (cc) (n ∙ ap number y.1))
    go (inr x) (inl y) = absurd (other_origin l f free k b y (cc) (sym n ∙ ap number x.1))
    go (inr x) (inr y) = cc

-- the message f at place h is taken out
module _ (s : List Message) (h : ℕ) (f : Message) (others : List Message) (r : Removed s h f others) (d : Apart s) where
  -- what is left was in the list
  pub removed_at : (q : ℕ) (a : Message) → get_elem? others q ≡ some a → get_elem? s (skip h q) ≡ some a
  removed_at q a z = sym (r.rest q) ∙ z

  pub apart_removed : Apart others
  apart_removed q k a b z z' p n = skip_inj h q k (d (skip h q) (skip h k) a b (removed_at q a z) (removed_at k b z') p n)

  -- f was the next of its sender, and v counted none of the list as delivered: with f counted, none of those left is
  pub above_removed : (v : ℕ → ℕ) → number f ≡ suc (v f.from) → ((q : ℕ) (a : Message) → get_elem? s q ≡ some a → v a.from < number a)
      → (q : ℕ) (a : Message) → get_elem? others q ≡ some a → count_up f.from v a.from < number a
  above_removed v next above q a z = go (ℕ_discrete a.from f.from)
    where
      go : Dec (a.from ≡ f.from) → count_up f.from v a.from < number a
      go (no p) = rw (count_up-other f.from v a.from p) (above (skip h q) a (removed_at q a z))
      go (yes p) =
          let old : v f.from < number a = subst (λ (n : ℕ). v n < number a) p (above (skip h q) a (removed_at q a z)) in
          let ne : number a ≢ number f = λ n. skip-ne h q (d (skip h q) h a f (removed_at q a z) r.at p n) in
          subst (λ (n : ℕ). count_up f.from v n < number a) (sym p) (rw (count_up-same f.from v) (omega (arith, next)))
