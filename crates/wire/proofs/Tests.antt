-- Tests: what a Boolean test tells, as the type `T b` of its proofs, choices by a test, and the results of tests that functions made. Assumes nothing.
use Rattle.std.proofs.Common.{◌≡◌, ℕ, suc, ◌<◌, ◌≤◌, Bool, true, false, cond, not, ◌&&◌, ◌||◌, T, eqb, ltb, leb, ◌≢◌, ◌⊎◌, sym, refl, ◌∙◌, subst, inl, inr, arith, eqb→eq, leb→le, T_not}
use borrow.Author.Tests.{not-false, not-true}
use lib.Dec.{eqb_refl, not_T}

pub is_true : (b : Bool) → T b → b ≡ true
is_true true t = refl
is_true false t = absurd t

pub is_false : (b : Bool) → T (not b) → b ≡ false
is_false true t = absurd t
is_false false t = refl

pub of_true : (b : Bool) → b ≡ true → T b
of_true b e = rw e tt

pub of_false : (b : Bool) → b ≡ false → T (not b)
of_false b e = rw e tt

-- a test is not both
pub not-both : (b : Bool) → b ≡ true → b ≡ false → ⊥
not-both b t f = subst T (sym t ∙ f) tt

pub not-not : (b : Bool) → T (not (not b)) → T b
not-not true t = tt
not-not false t = absurd t

pub decide : (b : Bool) → T b ⊎ T (not b)
decide true = inl tt
decide false = inr tt

pub cond_elim : {A : Type 0} (P : A → Type 0) (b : Bool) (x y : A) → (T b → P x) → (T (not b) → P y) → P (cond b x y)
cond_elim P true x y f g = f tt
cond_elim P false x y f g = g tt

pub cond_yes : {A : Type 0} (b : Bool) (x y : A) → T b → cond b x y ≡ x
cond_yes true x y t = refl
cond_yes false x y t = absurd t

pub cond_no : {A : Type 0} (b : Bool) (x y : A) → T (not b) → cond b x y ≡ y
cond_no true x y t = absurd t
cond_no false x y t = refl

pub neqb→ne : (m n : ℕ) → T (not (eqb m n)) → m ≢ n
neqb→ne m n t e = T_not (eqb m n) t (subst (λ (k : ℕ). T (eqb m k)) e (eqb_refl m))

pub ne→neqb : (m n : ℕ) → m ≢ n → T (not (eqb m n))
ne→neqb m n h = not_T (eqb m n) (λ t. h (eqb→eq m n t))

pub eq→eqb : (m n : ℕ) → m ≡ n → T (eqb m n)
eq→eqb m n h = subst (λ (k : ℕ). T (eqb m k)) h (eqb_refl m)

pub lt→nleb : (m n : ℕ) → n < m → T (not (leb m n))
lt→nleb m n h = not_T (leb m n) (λ t. omega (arith, leb→le m n t))

pub le→nltb : (m n : ℕ) → n ≤ m → T (not (ltb m n))
le→nltb m n h = lt→nleb (suc m) n (omega arith)

pub cond_same : {A : Type 0} (i : ℕ) (x y : A) → cond (eqb i i) x y ≡ x
cond_same i x y = cond_yes (eqb i i) x y (eqb_refl i)

pub cond-other : {A : Type 0} (k i : ℕ) (x y : A) → k ≢ i → cond (eqb k i) x y ≡ y
cond-other k i x y h = cond_no (eqb k i) x y (ne→neqb k i h)

pub and_T : (a b : Bool) → T (a && b) → T a × T b
and_T true b t = (tt, t)
and_T false b t = absurd t

pub T_and : (a b : Bool) → T a → T b → T (a && b)
T_and true b s t = t
T_and false b s t = absurd s

pub or-T : (a b : Bool) → T (a || b) → T a ⊎ T b
or-T true b t = inl tt
or-T false b t = inr t

-- and back
pub either_T : (a b : Bool) → T a ⊎ T b → T (a || b)
either_T true b t = tt
either_T false b (inl t) = absurd t
either_T false b (inr t) = t

pub or-not : (a b : Bool) → T (not (a || b)) → T (not a) × T (not b)
or-not true b t = absurd t
or-not false b t = (tt, t)

pub not-or : (a b : Bool) → T (not a) → T (not b) → T (not (a || b))
not-or true b s t = absurd s
not-or false b s t = t

-- the same as equations: neither of two tests is met, or a test's first part is, or its second
pub neither : (a b : Bool) → (a || b) ≡ false → (a ≡ false) × (b ≡ false)
neither a b e = let p = or-not a b (of_false (a || b) e) in (is_false a p.0, is_false b p.1)

pub either_first : (a b : Bool) → a ≡ true → (a || b) ≡ true
either_first a b p = is_true (a || b) (either_T a b (inl (of_true a p)))

pub either_second : (a b : Bool) → b ≡ true → (a || b) ≡ true
either_second a b p = is_true (a || b) (either_T a b (inr (of_true b p)))

-- several tests at once
pub all_seven : (a b c d e f g : Bool) → T (a && b && c && d && e && f && g) → T a × T b × T c × T d × T e × T f × T g
all_seven true true true true true true g t = (tt, tt, tt, tt, tt, tt, t)
all_seven true true true true true false g t = absurd t
all_seven true true true true false f g t = absurd t
all_seven true true true false e f g t = absurd t
all_seven true true false d e f g t = absurd t
all_seven true false c d e f g t = absurd t
all_seven false b c d e f g t = absurd t

pub no_three : (a b c : Bool) → T (not (a || b || c)) → T (not a) × T (not b) × T (not c)
no_three a b c t = let p = or-not (a || b) c t in let q = or-not a b p.0 in (q.0, q.1, p.1)

pub no_four : (a b c d : Bool) → T (not (a || b || c || d)) → T (not a) × T (not b) × T (not c) × T (not d)
no_four a b c d t = let p = or-not (a || b || c) d t in let q = no_three a b c p.0 in (q.0, q.1, q.2, p.1)

-- a test under a condition
pub if_then : (a b : Bool) → T (not a || b) → T a → T b
if_then true b t s = t
if_then false b t s = absurd s

pub then_if : (a b : Bool) → (T a → T b) → T (not a || b)
then_if true b f = f tt
then_if false b f = tt

pub if-not : (a b : Bool) → T (not (a && not b)) → T a → T b
if-not true b t s = not-not b t
if-not false b t s = absurd s

pub not-if : (a b : Bool) → (T a → T b) → T (not (a && not b))
not-if true true f = tt
not-if true false f = absurd (f tt)
not-if false b f = tt

-- a choice that is not the number v was not made
pub skipped : (b : Bool) (v x : ℕ) → (v ≡ 0 → ⊥) → cond b v x ≡ 0 → T (not b) × (x ≡ 0)
skipped true v x h e = absurd (h e)
skipped false v x h e = (tt, e)

-- a test that holds, denied twice
pub T_not-not : (b : Bool) → T b → T (not (not b))
T_not-not true t = tt
T_not-not false t = absurd t

-- two tests that follow from each other are equal, and so are two whose denials do
pub same_test : (a b : Bool) → (T a → T b) → (T b → T a) → a ≡ b
same_test true true f g = refl
same_test true false f g = absurd (f tt)
same_test false true f g = absurd (g tt)
same_test false false f g = refl

pub same_not : (a b : Bool) → (T (not a) → T (not b)) → (T (not b) → T (not a)) → a ≡ b
same_not true true f g = refl
same_not true false f g = absurd (g tt)
same_not false true f g = absurd (f tt)
same_not false false f g = refl

-- a test that a function made, its result r, is the test t, and a branch on `!r` was taken, or left
pub denied : (r t : Bool) → r ≡ t → not r ≡ true → t ≡ false
denied r t e h = sym e ∙ not-true r h

pub passed : (r t : Bool) → r ≡ t → not r ≡ false → t ≡ true
passed r t e h = sym e ∙ not-false r h
