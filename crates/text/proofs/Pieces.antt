-- Laws of pieces: the bytes before the first c, and the pieces of a text at a place that a search found. Assumes nothing.
use Prim.Native.Nat.{◌+◌, ◌-◌, ◌<◌, ◌≤◌, suc, ℕ}
use Rattle.std.specs.Prelude.{None, Some, position}
use Rattle.std.specs.List.{position_or_len}
use Rattle.std.proofs.lemmas.List.Recursion.{is_position_or_len}
use mathlib.Core.List.{List, [], ◌∷◌}
use mathlib.Core.Path.{◌∙◌, ◌≡◌, refl, sym}
use native.Mathlib.Omega.{arith}
use native.Mathlib.Decide.{dec_lt, ℕ_discrete}
use borrow.Author.Tests.{le-ltb, lt-ltb}
use mathlib.Core.Bool.{cond}
use lib.Dec.{eqb, ltb}
use lib.ListN.{drop, length, length-drop, take}
use lib.Seq.{drop-drop, take_all}
use Rattle.wire.proofs.Tests.{cond_elim, cond_no, cond_yes, eq→eqb, ne→neqb}
use Rattle.text.specs.Pieces.{grown, split}
use Rattle.text.specs.Before.{before}

-- a text with no byte, one that starts with c, and one that starts with another byte
pub before-nil : (c : ℕ) → before c [] ≡ 0
unfolding before
before-nil c = refl

pub before_here : (c b : ℕ) (s : List ℕ) → b ≡ c → before c (b ∷ s) ≡ 0
unfolding before
before_here c b s e = cond_yes (eqb b c) 0 (suc (before c s)) (eq→eqb b c e)

pub before-later : (c b : ℕ) (s : List ℕ) → (b ≡ c → ⊥) → before c (b ∷ s) ≡ suc (before c s)
unfolding before
before-later c b s e = cond_no (eqb b c) 0 (suc (before c s)) (ne→neqb b c e)

-- they are those before the first place at which c stands
before_is : (c : ℕ) (s : List ℕ) → before c s ≡ position_or_len (λ (b : ℕ). eqb b c) s
unfolding before
before_is c s = is_position_or_len (before c) (λ (b : ℕ). eqb b c) refl (λ b t. grind arith) s

-- there are no more than all
before_few : (c : ℕ) (s : List ℕ) → before c s ≤ length s
unfolding before
before_few c [] = omega arith
before_few c (b ∷ s) =
    cond_elim (λ (k : ℕ). k ≤ suc (length s)) (eqb b c) 0 (suc (before c s)) (λ t. omega arith) (λ t. omega (arith, before_few c s))

-- what a search finds: a place of c, and none
first-some : (c : ℕ) (s : List ℕ) (k : ℕ) → position (λ (b : ℕ). eqb b c) s ≡ Some k → (before c s ≡ k) × (k < length s)
first-some c s k e = go (dec_lt (before c s) (length s)) (rw (before_is c s) e)
  where
    go : Dec (before c s < length s) → cond (ltb (before c s) (length s)) (Some (before c s)) None ≡ Some k → (before c s ≡ k) × (k < length s)
    go (yes l) h =
        let t = lt-ltb (before c s) (length s) l in
        let w : before c s ≡ k = cc in
        (w, omega arith)
    go (no l) h = let t = le-ltb (before c s) (length s) (omega arith) in let w : ⊥ = cc in absurd w

first-none : (c : ℕ) (s : List ℕ) → position (λ (b : ℕ). eqb b c) s ≡ None → before c s ≡ length s
first-none c s e = go (dec_lt (before c s) (length s)) (rw (before_is c s) e)
  where
    go : Dec (before c s < length s) → cond (ltb (before c s) (length s)) (Some (before c s)) None ≡ None → before c s ≡ length s
    go (yes l) h = let t = lt-ltb (before c s) (length s) l in let w : ⊥ = cc in absurd w
    go (no l) h = omega (arith, before_few c s)

-- the same in the bytes from a place on
pub rest_all : (s : List ℕ) (from : ℕ) → take (length s - from) (drop from s) ≡ drop from s
rest_all s from = take_all (length s - from) (drop from s) (rw length-drop (omega arith))

pub found_some : (c : ℕ) (s : List ℕ) (from k : ℕ) → from ≤ length s
    → Some k ≡ position (λ (b : ℕ). eqb b c) (take (length s - from) (drop from s)) → (from + k ≡ from + before c (drop from s)) × (from + k ≤ length s)
found_some c s from k h e =
    let f = first-some c (drop from s) k (sym (rw (rest_all s from) at e)) in
    (omega (arith, f.0), omega (arith, f.1, length-drop from s))

pub found_none : (c : ℕ) (s : List ℕ) (from : ℕ) → from ≤ length s
    → None ≡ position (λ (b : ℕ). eqb b c) (take (length s - from) (drop from s)) → (length s ≡ from + before c (drop from s)) × (length s ≤ length s)
found_none c s from h e = (omega (arith, first-none c (drop from s) (sym (rw (rest_all s from) at e)), length-drop from s), omega arith)

-- the pieces of a text that starts with c, and of one that starts with another byte
split-same : (c b : ℕ) (s : List ℕ) → b ≡ c → split c (b ∷ s) ≡ [] ∷ split c s
unfolding split
split-same c b s e = cond_yes (eqb b c) ([] ∷ split c s) (grown b (split c s)) (eq→eqb b c e)

split-other : (c b : ℕ) (s : List ℕ) → (b ≡ c → ⊥) → split c (b ∷ s) ≡ grown b (split c s)
unfolding split
split-other c b s e = cond_no (eqb b c) ([] ∷ split c s) (grown b (split c s)) (ne→neqb b c e)

-- a piece that grows is a piece
grown-some : (b : ℕ) (ps : List (List ℕ)) → 1 ≤ length (grown b ps)
unfolding grown
grown-some b [] = omega arith
grown-some b (p ∷ ps) = omega arith

-- the pieces of a text in which c stands: the first is what stands before the first c
pub split-here : (c : ℕ) (s : List ℕ) → before c s < length s → split c s ≡ take (before c s) s ∷ split c (drop (before c s + 1) s)
unfolding grown
split-here c [] h = absurd (omega arith)
split-here c (b ∷ s) h = go (ℕ_discrete b c) (λ l. split-here c s l)
  where
    go : Dec (b ≡ c) → (before c s < length s → split c s ≡ take (before c s) s ∷ split c (drop (before c s + 1) s))
        → split c (b ∷ s) ≡ take (before c (b ∷ s)) (b ∷ s) ∷ split c (drop (before c (b ∷ s) + 1) (b ∷ s))
    go (yes e) more = rw (split-same c b s e, before_here c b s e)
    go (no n) more =
        let k : before c s < length s = omega (arith, before-later c b s n) in
        let one : suc (before c s) + 1 ≡ suc (before c s + 1) = omega arith in
        rw (split-other c b s n, before-later c b s n, one, more k)

-- and of one in which it does not
pub split-whole : (c : ℕ) (s : List ℕ) → before c s ≡ length s → split c s ≡ s ∷ []
unfolding split grown
split-whole c [] h = refl
split-whole c (b ∷ s) h = go (ℕ_discrete b c) (λ l. split-whole c s l)
  where
    go : Dec (b ≡ c) → (before c s ≡ length s → split c s ≡ s ∷ []) → split c (b ∷ s) ≡ (b ∷ s) ∷ []
    go (yes e) more = absurd (omega (arith, before_here c b s e))
    go (no n) more = let k : before c s ≡ length s = omega (arith, before-later c b s n) in split-other c b s n ∙ rw (more k)

-- the same from a place `at` on, with z what `find` gives: where c stands at z, and where it stands nowhere
pub split-found : (c : ℕ) (s : List ℕ) (at z : ℕ) → z ≡ at + before c (drop at s) → z < length s
    → split c (drop at s) ≡ take (z - at) (drop at s) ∷ split c (drop (z + 1) s)
split-found c s at z e h =
    let k : z - at ≡ before c (drop at s) = omega arith in
    let l : before c (drop at s) < length (drop at s) = rw length-drop (omega arith) in
    let n : z + 1 ≡ at + (before c (drop at s) + 1) = omega arith in
    split-here c (drop at s) l ∙ rw (k, n, drop-drop)

pub split-none : (c : ℕ) (s : List ℕ) (at z : ℕ) → z ≡ at + before c (drop at s) → z ≡ length s → at ≤ length s → split c (drop at s) ≡ drop at s ∷ []
split-none c s at z e h l = split-whole c (drop at s) (rw length-drop (omega arith))

-- there is always a piece
pub split-some : (c : ℕ) (s : List ℕ) → 1 ≤ length (split c s)
unfolding split
split-some c [] = omega arith
split-some c (b ∷ s) =
    cond_elim (λ (ps : List (List ℕ)). 1 ≤ length ps) (eqb b c) ([] ∷ split c s) (grown b (split c s)) (λ t. omega arith) (λ t. grown-some b (split c s))

-- a text is one piece, or it has two or more
pub split-elim : (P : List (List ℕ) → Type 0) (c : ℕ) (s : List ℕ) → P (s ∷ [])
    → ((p q : List ℕ) (ps : List (List ℕ)) → split c s ≡ p ∷ q ∷ ps → P (p ∷ q ∷ ps)) → P (split c s)
split-elim P c s one more = go (dec_lt (before c s) (length s))
  where
    two : (p : List ℕ) (ps : List (List ℕ)) → 1 ≤ length ps → split c s ≡ p ∷ ps → P (split c s)
    two p [] h e = absurd (omega arith)
    two p (q ∷ ps) h e = rw e (more p q ps e)

    go : Dec (before c s < length s) → P (split c s)
    go (yes l) = two (take (before c s) s) (split c (drop (before c s + 1) s)) (split-some c (drop (before c s + 1) s)) (split-here c s l)
    go (no l) = rw (split-whole c s (omega (arith, before_few c s))) one

-- the bytes of the pieces, with one behind each
unfoldable pub total : List (List ℕ) → ℕ
total [] = 0
total (p ∷ ps) = length p + 1 + total ps

total-grown : (b : ℕ) (ps : List (List ℕ)) → 1 ≤ length ps → total (grown b ps) ≡ total ps + 1
unfolding total grown
total-grown b [] h = absurd (omega arith)
total-grown b (p ∷ ps) h = omega arith

-- the pieces have all the bytes of the text and of one parting byte more
pub split-total : (c : ℕ) (s : List ℕ) → total (split c s) ≡ length s + 1
unfolding total split
split-total c [] = refl
split-total c (b ∷ s) =
    let more = split-total c s in
    cond_elim (λ (ps : List (List ℕ)). total ps ≡ suc (length s) + 1) (eqb b c) ([] ∷ split c s) (grown b (split c s)) (λ t. omega arith)
    (λ t. omega (arith, total-grown b (split c s) (split-some c s)))

-- so there are at most as many pieces
length-total : (ps : List (List ℕ)) → length ps ≤ total ps
unfolding total
length-total [] = omega arith
length-total (p ∷ ps) = omega (arith, length-total ps)

pub split-few : (c : ℕ) (s : List ℕ) → length (split c s) ≤ length s + 1
split-few c s = omega (arith, split-total c s, length-total (split c s))

-- the pieces of a text in which a search finds c, and of one in which it does not
pub split_at : (c : ℕ) (s : List ℕ) (k : ℕ) → Some k ≡ position (λ (b : ℕ). eqb b c) s → split c s ≡ take k s ∷ split c (drop (k + 1) s)
split_at c s k e = let f = first-some c s k (sym e) in rw (← f.0) (split-here c s (omega (arith, f.0, f.1)))

pub split_never : (c : ℕ) (s : List ℕ) → None ≡ position (λ (b : ℕ). eqb b c) s → split c s ≡ s ∷ []
split_never c s e = split-whole c s (first-none c s (sym e))

pub ruleset parted = (split_at, split_never, rest_all)
