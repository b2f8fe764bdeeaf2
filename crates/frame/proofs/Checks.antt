-- The walk over the entries of 11, and what passing 8 tells. Assumes nothing.
use Prim.Native.Nat.{◌*◌, ◌+◌, ◌-◌, ◌<◌, ◌≤◌, suc, zero, ℕ}
use mathlib.Core.Bool.{Bool, ◌&&◌, ◌||◌, and_assoc, and-true, false, not, true}
use mathlib.Core.List.{List, [], ◌∷◌}
use mathlib.Core.Path.{◌∙◌, ◌≡◌, ap, refl, sym}
use native.Mathlib.Decide.{dec_lt, ℕ_discrete}
use native.Mathlib.Omega.{arith}
use borrow.Author.Tests.{eq-eqb, le-leb, le-ltb, lt-leb, lt-ltb, ne_eqb}
use lib.Dec.{eqb, leb, leb-zero, ltb, nltb→le}
use lib.ListN.{length}
use Rattle.frame.specs.Entries.{entries_from, entry_at}
use Rattle.frame.specs.Refusals.{precedes, each_ok, entry_ok, rising, rising_after}
use Rattle.frame.specs.Refusals.{wrong_entries, wrong_trailer}
use Rattle.frame.specs.declared.entries.Entry.{Entry}
use Rattle.frame.specs.declared.header.Header.{Header}
use Rattle.wire.proofs.Tests.{no_three, not-not, of_false}
use Rattle.wire.proofs.Trailer.{trailed}
use Rattle.wire.specs.Bytes.{AllBytes}
use Rattle.wire.specs.Limits.{max_frame}
use Rattle.wire.specs.Trailer.{count_back, has_trailer}

-- the place of an entry, of which the rows are the high bytes and the columns the low ones: it rises as document 01 has it, by row then column
abbrev pub place_of : Entry → ℕ
place_of a = 256 * a.row + a.column

-- the entries keep the rules, and their places rise from `least` on
unfoldable pub ok_from : ℕ → Header → ℕ → List Entry → Bool
ok_from n h least [] = true
ok_from n h least (a ∷ l) = entry_ok n h a && leb least (place_of a) && ok_from n h (place_of a + 1) l

-- each column is a byte
unfoldable pub Narrow : List Entry → Type 0
Narrow [] = Unit {0}
Narrow (a ∷ l) = (a.column < 256) × Narrow l

precedes-place : (a b : Entry) → a.column < 256 → b.column < 256 → precedes a b ≡ leb (place_of a + 1) (place_of b)
unfolding precedes
precedes-place a b p q = go (dec_lt a.row b.row) (ℕ_discrete a.row b.row) (dec_lt a.column b.column)
  where
    go : Dec (a.row < b.row) → Dec (a.row ≡ b.row) → Dec (a.column < b.column)
        → (ltb a.row b.row || eqb a.row b.row && ltb a.column b.column) ≡ leb (place_of a + 1) (place_of b)
    go (yes r) e c = rw (lt-ltb a.row b.row r) (sym (le-leb (place_of a + 1) (place_of b) (omega arith)))
    go (no r) (yes e) (yes c) =
        rw (
          le-ltb a.row b.row (omega arith),
          eq-eqb a.row b.row e,
          lt-ltb a.column b.column c,
        ) (sym (le-leb (place_of a + 1) (place_of b) (omega arith)))
    go (no r) (yes e) (no c) =
        rw (
          le-ltb a.row b.row (omega arith),
          eq-eqb a.row b.row e,
          le-ltb a.column b.column (omega arith),
        ) (sym (lt-leb (place_of a + 1) (place_of b) (omega arith)))
    go (no r) (no e) c = rw (le-ltb a.row b.row (omega arith), ne_eqb a.row b.row e) (sym (lt-leb (place_of a + 1) (place_of b) (omega arith)))

-- Boolean algebra: a test moved to the front
swap_and : (a b c d : Bool) → (a && b && (c && d)) ≡ (a && c && (b && d))
swap_and true true c d = refl
swap_and true false true d = refl
swap_and true false false d = refl
swap_and false b c d = refl

after : (n : ℕ) (h : Header) (a : Entry) (l : List Entry) → a.column < 256 → Narrow l → (each_ok n h l && rising_after a l) ≡ ok_from n h (place_of a + 1) l
unfolding each_ok rising_after ok_from Narrow
after n h a [] p w = refl
after n h a (b ∷ l) p w =
    swap_and (entry_ok n h b) (each_ok n h l) (precedes a b) (rising_after b l)
    ∙ rw (precedes-place a b p w.0) (ap (λ (t : Bool). entry_ok n h b && leb (place_of a + 1) (place_of b) && t) (after n h b l w.0 w.1))

-- the code's walk from place 0 is the definition
pub entries-walk : (n : ℕ) (h : Header) (l : List Entry) → Narrow l → wrong_entries n h l ≡ not (ok_from n h 0 l)
unfolding wrong_entries each_ok rising ok_from Narrow
entries-walk n h [] w = refl
entries-walk n h (a ∷ l) w =
    let first : (entry_ok n h a && leb 0 (place_of a)) ≡ entry_ok n h a = rw (leb-zero (place_of a)) (and-true (entry_ok n h a)) in
    ap not (and_assoc (entry_ok n h a) (each_ok n h l) (rising_after a l) ∙ ap (λ (t : Bool). entry_ok n h a && t) (after n h a l w.0 w.1)
    ∙ ap (λ (t : Bool). t && ok_from n h (place_of a + 1) l) (sym first))

-- one entry of the walk: it breaks a rule, comes too early, or is passed
pub walk-wrong : (n : ℕ) (h : Header) (least : ℕ) (a : Entry) (l : List Entry) → entry_ok n h a ≡ false → ok_from n h least (a ∷ l) ≡ false
unfolding ok_from
walk-wrong n h least a l e = rw e

pub walk-early : (n : ℕ) (h : Header) (least : ℕ) (a : Entry) (l : List Entry) → entry_ok n h a ≡ true → place_of a < least → ok_from n h least (a ∷ l) ≡ false
unfolding ok_from
walk-early n h least a l e p = rw (e, lt-leb least (place_of a) p)

pub walk-passed : (n : ℕ) (h : Header) (least : ℕ) (a : Entry) (l : List Entry) → entry_ok n h a ≡ true → least ≤ place_of a
    → ok_from n h least (a ∷ l) ≡ ok_from n h (place_of a + 1) l
unfolding ok_from
walk-passed n h least a l e p = rw (e, le-leb least (place_of a) p)

pub walk_end : (n : ℕ) (h : Header) (least : ℕ) → ok_from n h least [] ≡ true
unfolding ok_from
walk_end n h least = refl

-- the entries of a frame, one further, and their columns
pub entries-rest : (s : List ℕ) (k e : ℕ) → k < e → entries_from s k (e - k) ≡ entry_at s k ∷ entries_from s (k + 1) (e - (k + 1))
unfolding entries_from
entries-rest s k e h = let d : e - k ≡ suc (e - (k + 1)) = omega arith in rw d

pub entries-done : (s : List ℕ) (k e : ℕ) → e ≤ k → entries_from s k (e - k) ≡ []
unfolding entries_from
entries-done s k e h = let d : e - k ≡ 0 = omega arith in rw d

pub narrow : (s : List ℕ) → AllBytes s → (k r : ℕ) → Narrow (entries_from s k r)
unfolding Narrow entries_from entry_at
narrow s b k zero = tt
narrow s b k (suc r) = (b (8 + 6 * k + 1), narrow s b (k + 1) r)

-- the walk's outcome is the definition's
pub walk_fails : (n : ℕ) (h : Header) (s : List ℕ) (e : ℕ) → AllBytes s → ok_from n h 0 (entries_from s 0 e) ≡ false → true ≡ wrong_entries n h (entries_from s 0 e)
walk_fails n h s e b f = sym (entries-walk n h (entries_from s 0 e) (narrow s b 0 e) ∙ ap not f)

pub walk-holds : (n : ℕ) (h : Header) (s : List ℕ) (e : ℕ) → AllBytes s → ok_from n h 0 (entries_from s 0 e) ≡ true → false ≡ wrong_entries n h (entries_from s 0 e)
walk-holds n h s e b f = sym (entries-walk n h (entries_from s 0 e) (narrow s b 0 e) ∙ ap not f)

-- what passing 8 tells: the header can be read, and the count pointed back is right
pub trailer_passed : (s : List ℕ) → wrong_trailer s ≡ false → (12 ≤ length s) × (count_back s ≡ length s - 4)
unfolding wrong_trailer
trailer_passed s e =
    let t = no_three (ltb (length s) 12) (ltb max_frame (length s)) (not (has_trailer s))
    (of_false (ltb (length s) 12 || ltb max_frame (length s) || not (has_trailer s)) e) in
    (nltb→le (length s) 12 t.0, (trailed s (not-not (has_trailer s) t.2)).count)
