-- The tests of a list of entries: each entry keeps the rules, and entries that rise by row then column stand at rising places. Assumes nothing.
use Prim.Native.Nat.{◌+◌, ◌<◌, ℕ}
use mathlib.Core.Bool.{◌&&◌, ◌||◌}
use mathlib.Core.List.{List, [], ◌∷◌}
use mathlib.Core.Logic.{◌⊎◌, inl, inr}
use mathlib.Core.Path.{◌≡◌}
use native.Mathlib.Decide.{dec_lt}
use native.Mathlib.Omega.{arith}
use lib.Dec.{T, eqb, eqb→eq, ltb, ltb→lt, lt→ltb}
use Rattle.frame.proofs.Lookup.{Each, Ordered, Stands, place}
use Rattle.frame.proofs.Passed.{EntryKept, entry_kept, kept_entry}
use Rattle.frame.specs.Refusals.{precedes, each_ok, entry_ok, rising, rising_after}
use Rattle.frame.specs.declared.entries.Entry.{Entry}
use Rattle.frame.specs.declared.header.Header.{Header}
use Rattle.wire.proofs.Tests.{T_and, and_T, eq→eqb, is_false, is_true, le→nltb, or-T}

-- each entry of a list that passes keeps the rules, and the other way round
pub each-kept : (n : ℕ) (h : Header) (l : List Entry) → T (each_ok n h l) → Each (EntryKept n h) l
unfolding each_ok
each-kept n h [] t = tt
each-kept n h (a ∷ l) t =
    let p = and_T (entry_ok n h a) (each_ok n h l) t in
    (entry_kept n h a p.0, each-kept n h l p.1)

pub kept-each : (n : ℕ) (h : Header) (l : List Entry) → Each (EntryKept n h) l → T (each_ok n h l)
unfolding each_ok
kept-each n h [] e = tt
kept-each n h (a ∷ l) e = T_and (entry_ok n h a) (each_ok n h l) (kept_entry n h a e.0) (kept-each n h l e.1)

-- in columns below 12, the order by row then column is the order of places
precedes-place : (a b : Entry) → a.column < 12 → T (precedes a b) → place a < place b
unfolding precedes
precedes-place a b h t = go (or-T (ltb a.row b.row) (eqb a.row b.row && ltb a.column b.column) t)
  where
    go : T (ltb a.row b.row) ⊎ T (eqb a.row b.row && ltb a.column b.column) → place a < place b
    go (inl u) = omega (arith, ltb→lt a.row b.row u)
    go (inr u) =
        let p = and_T (eqb a.row b.row) (ltb a.column b.column) u in
        omega (arith, eqb→eq a.row b.row p.0, ltb→lt a.column b.column p.1)

place-precedes : (a b : Entry) → b.column < 12 → place a < place b → T (precedes a b)
unfolding precedes
place-precedes a b h l = go (dec_lt a.row b.row)
  where
    go : Dec (a.row < b.row) → T (ltb a.row b.row || eqb a.row b.row && ltb a.column b.column)
    go (yes p) = rw (is_true (ltb a.row b.row) (lt→ltb a.row b.row p)) tt
    go (no p) =
        let e : a.row ≡ b.row = omega arith in
        rw (is_false (ltb a.row b.row) (le→nltb a.row b.row (omega arith)))
        (T_and (eqb a.row b.row) (ltb a.column b.column) (eq→eqb a.row b.row e) (lt→ltb a.column b.column (omega arith)))

-- so entries that rise stand at rising places, and the other way round
after-ordered : (a : Entry) (l : List Entry) → a.column < 12 → Each (Stands 0) l → T (rising_after a l) → Ordered (place a + 1) l
unfolding rising_after
after-ordered a [] h e t = tt
after-ordered a (b ∷ l) h e t =
    let p = and_T (precedes a b) (rising_after b l) t in
    (record { column = e.0.column; value = e.0.value; from = omega (arith, precedes-place a b h p.0) }, after-ordered b l e.0.column e.1 p.1)

pub rising-ordered : (l : List Entry) → Each (Stands 0) l → T (rising l) → Ordered 0 l
unfolding rising
rising-ordered [] e t = tt
rising-ordered (a ∷ l) e t = (e.0, after-ordered a l e.0.column e.1 t)

ordered-after : (a : Entry) (l : List Entry) → Ordered (place a + 1) l → T (rising_after a l)
unfolding rising_after
ordered-after a [] o = tt
ordered-after a (b ∷ l) o = T_and (precedes a b) (rising_after b l) (place-precedes a b o.0.column (omega (arith, o.0.from))) (ordered-after b l o.1)

pub ordered-rising : (k : ℕ) (l : List Entry) → Ordered k l → T (rising l)
unfolding rising
ordered-rising k [] o = tt
ordered-rising k (a ∷ l) o = ordered-after a l o.1
