-- The tests of a matrix and the walks over its entries: each pair says the same where the entries rise. Assumes nothing.
use Prim.Native.Nat.{◌+◌, ◌-◌, ◌<◌, ◌≤◌, ℕ}
use mathlib.Core.Bool.{Bool, ◌&&◌, ◌||◌, false, not, true}
use mathlib.Core.List.{List, [], ◌∷◌}
use mathlib.Core.Path.{◌∙◌, ◌≡◌, refl}
use native.Mathlib.Decide.{ℕ_discrete}
use native.Mathlib.Omega.{arith}
use borrow.Author.Tests.{eq-eqb}
use lib.Dec.{T, eqb, eqb→eq, leb, leb→le, le→leb, ltb, ltb→lt, nltb→le, not_T}
use Rattle.arrival.proofs.Sound.{Inside}
use Rattle.arrival.specs.Tests.{exceeds, ready}
use Rattle.frame.proofs.Checks.{entries-done, entries-rest}
use Rattle.frame.proofs.Lookup.{Each, Ordered, Stands, each_map, look_each, look_hit, look_miss, place}
use Rattle.frame.specs.Entries.{entries_from, entry_at, matrix_of}
use Rattle.frame.specs.declared.entries.Entry.{Entry}
use Rattle.matrix.specs.Matrix.{Matrix}
use Rattle.protocol.proofs.Below.{all-each, each_all, none-some, some-none}
use Rattle.protocol.specs.Node.{each_below, some_below}
use Rattle.wire.proofs.Tests.{T_and, and_T, eq→eqb, if_then, le→nltb, not-or, or-not, then_if, same_not, same_test}

-- whether the test holds of some entry, and of every entry
unfoldable pub some_entry : (Entry → Bool) → List Entry → Bool
some_entry p [] = false
some_entry p (a ∷ l) = p a || some_entry p l

unfoldable pub every_entry : (Entry → Bool) → List Entry → Bool
every_entry p [] = true
every_entry p (a ∷ l) = p a && every_entry p l

none-entries : (p : Entry → Bool) (l : List Entry) → T (not (some_entry p l)) → Each (λ a. T (not (p a))) l
unfolding some_entry
none-entries p [] t = tt
none-entries p (a ∷ l) t = let q = or-not (p a) (some_entry p l) t in (q.0, none-entries p l q.1)

entries_none : (p : Entry → Bool) (l : List Entry) → Each (λ a. T (not (p a))) l → T (not (some_entry p l))
unfolding some_entry
entries_none p [] e = tt
entries_none p (a ∷ l) e = not-or (p a) (some_entry p l) e.0 (entries_none p l e.1)

all-entries : (p : Entry → Bool) (l : List Entry) → T (every_entry p l) → Each (λ a. T (p a)) l
unfolding every_entry
all-entries p [] t = tt
all-entries p (a ∷ l) t = let q = and_T (p a) (every_entry p l) t in (q.0, all-entries p l q.1)

entries-all : (p : Entry → Bool) (l : List Entry) → Each (λ a. T (p a)) l → T (every_entry p l)
unfolding every_entry
entries-all p [] e = tt
entries-all p (a ∷ l) e = T_and (p a) (every_entry p l) e.0 (entries-all p l e.1)

-- later entries stand further on
each_from : (k j : ℕ) (l : List Entry) → k ≤ j → Ordered j l → Each (Stands k) l
each_from k j [] h o = tt
each_from k j (a ∷ l) h o =
    (record { column = o.0.column; value = o.0.value; from = omega (arith, o.0.from) }, each_from k (place a + 1) l (omega (arith, o.0.from)) o.1)

-- the matrix of rising entries has each entry's value in its row and column
pub look_own : (k : ℕ) (l : List Entry) → Ordered k l → Each (λ a. matrix_of l a.row a.column ≡ a.value) l
look_own k [] o = tt
look_own k (a ∷ l) o =
    (look_hit a l a.row a.column refl refl, later l (each_from (place a + 1) (place a + 1) l (omega arith) o.1) (look_own (place a + 1) l o.1))
  where
    later : (t : List Entry) → Each (Stands (place a + 1)) t → Each (λ b. matrix_of l b.row b.column ≡ b.value) t
        → Each (λ b. matrix_of (a ∷ l) b.row b.column ≡ b.value) t
    later [] w e = tt
    later (b ∷ t) w e = (look_miss a l b.row b.column (λ p q. omega (arith, w.0.from)) ∙ e.0, later t w.1 e.1)

-- a relation of row, column and value that zero keeps: the entries keep it where the matrix does, and the other way round
module _ (Q : ℕ → ℕ → ℕ → Type 0) where
  abbrev Keeps : Entry → Type 0
  Keeps a = Q a.row a.column a.value

  look_keeps : (l : List Entry) → Each Keeps l → (x y : ℕ) → Q x y 0 → Q x y (matrix_of l x y)
  look_keeps l e x y z = go (ℕ_discrete (matrix_of l x y) 0)
    where
      go : Dec (matrix_of l x y ≡ 0) → Q x y (matrix_of l x y)
      go (yes p) = rw p z
      go (no p) = look_each Keeps l e x y p

  keeps_look : (l : List Entry) → Each Inside l → Ordered 0 l → ((x y : ℕ) → x < 12 → y < 12 → Q x y (matrix_of l x y)) → Each Keeps l
  keeps_look l w o f = go l w (look_own 0 l o)
    where
      go : (t : List Entry) → Each Inside t → Each (λ a. matrix_of l a.row a.column ≡ a.value) t → Each Keeps t
      go [] w e = tt
      go (a ∷ t) w e = (rw e.0 at (f a.row a.column w.0.row w.0.column), go t w.1 e.1)

-- the test of one entry, as a fact
exceeds_no : (me : ℕ) (m : Matrix) (a : Entry) → (a.row ≡ me → a.value ≤ m me a.column) → T (not (exceeds me m a))
unfolding exceeds
exceeds_no me m a f =
    not_T (eqb a.row me && ltb (m me a.column) a.value)
    (λ t. let p = and_T (eqb a.row me) (ltb (m me a.column) a.value) t in
    omega (arith, f (eqb→eq a.row me p.0), ltb→lt (m me a.column) a.value p.1))

no_exceeds : (me : ℕ) (m : Matrix) (a : Entry) → T (not (exceeds me m a)) → a.row ≡ me → a.value ≤ m me a.column
unfolding exceeds
no_exceeds me m a t e = nltb→le (m me a.column) a.value (rw (eq-eqb a.row me e) at t)

ready_yes : (me : ℕ) (v : ℕ → ℕ) (a : Entry) → (a.column ≡ me → a.value ≤ v a.row) → T (ready me v a)
unfolding ready
ready_yes me v a f = then_if (eqb a.column me) (leb a.value (v a.row)) (λ t. le→leb a.value (v a.row) (f (eqb→eq a.column me t)))

yes_ready : (me : ℕ) (v : ℕ → ℕ) (a : Entry) → T (ready me v a) → a.column ≡ me → a.value ≤ v a.row
unfolding ready
yes_ready me v a t e = leb→le a.value (v a.row) (if_then (eqb a.column me) (leb a.value (v a.row)) t (eq→eqb a.column me e))

-- an entry of row me exceeds m there: the test of the matrix is the walk over the entries
pub claims-walk : (me : ℕ) (m : Matrix) (l : List Entry) → Each Inside l → Ordered 0 l
    → some_below 12 (λ y. ltb (m me y) (matrix_of l me y)) ≡ some_entry (exceeds me m) l
claims-walk me m l w o = same_not (some_below 12 (λ y. ltb (m me y) (matrix_of l me y))) (some_entry (exceeds me m) l) there back
  where
    Within : ℕ → ℕ → ℕ → Type 0
    Within x y v = x ≡ me → v ≤ m me y

    there : T (not (some_below 12 (λ y. ltb (m me y) (matrix_of l me y)))) → T (not (some_entry (exceeds me m) l))
    there t =
        entries_none (exceeds me m) l
        (each_map (λ a. Within a.row a.column a.value) (λ a. T (not (exceeds me m a))) (exceeds_no me m) l
        (keeps_look Within l w o (λ x y _ h e. rw e (nltb→le (m me y) (matrix_of l me y) (some-none 12 (λ y. ltb (m me y) (matrix_of l me y)) t y h)))))

    back : T (not (some_entry (exceeds me m) l)) → T (not (some_below 12 (λ y. ltb (m me y) (matrix_of l me y))))
    back t =
        let each = each_map (λ a. T (not (exceeds me m a))) (λ a. Within a.row a.column a.value)
        (no_exceeds me m) l (none-entries (exceeds me m) l t) in
        none-some 12 (λ y. ltb (m me y) (matrix_of l me y)) (λ y _. le→nltb (m me y) (matrix_of l me y) (look_keeps Within l each me y (λ _. omega arith) refl))

-- each entry of column me is at most v at its row: the test of the matrix is the walk over the entries
pub ready-walk : (me : ℕ) (v : ℕ → ℕ) (l : List Entry) → Each Inside l → Ordered 0 l
    → each_below 12 (λ x. leb (matrix_of l x me) (v x)) ≡ every_entry (ready me v) l
ready-walk me v l w o = same_test (each_below 12 (λ x. leb (matrix_of l x me) (v x))) (every_entry (ready me v) l) there back
  where
    Within : ℕ → ℕ → ℕ → Type 0
    Within x y u = y ≡ me → u ≤ v x

    there : T (each_below 12 (λ x. leb (matrix_of l x me) (v x))) → T (every_entry (ready me v) l)
    there t =
        entries-all (ready me v) l
        (each_map (λ a. Within a.row a.column a.value) (λ a. T (ready me v a)) (ready_yes me v) l
        (keeps_look Within l w o (λ x y h _ e. rw e (leb→le (matrix_of l x me) (v x) (each_all 12 (λ x. leb (matrix_of l x me) (v x)) t x h)))))

    back : T (every_entry (ready me v) l) → T (each_below 12 (λ x. leb (matrix_of l x me) (v x)))
    back t =
        let each = each_map (λ a. T (ready me v a)) (λ a. Within a.row a.column a.value) (yes_ready me v) l (all-entries (ready me v) l t) in
        all-each 12 (λ x. leb (matrix_of l x me) (v x)) (λ x _. le→leb (matrix_of l x me) (v x) (look_keeps Within l each x me (λ _. omega arith) refl))

-- the walks over a frame's entries from entry k on, where entry k is a: it ends the walk, or is passed
module _ (p : Entry → Bool) (s : List ℕ) (k e : ℕ) (a : Entry) (h : k < e) (q : a ≡ entry_at s k) where
  pub some-found : p a ≡ true → some_entry p (entries_from s k (e - k)) ≡ true
  unfolding some_entry
  some-found t = rw (entries-rest s k e h, ← q, t)

  pub some-passed : p a ≡ false → some_entry p (entries_from s k (e - k)) ≡ some_entry p (entries_from s (k + 1) (e - (k + 1)))
  unfolding some_entry
  some-passed t = rw (entries-rest s k e h, ← q, t)

  pub every_fails : p a ≡ false → every_entry p (entries_from s k (e - k)) ≡ false
  unfolding every_entry
  every_fails t = rw (entries-rest s k e h, ← q, t)

  pub every_passed : p a ≡ true → every_entry p (entries_from s k (e - k)) ≡ every_entry p (entries_from s (k + 1) (e - (k + 1)))
  unfolding every_entry
  every_passed t = rw (entries-rest s k e h, ← q, t)

-- behind the last entry
pub some_end : (p : Entry → Bool) (s : List ℕ) (k e : ℕ) → e ≤ k → some_entry p (entries_from s k (e - k)) ≡ false
unfolding some_entry
some_end p s k e h = rw (entries-done s k e h)

pub every_end : (p : Entry → Bool) (s : List ℕ) (k e : ℕ) → e ≤ k → every_entry p (entries_from s k (e - k)) ≡ true
unfolding every_entry
every_end p s k e h = rw (entries-done s k e h)
