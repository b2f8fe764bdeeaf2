-- The entries of a matrix and the matrix of entries: each is the other's inverse. Assumes nothing.
use Prim.Native.Nat.{◌%◌, ◌*◌, ◌+◌, ◌/◌, ◌<◌, ◌≤◌, suc, zero, ℕ}
use mathlib.Core.Bool.{◌&&◌}
use mathlib.Core.List.{List, [], ◌++◌, ◌∷◌}
use mathlib.Core.Path.{◌∙◌, ◌≡◌, ap, fun_ext, refl, sym}
use native.Mathlib.Decide.{dec_lt, ℕ_discrete}
use native.Mathlib.Nat.{add-zero, zero-add}
use native.Mathlib.Omega.{arith}
use lib.Dec.{eqb, eqb→eq, not_T}
use lib.ListN.{get_or-eq_default, get_or}
use Rattle.frame.proofs.EntryLists.{placed-none, placed_one}
use Rattle.frame.specs.Entries.{entries_of, listed, matrix_of, placed}
use Rattle.frame.specs.declared.entries.Entry.{Entry}
use Rattle.matrix.proofs.Array.{get_or-flat, length-flat, place-column, place-row}
use Rattle.matrix.specs.Array.{flat, list_from}
use Rattle.matrix.specs.Matrix.{Matrix}
use Rattle.wire.proofs.Tests.{T_and, and_T, cond_no, cond_yes, eq→eqb}

-- every entry of a list has the property P
abbrev pub Each : (Entry → Type 0) → List Entry → Type 0
Each P [] = Unit {0}
Each P (a ∷ l) = P a × Each P l

pub each_map : (P Q : Entry → Type 0) → ((a : Entry) → P a → Q a) → (l : List Entry) → Each P l → Each Q l
each_map P Q f [] e = tt
each_map P Q f (a ∷ l) e = (f a e.0, each_map P Q f l e.1)

-- the place of an entry in the array
abbrev pub place : Entry → ℕ
place a = 12 * a.row + a.column

-- an entry that is not zero, in a column below 12, not before place k
pub record Stands (k : ℕ) (a : Entry) : Type 0 where
  pub column : a.column < 12
  pub value : a.value ≡ 0 → ⊥
  pub from : k ≤ place a

-- such entries at rising places
abbrev pub Ordered : ℕ → List Entry → Type 0
Ordered k [] = Unit {0}
Ordered k (a ∷ l) = Stands k a × Ordered (place a + 1) l

pub ordered-down : (k j : ℕ) (l : List Entry) → k ≤ j → Ordered j l → Ordered k l
ordered-down k j [] h o = tt
ordered-down k j (a ∷ l) h o = (record { column = o.0.column; value = o.0.value; from = omega (arith, o.0.from) }, o.1)

-- the first entry of a list is looked up in its row and column, and no other
pub look_hit : (a : Entry) (l : List Entry) (x y : ℕ) → a.row ≡ x → a.column ≡ y → matrix_of (a ∷ l) x y ≡ a.value
unfolding matrix_of
look_hit a l x y p q =
    cond_yes (eqb a.row x && eqb a.column y) a.value (matrix_of l x y)
    (T_and (eqb a.row x) (eqb a.column y) (eq→eqb a.row x p) (eq→eqb a.column y q))

pub look_miss : (a : Entry) (l : List Entry) (x y : ℕ) → (a.row ≡ x → a.column ≡ y → ⊥) → matrix_of (a ∷ l) x y ≡ matrix_of l x y
unfolding matrix_of
look_miss a l x y h =
    cond_no (eqb a.row x && eqb a.column y) a.value (matrix_of l x y)
    (not_T (eqb a.row x && eqb a.column y) (λ t. let p = and_T (eqb a.row x) (eqb a.column y) t in
    h (eqb→eq a.row x p.0) (eqb→eq a.column y p.1)))

pub look_none : (x y : ℕ) → matrix_of [] x y ≡ 0
unfolding matrix_of
look_none x y = refl

-- before the first place, and in a column from 12 on, there is nothing
pub look_before : (k : ℕ) (l : List Entry) → Ordered k l → (x y : ℕ) → y < 12 → 12 * x + y < k → matrix_of l x y ≡ 0
look_before k [] o x y h b = look_none x y
look_before k (a ∷ l) o x y h b =
    look_miss a l x y (λ p q. omega (arith, o.0.from)) ∙ look_before (place a + 1) l o.1 x y h (omega (arith, o.0.from))

pub look_wide : (k : ℕ) (l : List Entry) → Ordered k l → (x y : ℕ) → 12 ≤ y → matrix_of l x y ≡ 0
look_wide k [] o x y h = look_none x y
look_wide k (a ∷ l) o x y h = look_miss a l x y (λ p q. omega (arith, o.0.column)) ∙ look_wide (place a + 1) l o.1 x y h

-- what is looked up is an entry of the list
pub look_each : (P : Entry → Type 0) (l : List Entry) → Each P l → (x y : ℕ) → (matrix_of l x y ≡ 0 → ⊥)
    → P (record { row = x; column = y; value = matrix_of l x y })
look_each P [] e x y h = absurd (h (look_none x y))
look_each P (a ∷ l) e x y h = go (look_each P l e.1 x y) (ℕ_discrete a.row x) (ℕ_discrete a.column y)
  where
    Found : ℕ → Type 0
    Found v = P (record { row = x; column = y; value = v })

    miss : ((matrix_of l x y ≡ 0 → ⊥) → Found (matrix_of l x y)) → (a.row ≡ x → a.column ≡ y → ⊥) → Found (matrix_of (a ∷ l) x y)
    miss ih n = rw (look_miss a l x y n) (ih (λ z. h (look_miss a l x y n ∙ z)))

    go : ((matrix_of l x y ≡ 0 → ⊥) → Found (matrix_of l x y)) → Dec (a.row ≡ x) → Dec (a.column ≡ y) → Found (matrix_of (a ∷ l) x y)
    go ih (yes p) (yes q) = rw (look_hit a l x y p q, ← p, ← q) e.0
    go ih (yes p) (no q) = miss ih (λ _ r. q r)
    go ih (no p) d = miss ih (λ r _. p r)

-- the entries of an array stand at rising places
pub listed-ordered : (k : ℕ) (l : List ℕ) → Ordered k (listed k l)
unfolding listed
listed-ordered k [] = tt
listed-ordered k (v ∷ l) = go (listed-ordered (k + 1) l) (ℕ_discrete v 0)
  where
    go : Ordered (k + 1) (listed (k + 1) l) → Dec (v ≡ 0) → Ordered k (placed k v ++ listed (k + 1) l)
    go o (yes e) = rw (placed-none k v e) (ordered-down k (k + 1) (listed (k + 1) l) (omega arith) o)
    go o (no e) =
        let p : 12 * (k / 12) + k % 12 ≡ k = omega arith in
        rw (placed_one k v e) (record { column = omega arith; value = e; from = omega arith }, rw p o)

-- looked up, they are the elements of the array
pub look_listed : (k i : ℕ) (l : List ℕ) (x y : ℕ) → y < 12 → 12 * x + y ≡ k + i → matrix_of (listed k l) x y ≡ get_or l i 0
unfolding listed
look_listed k i [] x y h p = look_none x y
look_listed k zero (v ∷ l) x y h p = go (ℕ_discrete v 0)
  where
    go : Dec (v ≡ 0) → matrix_of (placed k v ++ listed (k + 1) l) x y ≡ v
    go (yes e) = rw (placed-none k v e, e) (look_before (k + 1) (listed (k + 1) l) (listed-ordered (k + 1) l) x y h (omega arith))
    go (no e) = rw (placed_one k v e) (look_hit (record { row = k / 12; column = k % 12; value = v }) (listed (k + 1) l) x y (omega arith) (omega arith))
look_listed k (suc i) (v ∷ l) x y h p = go (look_listed (k + 1) i l x y h (omega arith)) (ℕ_discrete v 0)
  where
    go : matrix_of (listed (k + 1) l) x y ≡ get_or l i 0 → Dec (v ≡ 0) → matrix_of (placed k v ++ listed (k + 1) l) x y ≡ get_or l i 0
    go ih (yes e) = rw (placed-none k v e) ih
    go ih (no e) = rw (placed_one k v e) (look_miss (record { row = k / 12; column = k % 12; value = v }) (listed (k + 1) l) x y (λ a b. omega arith) ∙ ih)

pub each-listed : (P : Entry → Type 0) (k : ℕ) (l : List ℕ)
    → ((i : ℕ) → (get_or l i 0 ≡ 0 → ⊥) → P (record { row = (k + i) / 12; column = (k + i) % 12; value = get_or l i 0 })) → Each P (listed k l)
unfolding listed
each-listed P k [] h = tt
each-listed P k (v ∷ l) h = go (each-listed P (k + 1) l (λ i n. let e : k + 1 + i ≡ k + suc i = omega arith in rw e (h (suc i) n))) (ℕ_discrete v 0)
  where
    go : Each P (listed (k + 1) l) → Dec (v ≡ 0) → Each P (placed k v ++ listed (k + 1) l)
    go ih (yes e) = rw (placed-none k v e) ih
    go ih (no e) = rw (placed_one k v e) (rw add-zero at (h 0 e), ih)

-- a matrix that is zero outside its twelve rows and columns is that of its entries
pub look_entries : (m : Matrix) → ((x y : ℕ) → (x < 12 → y < 12 → ⊥) → m x y ≡ 0) → matrix_of (entries_of m) ≡ m
unfolding entries_of
look_entries m z = fun_ext (λ x. fun_ext (λ y. go x y (dec_lt x 12) (dec_lt y 12)))
  where
    go : (x y : ℕ) → Dec (x < 12) → Dec (y < 12) → matrix_of (listed 0 (flat m)) x y ≡ m x y
    go x y (yes a) (yes b) =
        look_listed 0 (12 * x + y) (flat m) x y b (omega arith) ∙ get_or-flat m (12 * x + y) (omega arith) ∙ rw (place-row x y b, place-column x y b)
    go x y (no a) (yes b) =
        look_listed 0 (12 * x + y) (flat m) x y b (omega arith)
        ∙ get_or-eq_default (flat m) 0 {n = 12 * x + y} (rw length-flat (omega arith)) ∙ sym (z x y (λ p _. a p))
    go x y d (no b) = look_wide 0 (listed 0 (flat m)) (listed-ordered 0 (flat m)) x y (omega arith) ∙ sym (z x y (λ _ p. b p))

pub entries-ordered : (m : Matrix) → Ordered 0 (entries_of m)
unfolding entries_of
entries-ordered m = listed-ordered 0 (flat m)

-- each entry of a matrix is one
pub each-entries : (P : Entry → Type 0) (m : Matrix) → ((x y : ℕ) → (m x y ≡ 0 → ⊥) → P (record { row = x; column = y; value = m x y })) → Each P (entries_of m)
unfolding entries_of
each-entries P m h = each-listed P 0 (flat m) (λ i n. go i n (dec_lt i 144))
  where
    go : (i : ℕ) → (get_or (flat m) i 0 ≡ 0 → ⊥) → Dec (i < 144) → P (record { row = (0 + i) / 12; column = (0 + i) % 12; value = get_or (flat m) i 0 })
    go i n (yes a) = rw (zero-add, get_or-flat m i a) (h (i / 12) (i % 12) (λ e. n (get_or-flat m i a ∙ e)))
    go i n (no a) = absurd (n (get_or-eq_default (flat m) 0 {n = i} (rw length-flat (omega arith))))

-- entries at rising places, the last before place k + r, are those of the array that has their values there
pub listed_back : (r k : ℕ) (f : ℕ → ℕ) (l : List Entry) → Ordered k l → Each (λ a. place a < k + r) l
    → ((i : ℕ) → k ≤ i → i < k + r → f i ≡ matrix_of l (i / 12) (i % 12)) → listed k (list_from k r f) ≡ l
unfolding listed
listed_back zero k f [] o w h = refl
listed_back zero k f (a ∷ l) o w h = absurd (omega (arith, o.0.from, w.0))
listed_back (suc r) k f [] o w h =
    rw (placed-none k (f k) (h k (omega arith) (omega arith) ∙ look_none (k / 12) (k % 12)))
    (listed_back r (k + 1) f [] tt tt (λ i p q. h i (omega arith) (omega arith)))
listed_back (suc r) k f (a ∷ l) o w h = go (listed_back r (k + 1) f (a ∷ l)) (listed_back r (k + 1) f l) (ℕ_discrete (place a) k)
  where
    Back : List Entry → Type 0
    Back t =
        Ordered (k + 1) t → Each (λ b. place b < k + 1 + r) t → ((i : ℕ) → k + 1 ≤ i → i < k + 1 + r → f i ≡ matrix_of t (i / 12) (i % 12))
        → listed (k + 1) (list_from (k + 1) r f) ≡ t

    wide : (t : List Entry) → Each (λ b. place b < k + suc r) t → Each (λ b. place b < k + 1 + r) t
    wide t = each_map (λ b. place b < k + suc r) (λ b. place b < k + 1 + r) (λ b p. omega arith) t

    go : Back (a ∷ l) → Back l → Dec (place a ≡ k) → placed k (f k) ++ listed (k + 1) (list_from (k + 1) r f) ≡ a ∷ l
    go later next (yes e) =
        let row : k / 12 ≡ a.row = omega (arith, o.0.column) in
        let column : k % 12 ≡ a.column = omega (arith, o.0.column) in
        let value : f k ≡ a.value = h k (omega arith) (omega arith) ∙ look_hit a l (k / 12) (k % 12) (sym row) (sym column) in
        rw (placed_one k (f k) (λ z. o.0.value (sym value ∙ z)), row, column, value)
        (ap (λ (t : List Entry). a ∷ t)
        (next (rw e at o.1) (wide l w.1) (λ i p q. h i (omega arith) (omega arith) ∙ look_miss a l (i / 12) (i % 12) (λ b c. omega arith))))
    go later next (no e) =
        rw (placed-none k (f k) (h k (omega arith) (omega arith) ∙ look_miss a l (k / 12) (k % 12) (λ b c. e (omega arith))
        ∙ look_before (place a + 1) l o.1 (k / 12) (k % 12) (omega arith) (omega (arith, o.0.from))))
        (later (
          record { column = o.0.column; value = o.0.value; from = omega (arith, o.0.from) },
          o.1,
        ) (wide (a ∷ l) w) (λ i p q. h i (omega arith) (omega arith)))

-- entries at rising places inside the twelve rows are those of their matrix
pub entries-back : (l : List Entry) → Ordered 0 l → Each (λ a. place a < 144) l → entries_of (matrix_of l) ≡ l
unfolding entries_of flat
entries-back l o w = listed_back 144 0 (λ k. matrix_of l (k / 12) (k % 12)) l o w (λ i _ _. refl)
