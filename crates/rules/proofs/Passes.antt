-- Laws of the passes: one turn of a loop that tests each number below a bound, and the passes over rows as passes over the array. Assumes nothing.
use Prim.Native.Nat.{◌%◌, ◌*◌, ◌+◌, ◌-◌, ◌/◌, ◌<◌, ◌≤◌, suc, zero, ℕ}
use mathlib.Core.Bool.{Bool, ◌&&◌, ◌||◌, and_assoc, false, not, true}
use mathlib.Core.List.{List}
use mathlib.Core.Path.{◌∙◌, ◌≡◌, ap, ap₂, refl, sym}
use native.Mathlib.Numerals.{add-one}
use native.Mathlib.Omega.{arith}
use native.Mathlib.Nat.{add-zero}
use borrow.Author.Tests.{le-ltb, lt-ltb}
use Rattle.std.specs.List.{list_all}
use Rattle.std.proofs.lemmas.List.Folds.{list_all_more}
use Rattle.std.proofs.Common.{length-drop, length-take-le, get_or-drop, get_or-take, take_all}
use lib.Dec.{T, eqb, lt→ltb, ltb, ltb→lt}
use lib.ListN.{drop, get_or, length, take}
use Rattle.matrix.proofs.Array.{entry_in, entry_place, place-column, place-row}
use Rattle.matrix.specs.Array.{entry, vector}
use Rattle.protocol.proofs.Below.{all-each, each_all}
use Rattle.protocol.specs.Node.{each_below, some_below}
use Rattle.wire.proofs.Tests.{T_and, and_T, same_test}

-- one turn
pub each_more : (k : ℕ) (p : ℕ → Bool) → each_below (k + 1) p ≡ (each_below k p && p k)
each_more k p = rw add-one

-- one turn of a search
pub some_more : (k : ℕ) (p : ℕ → Bool) → some_below (k + 1) p ≡ (some_below k p || p k)
some_more k p = rw add-one

-- one turn behind another pass, which gave r
pub each_after : (r : Bool) (k : ℕ) (p : ℕ → Bool) → (r && each_below k p && p k) ≡ (r && each_below (k + 1) p)
each_after r k p = rw add-one (and_assoc r (each_below k p) (p k))

-- tests that agree below k, and tests that hold there
pub each_ext : (k : ℕ) (p q : ℕ → Bool) → ((x : ℕ) → x < k → p x ≡ q x) → each_below k p ≡ each_below k q
each_ext zero p q h = refl
each_ext (suc k) p q h = ap₂ ◌&&◌ (each_ext k p q (λ x l. h x (omega arith))) (h k (omega arith))

pub each-true : (k : ℕ) (p : ℕ → Bool) → ((x : ℕ) → x < k → p x ≡ true) → each_below k p ≡ true
each-true zero p h = refl
each-true (suc k) p h = rw (each-true k p (λ x l. h x (omega arith)), h k (omega arith))

-- a pass over the array is a pass over the rows
pub each-place : (p : ℕ → ℕ → Bool) → each_below 144 (λ k. p (k / 12) (k % 12)) ≡ each_below 12 (λ x. each_below 12 (λ y. p x y))
each-place p = same_test (each_below 144 (λ k. p (k / 12) (k % 12))) (each_below 12 (λ x. each_below 12 (λ y. p x y))) rows places
  where
    rows : T (each_below 144 (λ k. p (k / 12) (k % 12))) → T (each_below 12 (λ x. each_below 12 (λ y. p x y)))
    rows t =
        all-each 12 (λ x. each_below 12 (λ y. p x y)) (λ x h. all-each 12 (λ y. p x y)
        (λ y l. rw (place-row x y l, place-column x y l) at (each_all 144 (λ k. p (k / 12) (k % 12)) t (12 * x + y) (omega arith))))

    places : T (each_below 12 (λ x. each_below 12 (λ y. p x y))) → T (each_below 144 (λ k. p (k / 12) (k % 12)))
    places t =
        all-each 144 (λ k. p (k / 12) (k % 12))
        (λ k h. each_all 12 (λ y. p (k / 12) y) (each_all 12 (λ x. each_below 12 (λ y. p x y)) t (k / 12) (omega arith)) (k % 12) (omega arith))

pub each-array : (p : ℕ → Bool) (l : List ℕ) → each_below 144 (λ k. p (get_or l k 0)) ≡ each_below 12 (λ x. each_below 12 (λ y. p (entry l x y)))
each-array p l =
    each_ext 144 (λ k. p (get_or l k 0)) (λ k. p (entry l (k / 12) (k % 12))) (λ k h. ap p (sym (entry_place l k h))) ∙ each-place (λ x y. p (entry l x y))

-- the places from row n on
place-before : (n k : ℕ) → ltb k (12 * n) ≡ ltb (k / 12) n
place-before n k =
    same_test (ltb k (12 * n)) (ltb (k / 12) n) (λ t. lt→ltb (k / 12) n (omega (arith, ltb→lt k (12 * n) t)))
    (λ t. lt→ltb k (12 * n) (omega (arith, ltb→lt (k / 12) n t)))

pub rows-array : (n : ℕ) (l : List ℕ)
    → each_below 144 (λ k. ltb k (12 * n) || eqb (get_or l k 0) 0) ≡ each_below 12 (λ x. each_below 12 (λ y. ltb x n || eqb (entry l x y) 0))
rows-array n l =
    each_ext 144 (λ k. ltb k (12 * n) || eqb (get_or l k 0) 0) (λ k. ltb (k / 12) n || eqb (entry l (k / 12) (k % 12)) 0)
    (λ k h. rw (place-before n k, entry_place l k h))
    ∙ each-place (λ x y. ltb x n || eqb (entry l x y) 0)

-- one cell: its row is before n or it is zero, and in a row before n its column is or it is zero
cell : (a b z : Bool) → T (a || z) → (T a → T (b || z)) → T (a && b || z)
cell true b z p f = f tt
cell false b z p f = p

cell_row : (a b z : Bool) → T (a && b || z) → T (a || z)
cell_row true b z t = tt
cell_row false b z t = t

cell-column : (a b z : Bool) → T a → T (a && b || z) → T (b || z)
cell-column true b z s t = t
cell-column false b z s t = absurd s

-- rows from n on, and columns from n on of the rows before n, are what is outside
pub outside : (n : ℕ) (e : ℕ → ℕ → ℕ) → n ≤ 12
    → (each_below 12 (λ x. each_below 12 (λ y. ltb x n || eqb (e x y) 0)) && each_below n (λ x. each_below 12 (λ y. ltb y n || eqb (e x y) 0)))
    ≡ each_below 12 (λ x. each_below 12 (λ y. ltb x n && ltb y n || eqb (e x y) 0))
outside n e h = same_test (each_below 12 rows && each_below n columns) (each_below 12 cells) there back
  where
    rows : ℕ → Bool
    rows x = each_below 12 (λ y. ltb x n || eqb (e x y) 0)

    columns : ℕ → Bool
    columns x = each_below 12 (λ y. ltb y n || eqb (e x y) 0)

    cells : ℕ → Bool
    cells x = each_below 12 (λ y. ltb x n && ltb y n || eqb (e x y) 0)

    there : T (each_below 12 rows && each_below n columns) → T (each_below 12 cells)
    there t =
        let p = and_T (each_below 12 rows) (each_below n columns) t in
        all-each 12 cells (λ x k. all-each 12 (λ y. ltb x n && ltb y n || eqb (e x y) 0)
        (λ y l. cell (ltb x n) (ltb y n) (eqb (e x y) 0) (each_all 12 (λ b. ltb x n || eqb (e x b) 0) (each_all 12 rows p.0 x k) y l)
        (λ s. each_all 12 (λ b. ltb b n || eqb (e x b) 0) (each_all n columns p.1 x (ltb→lt x n s)) y l)))

    back : T (each_below 12 cells) → T (each_below 12 rows && each_below n columns)
    back t =
        let at : (x : ℕ) → x < 12 → (y : ℕ) → y < 12 → T (ltb x n && ltb y n || eqb (e x y) 0)
        = λ x k. each_all 12 (λ y. ltb x n && ltb y n || eqb (e x y) 0) (each_all 12 cells t x k) in
        T_and (each_below 12 rows) (each_below n columns)
        (all-each 12 rows (λ x k. all-each 12 (λ y. ltb x n || eqb (e x y) 0) (λ y l. cell_row (ltb x n) (ltb y n) (eqb (e x y) 0) (at x k y l))))
        (all-each n columns (λ x k. all-each 12 (λ y. ltb y n || eqb (e x y) 0)
        (λ y l. cell-column (ltb x n) (ltb y n) (eqb (e x y) 0) (lt→ltb x n k) (at x (omega arith) y l))))

-- each number from i on
each_from : (r i : ℕ) (p : ℕ → Bool) → each_below (i + r) (λ k. ltb k i || p k) ≡ each_below r (λ k. p (i + k))
each_from zero i p = rw add-zero (each-true i (λ k. ltb k i || p k) (λ k h. rw (lt-ltb k i h)))
each_from (suc r) i p =
    let e : i + suc r ≡ suc (i + r) = omega arith in
    rw (e, le-ltb (i + r) i (omega arith)) (ap (λ (b : Bool). b && p (i + r)) (each_from r i p))

-- each element of a list, and each from place i on
take_places : (p : ℕ → Bool) (l : List ℕ) (k : ℕ) → k ≤ length l → list_all p (take k l) ≡ each_below k (λ i. p (get_or l i 0))
take_places p l zero h = refl
take_places p l (suc k) h =
    ap (λ (n : ℕ). list_all p (take n l)) (sym (add-one k)) ∙ list_all_more p l k 0 (omega arith) ∙ ap (λ (b : Bool). b && p (get_or l k 0)) (take_places p l k (omega arith))

pub all_places : (p : ℕ → Bool) (l : List ℕ) → list_all p l ≡ each_below (length l) (λ i. p (get_or l i 0))
all_places p l = ap (list_all p) (sym (take_all (length l) l (omega arith))) ∙ take_places p l (length l) (omega arith)

pub rest_places : (p : ℕ → Bool) (l : List ℕ) (i d : ℕ) → i ≤ length l → d ≡ length l - i
    → list_all p (take d (drop i l)) ≡ each_below (length l) (λ k. ltb k i || p (get_or l k 0))
rest_places p l i d h q =
    let e : i + (length l - i) ≡ length l = omega arith in
    ap (list_all p) (take_all d (drop i l) (omega (arith, length-drop i l)))
    ∙ all_places p (drop i l)
    ∙ rw length-drop (each_ext (length l - i) (λ k. p (get_or (drop i l) k 0)) (λ k. p (get_or l (i + k) 0)) (λ k _. rw get_or-drop))
    ∙ sym (each_from (length l - i) i (λ k. p (get_or l k 0))) ∙ ap (λ (n : ℕ). each_below n (λ k. ltb k i || p (get_or l k 0))) e

-- a row of an array, and its part from place i on
row_length : (l : List ℕ) (x d : ℕ) → length l ≡ 144 → x < 12 → d ≡ 12 → length (take d (drop (12 * x) l)) ≡ 12
row_length l x d e h q = length-take-le d (drop (12 * x) l) (omega (arith, length-drop (12 * x) l)) ∙ q

row_get_or : (l : List ℕ) (x y d : ℕ) → x < 12 → y < 12 → d ≡ 12 → get_or (take d (drop (12 * x) l)) y 0 ≡ entry l x y
row_get_or l x y d h k q = get_or-take d (drop (12 * x) l) y 0 (omega arith) ∙ rw get_or-drop (sym (entry_in l x y h k))

pub row_places : (p : ℕ → Bool) (l : List ℕ) (x d : ℕ) → length l ≡ 144 → x < 12 → d ≡ 12
    → list_all p (take d (drop (12 * x) l)) ≡ each_below 12 (λ y. p (entry l x y))
row_places p l x d e h q =
    let r = take d (drop (12 * x) l) in
    all_places p r ∙ ap (λ (n : ℕ). each_below n (λ y. p (get_or r y 0))) (row_length l x d e h q)
    ∙ each_ext 12 (λ y. p (get_or r y 0)) (λ y. p (entry l x y)) (λ y k. ap p (row_get_or l x y d h k q))

pub row_rest : (p : ℕ → Bool) (l : List ℕ) (x d i e : ℕ) → length l ≡ 144 → x < 12 → d ≡ 12 → i ≤ 12 → e ≡ d - i
    → list_all p (take e (drop i (take d (drop (12 * x) l)))) ≡ each_below 12 (λ y. ltb y i || p (entry l x y))
row_rest p l x d i j e h q k o =
    let r = take d (drop (12 * x) l) in
    let n = row_length l x d e h q in
    rest_places p r i j (omega (arith, n)) (omega (arith, n)) ∙ ap (λ (n : ℕ). each_below n (λ y. ltb y i || p (get_or r y 0))) n
    ∙ each_ext 12 (λ y. ltb y i || p (get_or r y 0)) (λ y. ltb y i || p (entry l x y)) (λ y k. ap (λ (v : ℕ). ltb y i || p v) (row_get_or l x y d h k q))

-- not each fails a test: some passes it
pub not_each : (k : ℕ) (p : ℕ → Bool) → not (each_below k (λ i. not (p i))) ≡ some_below k p
not_each zero p = refl
not_each (suc k) p = not_and (each_below k (λ i. not (p i))) (p k) ∙ ap (λ (b : Bool). b || p k) (not_each k p)
  where
    not_and : (a b : Bool) → not (a && not b) ≡ (not a || b)
    not_and true true = refl
    not_and true false = refl
    not_and false b = refl

-- all of an array, and its rows from n on
pub array_places : (p : ℕ → Bool) (l : List ℕ) → length l ≡ 144 → list_all p l ≡ each_below 12 (λ x. each_below 12 (λ y. p (entry l x y)))
array_places p l e = all_places p l ∙ ap (λ (n : ℕ). each_below n (λ i. p (get_or l i 0))) e ∙ each-array p l

pub array_rest : (l : List ℕ) (n d : ℕ) → length l ≡ 144 → n ≤ 12 → d ≡ 144 - 12 * n
    → list_all (λ v. eqb v 0) (take d (drop (12 * n) l)) ≡ each_below 12 (λ x. each_below 12 (λ y. ltb x n || eqb (entry l x y) 0))
array_rest l n d e h q =
    rest_places (λ v. eqb v 0) l (12 * n) d (omega arith) (omega arith) ∙ ap (λ (k : ℕ). each_below k (λ i. ltb i (12 * n) || eqb (get_or l i 0) 0)) e ∙ rows-array n l

-- all of a vector, and its counts from n on
pub vector_places : (p : ℕ → Bool) (l : List ℕ) → length l ≡ 12 → list_all p l ≡ each_below 12 (λ x. p (vector l x))
vector_places p l e = all_places p l ∙ ap (λ (n : ℕ). each_below n (λ i. p (get_or l i 0))) e

pub vector_rest : (p : ℕ → Bool) (l : List ℕ) (n d : ℕ) → length l ≡ 12 → n ≤ 12 → d ≡ 12 - n → list_all p (take d (drop n l)) ≡ each_below 12 (λ x. ltb x n || p (vector l x))
vector_rest p l n d e h q = rest_places p l n d (omega arith) (omega arith) ∙ ap (λ (k : ℕ). each_below k (λ i. ltb i n || p (get_or l i 0))) e
