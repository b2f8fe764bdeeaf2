-- Laws of the array of a matrix: its length, its elements, a store into it, and how its non-zero elements are counted. Assumes nothing.
use Prim.Native.Nat.{◌%◌, ◌*◌, ◌+◌, ◌-◌, ◌/◌, ◌<◌, ◌≤◌, suc, zero, ℕ}
use mathlib.Core.Bool.{◌&&◌, cond}
use mathlib.Core.List.{List, ◌∷◌}
use mathlib.Core.Path.{◌∙◌, ◌≡◌, ap, ap₂, fun_ext, refl, sym}
use native.Mathlib.Decide.{dec_lt, ℕ_discrete}
use native.Mathlib.Nat.{add-zero, sub-zero, zero-add}
use native.Mathlib.Omega.{arith}
use lib.Dec.{eqb, eqb_refl, eqb→eq, ltb, ltb→lt, lt→ltb, not_T}
use lib.ListN.{drop, get_or, length, length-set, set, take}
use lib.Seq.{ext_get_or, get_or-set_other, get_or-set_same}
use Rattle.matrix.proofs.Sums.{sum_rows, sum_swap, sum_upto}
use Rattle.matrix.specs.Array.{entry, flat, list_from, vector}
use Rattle.matrix.specs.Matrix.{Matrix, column_count, count, non_zero, sum}
use Rattle.wire.proofs.Bytes.{rest}
use Rattle.wire.proofs.Tests.{T_and, and_T, cond_no, cond_yes}

-- the list f k, .. of r elements
pub length_list : (k r : ℕ) (f : ℕ → ℕ) → length (list_from k r f) ≡ r
length_list k zero f = refl
length_list k (suc r) f = ap suc (length_list (k + 1) r f)

pub get_or_list : (k r : ℕ) (f : ℕ → ℕ) (i : ℕ) → i < r → get_or (list_from k r f) i 0 ≡ f (k + i)
get_or_list k zero f i h = absurd (omega arith)
get_or_list k (suc r) f zero h = rw add-zero
get_or_list k (suc r) f (suc i) h =
    let e : k + 1 + i ≡ k + suc i = omega arith in
    get_or_list (k + 1) r f i (omega arith) ∙ ap f e

pub vector_list : (f : ℕ → ℕ) (x : ℕ) → x < 12 → vector (list_from 0 12 f) x ≡ f x
vector_list f x h = get_or_list 0 12 f x h ∙ ap f (zero-add x)

pub list_ext : (k r : ℕ) (f g : ℕ → ℕ) → ((i : ℕ) → k ≤ i → i < k + r → f i ≡ g i) → list_from k r f ≡ list_from k r g
list_ext k zero f g h = refl
list_ext k (suc r) f g h = ap₂ ◌∷◌ (h k (omega arith) (omega arith)) (list_ext (k + 1) r f g (λ i a b. h i (omega arith) (omega arith)))

-- a part of the list f k, ..
pub drop_list : (a k r : ℕ) (f : ℕ → ℕ) → a ≤ r → drop a (list_from k r f) ≡ list_from (k + a) (r - a) f
drop_list zero k r f h = rw (add-zero, sub-zero)
drop_list (suc a) k zero f h = absurd (omega arith)
drop_list (suc a) k (suc r) f h =
    let e : k + 1 + a ≡ k + suc a = omega arith in
    let d : suc r - suc a ≡ r - a = omega arith in
    drop_list a (k + 1) r f (omega arith) ∙ rw (e, d)

pub take_list : (a k r : ℕ) (f : ℕ → ℕ) → a ≤ r → take a (list_from k r f) ≡ list_from k a f
take_list zero k r f h = refl
take_list (suc a) k zero f h = absurd (omega arith)
take_list (suc a) k (suc r) f h = ap (λ (l : List ℕ). f k ∷ l) (take_list a (k + 1) r f (omega arith))

-- a part of a list, element by element
pub list_run : (r k : ℕ) (s : List ℕ) → k + r ≤ length s → list_from k r (λ i. get_or s i 0) ≡ take r (drop k s)
list_run zero k s h = refl
list_run (suc r) k s h = rw (rest s k (omega arith)) (ap (λ (t : List ℕ). get_or s k 0 ∷ t) (list_run r (k + 1) s (omega arith)))

-- the place of row x and column y
pub place-row : (x y : ℕ) → y < 12 → (12 * x + y) / 12 ≡ x
place-row x y h = omega arith

pub place-column : (x y : ℕ) → y < 12 → (12 * x + y) % 12 ≡ y
place-column x y h = omega arith

pub length-flat : (m : Matrix) → length (flat m) ≡ 144
unfolding flat
length-flat m = length_list 0 144 (λ k. m (k / 12) (k % 12))

pub get_or-flat : (m : Matrix) (k : ℕ) → k < 144 → get_or (flat m) k 0 ≡ m (k / 12) (k % 12)
unfolding flat
get_or-flat m k h = get_or_list 0 144 (λ k. m (k / 12) (k % 12)) k h ∙ ap (λ (i : ℕ). m (i / 12) (i % 12)) (zero-add k)

-- inside the twelve rows and columns an array has the elements of its matrix, and outside them zero
pub entry_in : (l : List ℕ) (x y : ℕ) → x < 12 → y < 12 → entry l x y ≡ get_or l (12 * x + y) 0
unfolding entry
entry_in l x y h k = cond_yes (ltb x 12 && ltb y 12) (get_or l (12 * x + y) 0) 0 (T_and (ltb x 12) (ltb y 12) (lt→ltb x 12 h) (lt→ltb y 12 k))

pub entry-out : (l : List ℕ) (x y : ℕ) → (x < 12 → y < 12 → ⊥) → entry l x y ≡ 0
unfolding entry
entry-out l x y h =
    cond_no (ltb x 12 && ltb y 12) (get_or l (12 * x + y) 0) 0
    (not_T (ltb x 12 && ltb y 12) (λ t. let p = and_T (ltb x 12) (ltb y 12) t in h (ltb→lt x 12 p.0) (ltb→lt y 12 p.1)))

pub entry_place : (l : List ℕ) (k : ℕ) → k < 144 → entry l (k / 12) (k % 12) ≡ get_or l k 0
entry_place l k h =
    let e : 12 * (k / 12) + k % 12 ≡ k = omega arith in
    entry_in l (k / 12) (k % 12) (omega arith) (omega arith) ∙ ap (λ (i : ℕ). get_or l i 0) e

pub entry-flat : (m : Matrix) (x y : ℕ) → x < 12 → y < 12 → entry (flat m) x y ≡ m x y
entry-flat m x y h k = entry_in (flat m) x y h k ∙ get_or-flat m (12 * x + y) (omega arith) ∙ rw (place-row x y k, place-column x y k)

-- a matrix that is zero outside is that of its array
pub entry-back : (m : Matrix) → ((x y : ℕ) → (x < 12 → y < 12 → ⊥) → m x y ≡ 0) → entry (flat m) ≡ m
entry-back m z = fun_ext (λ x. fun_ext (λ y. go x y (dec_lt x 12) (dec_lt y 12)))
  where
    out : (x y : ℕ) → (x < 12 → y < 12 → ⊥) → entry (flat m) x y ≡ m x y
    out x y h = entry-out (flat m) x y h ∙ sym (z x y h)

    go : (x y : ℕ) → Dec (x < 12) → Dec (y < 12) → entry (flat m) x y ≡ m x y
    go x y (yes a) (yes b) = entry-flat m x y a b
    go x y (yes a) (no b) = out x y (λ _ q. b q)
    go x y (no a) d = out x y (λ q _. a q)

-- an array is that of its matrix, and two matrices that agree inside have one array
pub flat_back : (l : List ℕ) → length l ≡ 144 → flat (entry l) ≡ l
flat_back l e = ext_get_or 0 (flat (entry l)) l (length-flat (entry l) ∙ sym e) (λ k h. go k (rw length-flat at h))
  where
    go : (k : ℕ) → k < 144 → get_or (flat (entry l)) k 0 ≡ get_or l k 0
    go k h = get_or-flat (entry l) k h ∙ entry_place l k h

pub flat_ext : (f g : Matrix) → ((x y : ℕ) → x < 12 → y < 12 → f x y ≡ g x y) → flat f ≡ flat g
unfolding flat
flat_ext f g h = list_ext 0 144 (λ k. f (k / 12) (k % 12)) (λ k. g (k / 12) (k % 12)) (λ k _ l. h (k / 12) (k % 12) (omega arith) (omega arith))

-- one element stored
unfoldable pub stored : ℕ → ℕ → ℕ → Matrix → Matrix
stored a b v m x y = cond (eqb x a && eqb y b) v (m x y)

pub stored_here : (a b v : ℕ) (m : Matrix) → stored a b v m a b ≡ v
unfolding stored
stored_here a b v m = cond_yes (eqb a a && eqb b b) v (m a b) (T_and (eqb a a) (eqb b b) (eqb_refl a) (eqb_refl b))

pub stored_else : (a b v : ℕ) (m : Matrix) (x y : ℕ) → (x ≡ a → y ≡ b → ⊥) → stored a b v m x y ≡ m x y
unfolding stored
stored_else a b v m x y h =
    cond_no (eqb x a && eqb y b) v (m x y) (not_T (eqb x a && eqb y b) (λ t. let p = and_T (eqb x a) (eqb y b) t in h (eqb→eq x a p.0) (eqb→eq y b p.1)))

pub set-flat : (m : Matrix) (a b v : ℕ) → a < 12 → b < 12 → set (flat m) (12 * a + b) v ≡ flat (stored a b v m)
set-flat m a b v h k =
    ext_get_or 0 (set (flat m) (12 * a + b) v) (flat (stored a b v m)) (simp (length-set, length-flat))
    (λ i l. go i (rw (length-set, length-flat) at l) (ℕ_discrete i (12 * a + b)))
  where
    go : (i : ℕ) → i < 144 → Dec (i ≡ 12 * a + b) → get_or (set (flat m) (12 * a + b) v) i 0 ≡ get_or (flat (stored a b v m)) i 0
    go i l (yes e) =
        rw (
          e,
          get_or-set_same (flat m) (12 * a + b) v 0 (rw length-flat (omega arith)),
          get_or-flat (stored a b v m) (12 * a + b) (omega arith),
          place-row a b k,
          place-column a b k,
          stored_here,
        )
    go i l (no e) =
        get_or-set_other (flat m) (12 * a + b) i v 0 e ∙ get_or-flat m i l
        ∙ sym (get_or-flat (stored a b v m) i l ∙ stored_else a b v m (i / 12) (i % 12) (λ p q. e (omega arith)))

pub set-entry : (l : List ℕ) (a b v : ℕ) → length l ≡ 144 → a < 12 → b < 12 → set l (12 * a + b) v ≡ flat (stored a b v (entry l))
set-entry l a b v e h k = ap (λ (z : List ℕ). set z (12 * a + b) v) (sym (flat_back l e)) ∙ set-flat (entry l) a b v h k

-- the non-zero elements of an array, one after the other, are as many as its matrix has
pub count_array : (l : List ℕ) → sum 144 (λ k. non_zero (get_or l k 0)) ≡ count (entry l)
unfolding count column_count
count_array l =
    sum_upto 144 (λ k. non_zero (get_or l k 0)) (λ k. non_zero (entry l (k / 12) (k % 12))) (λ k h. ap non_zero (sym (entry_place l k h)))
    ∙ sum_rows (λ x y. non_zero (entry l x y)) 12
    ∙ sum_swap 12 12 (λ x y. non_zero (entry l x y))

-- matrices that agree inside have as many entries
pub count_ext : (f g : Matrix) → ((x y : ℕ) → x < 12 → y < 12 → f x y ≡ g x y) → count f ≡ count g
unfolding count column_count
count_ext f g h =
    sum_upto 12 (λ y. sum 12 (λ x. non_zero (f x y))) (λ y. sum 12 (λ x. non_zero (g x y)))
    (λ y l. sum_upto 12 (λ x. non_zero (f x y)) (λ x. non_zero (g x y)) (λ x k. ap non_zero (h x y k l)))

pub count-flat : (m : Matrix) → sum 144 (λ k. non_zero (get_or (flat m) k 0)) ≡ count m
count-flat m = count_array (flat m) ∙ count_ext (entry (flat m)) m (λ x y h k. entry-flat m x y h k)
