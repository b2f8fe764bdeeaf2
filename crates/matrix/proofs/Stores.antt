-- What the stores of the code make of an array: a column cleared row by row, and one entry merged. Assumes nothing.
use Prim.Native.Nat.{◌*◌, ◌+◌, ◌<◌, max, suc, ℕ}
use mathlib.Core.Bool.{◌&&◌, cond}
use mathlib.Core.List.{List}
use mathlib.Core.Path.{◌∙◌, ◌≡◌, sym}
use native.Mathlib.Decide.{dec_lt, ℕ_discrete}
use native.Mathlib.Omega.{arith}
use lib.Dec.{eqb, eqb_refl, eqb→eq, ltb, ltb→lt, lt→ltb, not_T}
use lib.ListN.{get_or, length, set}
use Rattle.matrix.proofs.Array.{entry_in, flat_back, flat_ext, set-entry, set-flat, stored, stored_else, stored_here}
use Rattle.matrix.proofs.Matrix.{clear-gone, clear_keep, clear-mine, merge-kept}
use Rattle.matrix.specs.Array.{entry, flat}
use Rattle.matrix.specs.Matrix.{Matrix, clear, merge, single}
use Rattle.wire.proofs.Tests.{T_and, and_T, cond_no, cond_yes}

-- column j zero in the rows before r
unfoldable pub emptied : ℕ → ℕ → Matrix → Matrix
emptied r j m x y = cond (eqb y j && ltb x r) 0 (m x y)

emptied_in : (r j : ℕ) (m : Matrix) (x : ℕ) → x < r → emptied r j m x j ≡ 0
unfolding emptied
emptied_in r j m x h = cond_yes (eqb j j && ltb x r) 0 (m x j) (T_and (eqb j j) (ltb x r) (eqb_refl j) (lt→ltb x r h))

emptied-out : (r j : ℕ) (m : Matrix) (x y : ℕ) → (y ≡ j → x < r → ⊥) → emptied r j m x y ≡ m x y
unfolding emptied
emptied-out r j m x y h =
    cond_no (eqb y j && ltb x r) 0 (m x y) (not_T (eqb y j && ltb x r) (λ t. let p = and_T (eqb y j) (ltb x r) t in h (eqb→eq y j p.0) (ltb→lt x r p.1)))

-- before the first row, after one row more, and once row i is counted up
pub emptied_none : (l : List ℕ) (j : ℕ) → length l ≡ 144 → l ≡ flat (emptied 0 j (entry l))
emptied_none l j e = sym (flat_back l e) ∙ flat_ext (entry l) (emptied 0 j (entry l)) (λ x y _ _. sym (emptied-out 0 j (entry l) x y (λ _ h. omega arith)))

pub emptied_more : (m : Matrix) (r j : ℕ) → r < 12 → j < 12 → set (flat (emptied r j m)) (12 * r + j) 0 ≡ flat (emptied (r + 1) j m)
emptied_more m r j h k =
    set-flat (emptied r j m) r j 0 h k
    ∙ flat_ext (stored r j 0 (emptied r j m)) (emptied (r + 1) j m) (λ x y _ _. go x y (ℕ_discrete y j) (ℕ_discrete x r) (dec_lt x r))
  where
    go : (x y : ℕ) → Dec (y ≡ j) → Dec (x ≡ r) → Dec (x < r) → stored r j 0 (emptied r j m) x y ≡ emptied (r + 1) j m x y
    go x y (yes p) (yes q) d = rw (p, q, stored_here) (sym (emptied_in (r + 1) j m r (omega arith)))
    go x y (yes p) (no q) (yes d) =
        rw p (stored_else r j 0 (emptied r j m) x j (λ a _. q a) ∙ emptied_in r j m x d ∙ sym (emptied_in (r + 1) j m x (omega arith)))
    go x y (yes p) (no q) (no d) =
        stored_else r j 0 (emptied r j m) x y (λ a _. q a) ∙ emptied-out r j m x y (λ _ a. d a) ∙ sym (emptied-out (r + 1) j m x y (λ _ a. omega arith))
    go x y (no p) e d = stored_else r j 0 (emptied r j m) x y (λ _ b. p b) ∙ emptied-out r j m x y (λ a _. p a) ∙ sym (emptied-out (r + 1) j m x y (λ a _. p a))

pub emptied-clear : (m : Matrix) (i j v : ℕ) → i < 12 → j < 12 → v ≡ suc (m i j) → set (flat (emptied 12 j m)) (12 * i + j) v ≡ flat (clear i j m)
emptied-clear m i j v h k e =
    set-flat (emptied 12 j m) i j v h k ∙ flat_ext (stored i j v (emptied 12 j m)) (clear i j m) (λ x y a _. go x y a (ℕ_discrete y j) (ℕ_discrete x i))
  where
    go : (x y : ℕ) → x < 12 → Dec (y ≡ j) → Dec (x ≡ i) → stored i j v (emptied 12 j m) x y ≡ clear i j m x y
    go x y a (yes p) (yes q) = rw (p, q, stored_here, e) (sym (clear-mine i j m))
    go x y a (yes p) (no q) = rw p (stored_else i j v (emptied 12 j m) x j (λ r _. q r) ∙ emptied_in 12 j m x a ∙ sym (clear-gone i j m x q))
    go x y a (no p) d = stored_else i j v (emptied 12 j m) x y (λ _ r. p r) ∙ emptied-out 12 j m x y (λ r _. p r) ∙ sym (clear_keep i j m x y p)

pub emptied_done : (l e : List ℕ) (i j r : ℕ) → e ≡ flat (emptied r j (entry l)) → r ≡ 12 → i < 12 → j < 12
    → set e (12 * i + j) (get_or l (12 * i + j) 0 + 1) ≡ flat (clear i j (entry l))
emptied_done l e i j r p q h k =
    rw (p, q) (emptied-clear (entry l) i j (get_or l (12 * i + j) 0 + 1) h k (omega (arith, entry_in l i j h k)))

-- one entry
pub single-here : (a b v : ℕ) → single a b v a b ≡ v
unfolding single
single-here a b v = cond_yes (eqb a a && eqb b b) v 0 (T_and (eqb a a) (eqb b b) (eqb_refl a) (eqb_refl b))

pub single_else : (a b v x y : ℕ) → (x ≡ a → y ≡ b → ⊥) → single a b v x y ≡ 0
unfolding single
single_else a b v x y h =
    cond_no (eqb x a && eqb y b) v 0 (not_T (eqb x a && eqb y b) (λ t. let p = and_T (eqb x a) (eqb y b) t in h (eqb→eq x a p.0) (eqb→eq y b p.1)))

-- it stays in the node's own column, and becomes the larger one in another
pub merge_one : (l : List ℕ) (j x y v : ℕ) → length l ≡ 144 → x < 12 → y < 12
    → set l (12 * x + y) (cond (eqb y j) (get_or l (12 * x + y) 0) (max (get_or l (12 * x + y) 0) v)) ≡ flat (merge j (entry l) (single x y v))
unfolding merge
merge_one l j x y v e h k =
    set-entry l x y w e h k ∙ flat_ext (stored x y w (entry l)) (merge j (entry l) (single x y v)) (λ a b _ _. go a b (ℕ_discrete a x) (ℕ_discrete b y))
  where
    w : ℕ
    w = cond (eqb y j) (get_or l (12 * x + y) 0) (max (get_or l (12 * x + y) 0) v)

    here : w ≡ merge j (entry l) (single x y v) x y
    here = rw (single-here x y v, entry_in l x y h k)

    else : (a b : ℕ) → (a ≡ x → b ≡ y → ⊥) → stored x y w (entry l) a b ≡ merge j (entry l) (single x y v) a b
    else a b o = stored_else x y w (entry l) a b o ∙ sym (merge-kept j (entry l) (single x y v) a b (single_else x y v a b o))

    go : (a b : ℕ) → Dec (a ≡ x) → Dec (b ≡ y) → stored x y w (entry l) a b ≡ merge j (entry l) (single x y v) a b
    go a b (yes q) (yes r) = rw (q, r, stored_here) here
    go a b (yes q) (no r) = else a b (λ _ s. r s)
    go a b (no q) d = else a b (λ s _. q s)
