-- Laws of the entries of an array, one place or one row after the other, and of their bytes. Assumes nothing.
use Prim.Native.Nat.{◌%◌, ◌*◌, ◌+◌, ◌/◌, ◌<◌, suc, ℕ}
use mathlib.Core.List.{List, [], ◌++◌, ◌∷◌, append_assoc, append-nil}
use mathlib.Core.Path.{◌∙◌, ◌≡◌, ap, refl, sym}
use native.Mathlib.Decide.{ℕ_discrete}
use native.Mathlib.Nat.{add_assoc, add-zero}
use native.Mathlib.Omega.{arith}
use borrow.Author.Tests.{eq-eqb, ne_eqb}
use lib.ListN.{drop, get_or, length, length-append, set}
use Rattle.frame.specs.Entries.{entries_bytes, entries_of, entry_bytes, listed, placed}
use Rattle.frame.specs.declared.entries.Entry.{Entry}
use Rattle.matrix.proofs.Array.{count-flat, length-flat, place-column, place-row}
use Rattle.matrix.proofs.Matrix.{non_zero-none, non_zero-one}
use Rattle.matrix.proofs.Sums.{sum_first}
use Rattle.matrix.specs.Array.{flat}
use Rattle.matrix.specs.Matrix.{Matrix, count, non_zero, sum}
use Rattle.wire.proofs.Bytes.{put-nil, rest}
use Rattle.wire.specs.Bytes.{le32, put}

pub length-entry : (a : Entry) → length (entry_bytes a) ≡ 6
unfolding entry_bytes le32
length-entry a = refl

pub length-entries : (l : List Entry) → length (entries_bytes l) ≡ 6 * length l
unfolding entries_bytes
length-entries [] = refl
length-entries (a ∷ l) = rw (length-append, length-entry, length-entries l) (omega arith)

pub entries_append : (l r : List Entry) → entries_bytes (l ++ r) ≡ entries_bytes l ++ entries_bytes r
unfolding entries_bytes
entries_append [] r = refl
entries_append (a ∷ l) r = rw (entries_append l r, append_assoc)

-- a place that is zero has no entry, and another has one
pub placed-none : (k v : ℕ) → v ≡ 0 → placed k v ≡ []
unfolding placed
placed-none k v e = simp (eq-eqb v 0 e)

pub placed_one : (k v : ℕ) → (v ≡ 0 → ⊥) → placed k v ≡ record { row = k / 12; column = k % 12; value = v } ∷ []
unfolding placed
placed_one k v h = simp (ne_eqb v 0 h)

pub length-placed : (k v : ℕ) → length (placed k v) ≡ non_zero v
length-placed k v = go (ℕ_discrete v 0)
  where
    go : Dec (v ≡ 0) → length (placed k v) ≡ non_zero v
    go (yes e) = rw (placed-none k v e) (sym (non_zero-none v e))
    go (no h) = rw (placed_one k v h) (sym (non_zero-one v h))

pub length-listed : (k : ℕ) (l : List ℕ) → length (listed k l) ≡ sum (length l) (λ i. non_zero (get_or l i 0))
unfolding listed
length-listed k [] = refl
length-listed k (v ∷ l) =
    length-append (placed k v) (listed (k + 1) l) ∙ omega (
      arith,
      length-placed k v,
      length-listed (k + 1) l,
      sum_first (length l) (λ i. non_zero (get_or (v ∷ l) i 0)),
    )

-- there are as many entries as the matrix has
pub length-entries_of : (m : Matrix) → length (entries_of m) ≡ count m
unfolding entries_of
length-entries_of m = length-listed 0 (flat m) ∙ rw length-flat (count-flat m)

-- an array in two parts, and one place after the other
pub listed_append : (k : ℕ) (a b : List ℕ) → listed k (a ++ b) ≡ listed k a ++ listed (k + length a) b
unfolding listed
listed_append k [] b = rw add-zero
listed_append k (v ∷ a) b =
    let e : k + 1 + length a ≡ k + suc (length a) = omega arith in
    rw (listed_append (k + 1) a b, e, append_assoc)

pub listed-rest : (k y : ℕ) (r : List ℕ) → y < length r → listed (k + y) (drop y r) ≡ placed (k + y) (get_or r y 0) ++ listed (k + (y + 1)) (drop (y + 1) r)
unfolding listed
listed-rest k y r h = rw (rest r y h, add_assoc)

-- the entry of a place by its row and column
pub placed_at : (x y v : ℕ) → y < 12 → (v ≡ 0 → ⊥) → placed (12 * x + y) v ≡ record { row = x; column = y; value = v } ∷ []
placed_at x y v h z = placed_one (12 * x + y) v z ∙ rw (place-row x y h, place-column x y h)

-- no entry written, and one
pub put-none : (o : List ℕ) (at : ℕ) → put o at (entries_bytes []) ≡ o
unfolding entries_bytes
put-none o at = put-nil o at

pub put-single : (o : List ℕ) (at : ℕ) (a : Entry) → put o at (entries_bytes (a ∷ [])) ≡ put o at (entry_bytes a)
unfolding entries_bytes
put-single o at a = rw append-nil

-- an entry written field by field
pub put-entry : (o : List ℕ) (at : ℕ) (a : Entry) → put (set (set o at a.row) (at + 1) a.column) (at + 2) (le32 a.value) ≡ put o at (entry_bytes a)
unfolding put entry_bytes
put-entry o at a =
    let e : at + 2 ≡ at + 1 + 1 = omega arith in
    ap (λ (k : ℕ). put (set (set o at a.row) (at + 1) a.column) k (le32 a.value)) e
