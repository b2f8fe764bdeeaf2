-- A loop that writes entries: what is written and what is left make the whole. And how the entries of an array go row by row. Assumes nothing.
use Prim.Native.Nat.{◌%◌, ◌*◌, ◌+◌, ◌-◌, ◌/◌, ◌<◌, ◌≤◌, suc, zero, ℕ}
use mathlib.Core.List.{List, [], ◌∷◌, ◌++◌, append-nil}
use mathlib.Core.Path.{◌∙◌, ◌≡◌, ap, refl, sym}
use native.Mathlib.Decide.{ℕ_discrete}
use native.Mathlib.Nat.{zero-add}
use native.Mathlib.Omega.{arith}
use lib.ListN.{drop, drop_of_length-le, get_or, length, length-append, length-drop, take, take-append-drop}
use lib.Seq.{drop-drop, get_or-drop, get_or-take, length-take-le}
use Rattle.frame.proofs.EntryLists.{entries_append, length-entries, listed_append, listed-rest, placed-none, put-none}
use Rattle.frame.specs.Entries.{entries_bytes, listed, placed}
use Rattle.frame.specs.declared.entries.Entry.{Entry}
use Rattle.matrix.proofs.Array.{drop_list, entry_in, length-flat, place-column, place-row, take_list}
use Rattle.matrix.proofs.Matrix.{only_col, only_zero}
use Rattle.matrix.specs.Array.{entry, flat, list_from}
use Rattle.matrix.specs.Matrix.{Matrix, only}
use Rattle.wire.proofs.Bytes.{length-put, put_append}
use Rattle.wire.specs.Bytes.{put}

-- of the entries `whole`, to be written over o₀ from `at` on, those in `left` are still to be written over o from `pos` on
pub record Writing (o₀ : List ℕ) (at : ℕ) (whole : List Entry) (o : List ℕ) (pos : ℕ) (left : List Entry) : Type 0 where
  pub same : length o ≡ length o₀
  pub place : pos + 6 * length left ≡ at + 6 * length whole
  pub bytes : put o pos (entries_bytes left) ≡ put o₀ at (entries_bytes whole)

pub writing_start : (o₀ : List ℕ) (at : ℕ) (whole : List Entry) → Writing o₀ at whole o₀ at whole
writing_start o₀ at whole = record { same = refl; place = refl; bytes = refl }

-- the first of those that are left are written
pub writing_part : (o₀ : List ℕ) (at : ℕ) (whole : List Entry) (o : List ℕ) (pos : ℕ) (left first later : List Entry) (o' : List ℕ) (pos' : ℕ)
    → Writing o₀ at whole o pos left
    → left ≡ first ++ later → o' ≡ put o pos (entries_bytes first) → pos' ≡ pos + 6 * length first → Writing o₀ at whole o' pos' later
writing_part o₀ at whole o pos left first later o' pos' w e p q =
    record {
      same = ap length p ∙ length-put o pos (entries_bytes first) ∙ w.same;
      place = omega (arith, w.place, ap length e ∙ length-append first later);
      bytes =
          rw (p, q, ← length-entries first, ← put_append o pos (entries_bytes first) (entries_bytes later), ← entries_append first later, ← e) w.bytes;
    }

pub writing_room : (o₀ : List ℕ) (at : ℕ) (whole : List Entry) (o : List ℕ) (pos : ℕ) (left first later : List Entry) → Writing o₀ at whole o pos left
    → left ≡ first ++ later → at + 6 * length whole ≤ length o₀ → pos + 6 * length first ≤ length o
writing_room o₀ at whole o pos left first later w e h = omega (arith, w.same, w.place, ap length e ∙ length-append first later)

-- none is left
pub writing_end : (o₀ : List ℕ) (at : ℕ) (whole : List Entry) (o : List ℕ) (pos : ℕ) (left : List Entry) → Writing o₀ at whole o pos left → left ≡ []
    → (pos ≡ at + 6 * length whole) × (o ≡ put o₀ at (entries_bytes whole))
writing_end o₀ at whole o pos left w e =
    (omega (arith, w.place, ap length e), sym (put-none o pos) ∙ ap (λ (l : List Entry). put o pos (entries_bytes l)) (sym e) ∙ w.bytes)

-- nothing is left once the place behind the whole is reached
pub writing_all : (o₀ : List ℕ) (at : ℕ) (whole : List Entry) (o : List ℕ) (pos : ℕ) (left : List Entry) → Writing o₀ at whole o pos left
    → at + 6 * length whole ≤ pos → left ≡ []
writing_all o₀ at whole o pos [] w h = refl
writing_all o₀ at whole o pos (a ∷ left) w h = absurd (omega (arith, w.place))

-- row x of an array
abbrev pub row_of : List ℕ → ℕ → List ℕ
row_of m x = take 12 (drop (12 * x) m)

pub length-row : (m : List ℕ) (x : ℕ) → length m ≡ 144 → x < 12 → length (row_of m x) ≡ 12
length-row m x e h = length-take-le 12 (drop (12 * x) m) (simp length-drop (omega arith))

pub get_or-row : (m : List ℕ) (x y : ℕ) → y < 12 → get_or (row_of m x) y 0 ≡ get_or m (12 * x + y) 0
get_or-row m x y h = get_or-take 12 (drop (12 * x) m) y 0 h ∙ get_or-drop (12 * x) m y 0

-- one place of a row, and its end
pub row-rest : (m : List ℕ) (x y : ℕ) → length m ≡ 144 → x < 12 → y < 12
    → listed (12 * x + y) (drop y (row_of m x)) ≡ placed (12 * x + y) (get_or m (12 * x + y) 0) ++ listed (12 * x + (y + 1)) (drop (y + 1) (row_of m x))
row-rest m x y e h k = rw (← get_or-row m x y k) (listed-rest (12 * x) y (row_of m x) (rw (length-row m x e h) k))

pub listed_nil : (k : ℕ) → listed k [] ≡ []
unfolding listed
listed_nil k = refl

pub row-end : (m : List ℕ) (x y : ℕ) → length m ≡ 144 → x < 12 → 12 ≤ y → listed (12 * x + y) (drop y (row_of m x)) ≡ []
row-end m x y e h k = ap (listed (12 * x + y)) (drop_of_length-le (row_of m x) {i = y} (rw (length-row m x e h) k)) ∙ listed_nil (12 * x + y)

-- one row of an array, and the end of its rows
pub rows-rest : (m : List ℕ) (x : ℕ) → length m ≡ 144 → x < 12
    → listed (12 * x) (drop (12 * x) m) ≡ listed (12 * x) (row_of m x) ++ listed (12 * (x + 1)) (drop (12 * (x + 1)) m)
rows-rest m x e h =
    let next : 12 * x + 12 ≡ 12 * (x + 1) = omega arith in
    ap (listed (12 * x)) (sym (take-append-drop 12 (drop (12 * x) m)))
    ∙ listed_append (12 * x) (row_of m x) (drop 12 (drop (12 * x) m))
    ∙ rw (length-row m x e h, drop-drop 12 (12 * x) m, next)

pub rows_end : (m : List ℕ) (x : ℕ) → length m ≡ 144 → 12 ≤ x → listed (12 * x) (drop (12 * x) m) ≡ []
rows_end m x e h = ap (listed (12 * x)) (drop_of_length-le m {i = 12 * x} (omega arith)) ∙ listed_nil (12 * x)

-- the entries of a run of places that are zero but for one
none-placed : (r k : ℕ) (f : ℕ → ℕ) → ((i : ℕ) → k ≤ i → i < k + r → f i ≡ 0) → listed k (list_from k r f) ≡ []
unfolding listed
none-placed zero k f z = refl
none-placed (suc r) k f z =
    rw (placed-none k (f k) (z k (omega arith) (omega arith))) (none-placed r (k + 1) f (λ i a b. z i (omega arith) (omega arith)))

one_placed : (r k j : ℕ) (f : ℕ → ℕ) → k ≤ j → j < k + r → ((i : ℕ) → (i ≡ j → ⊥) → k ≤ i → i < k + r → f i ≡ 0) → listed k (list_from k r f) ≡ placed j (f j)
unfolding listed
one_placed zero k j f a b z = absurd (omega arith)
one_placed (suc r) k j f a b z = go (ℕ_discrete k j) (λ c. one_placed r (k + 1) j f c (omega arith) (λ i n p q. z i n (omega arith) (omega arith)))
  where
    go : Dec (k ≡ j) → (k + 1 ≤ j → listed (k + 1) (list_from (k + 1) r f) ≡ placed j (f j))
        → placed k (f k) ++ listed (k + 1) (list_from (k + 1) r f) ≡ placed j (f j)
    go (yes e) ih = rw (none-placed r (k + 1) f (λ i p q. z i (omega arith) (omega arith) (omega arith)), append-nil, e)
    go (no n) ih = rw (placed-none k (f k) (z k n (omega arith) (omega arith))) (ih (omega arith))

-- a row of a matrix with one column
pub row-only : (m : Matrix) (l x : ℕ) → l < 12 → x < 12 → listed (12 * x) (row_of (flat (only l m)) x) ≡ placed (12 * x + l) (m x l)
unfolding flat
row-only m l x h k =
    ap (λ (r : List ℕ). listed (12 * x) (take 12 r)) (drop_list (12 * x) 0 144 f (omega arith))
    ∙ ap (listed (12 * x)) (rw zero-add (take_list 12 (12 * x) (144 - 12 * x) f (omega arith)))
    ∙ one_placed 12 (12 * x) (12 * x + l) f (omega arith) (omega arith) (λ i n a b. only_zero l m (i / 12) (i % 12) (λ e. n (omega arith)))
    ∙ ap (placed (12 * x + l)) (rw (place-row x l h, place-column x l h) (only_col l m x))
  where
    f : ℕ → ℕ
    f i = only l m (i / 12) (i % 12)

-- one row of a column
pub column-rest : (m : List ℕ) (l x : ℕ) → l < 12 → x < 12
    → listed (12 * x) (drop (12 * x) (flat (only l (entry m))))
    ≡ placed (12 * x + l) (get_or m (12 * x + l) 0) ++ listed (12 * (x + 1)) (drop (12 * (x + 1)) (flat (only l (entry m))))
column-rest m l x h k =
    rows-rest (flat (only l (entry m))) x (length-flat (only l (entry m))) k ∙ rw (row-only (entry m) l x h k, entry_in m x l k h)
