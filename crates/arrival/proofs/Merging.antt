-- A frame's entries merged one by one are its matrix merged. Assumes nothing.
use Prim.Native.Nat.{◌+◌, ◌-◌, ◌<◌, ◌≤◌, max, ℕ}
use mathlib.Core.List.{List, [], ◌∷◌}
use mathlib.Core.Path.{◌∙◌, ◌≡◌, ap, fun_ext, refl, sym}
use native.Mathlib.Decide.{ℕ_discrete}
use native.Mathlib.Nat.{sub-zero}
use native.Mathlib.Omega.{arith}
use borrow.Author.Tests.{ne_eqb}
use lib.Dec.{eqb}
use lib.ListN.{length}
use Rattle.arrival.proofs.Sound.{Inside, readable}
use Rattle.arrival.specs.CheckedFrame.{CheckedFrame}
use Rattle.frame.proofs.Checks.{entries-done, entries-rest}
use Rattle.frame.proofs.Lookup.{Ordered, look_before, look_hit, look_miss, look_none, ordered-down, place}
use Rattle.frame.specs.Entries.{entries_from, entry_at, matrix_of}
use Rattle.frame.specs.Frame.{decode}
use Rattle.frame.specs.Header.{header}
use Rattle.frame.specs.declared.entries.Entry.{Entry}
use Rattle.frame.specs.declared.header.Header.{Header}
use Rattle.matrix.proofs.Array.{entry-flat, flat_back, flat_ext, length-flat}
use Rattle.matrix.proofs.Matrix.{merge-kept, merge-max, merge-own}
use Rattle.matrix.proofs.Merged.{inside-single, merge-back, merge-limit, single-limit}
use Rattle.matrix.specs.Array.{entry, flat}
use Rattle.matrix.specs.Matrix.{Matrix, merge, single}
use Rattle.wire.specs.Limits.{max_count}

-- the matrix with one entry is that of the list of this entry
single_look : (a : Entry) (x y : ℕ) → single a.row a.column a.value x y ≡ matrix_of (a ∷ []) x y
unfolding single matrix_of
single_look a x y = rw (eqb_swap x a.row, eqb_swap y a.column)
  where
    eqb_swap : (i j : ℕ) → eqb i j ≡ eqb j i
    eqb_swap i j = go (ℕ_discrete i j)
      where
        go : Dec (i ≡ j) → eqb i j ≡ eqb j i
        go (yes e) = rw e
        go (no e) = ne_eqb i j e ∙ sym (ne_eqb j i (λ f. e (sym f)))

-- one entry, and then those behind it
pub merge_step : (j : ℕ) (m : Matrix) (k : ℕ) (a : Entry) (l : List Entry) → Ordered k (a ∷ l)
    → merge j (merge j m (single a.row a.column a.value)) (matrix_of l) ≡ merge j m (matrix_of (a ∷ l))
merge_step j m k a l o = fun_ext (λ x. fun_ext (λ y. go x y (ℕ_discrete y j) (ℕ_discrete a.row x) (ℕ_discrete a.column y)))
  where
    first : Matrix
    first = single a.row a.column a.value

    else : (x y : ℕ) → (a.row ≡ x → a.column ≡ y → ⊥) → max (max (m x y) (first x y)) (matrix_of l x y) ≡ max (m x y) (matrix_of (a ∷ l) x y)
    else x y n = rw (look_miss a l x y n) (omega (arith, single_look a x y, look_miss a [] x y n, look_none x y))

    both : (x y : ℕ) → Dec (a.row ≡ x) → Dec (a.column ≡ y) → max (max (m x y) (first x y)) (matrix_of l x y) ≡ max (m x y) (matrix_of (a ∷ l) x y)
    both x y (yes p) (yes q) =
        omega (
          arith,
          single_look a x y,
          look_hit a [] x y p q,
          look_hit a l x y p q,
          look_before (place a + 1) l o.1 x y (omega (arith, o.0.column)) (omega arith),
        )
    both x y (yes p) (no q) = else x y (λ _ r. q r)
    both x y (no p) d = else x y (λ r _. p r)

    go : (x y : ℕ) → Dec (y ≡ j) → Dec (a.row ≡ x) → Dec (a.column ≡ y) → merge j (merge j m first) (matrix_of l) x y ≡ merge j m (matrix_of (a ∷ l)) x y
    go x y (yes p) c d = rw p (merge-own j (merge j m first) (matrix_of l) x ∙ merge-own j m first x ∙ sym (merge-own j m (matrix_of (a ∷ l)) x))
    go x y (no p) c d =
        merge-max j (merge j m first) (matrix_of l) x y p ∙ rw (merge-max j m first x y p) (both x y c d) ∙ sym (merge-max j m (matrix_of (a ∷ l)) x y p)

-- into an array: one entry, and none
merge-array : (j : ℕ) (f g : Matrix) → flat (merge j (entry (flat f)) g) ≡ flat (merge j f g)
unfolding merge
merge-array j f g = flat_ext (merge j (entry (flat f)) g) (merge j f g) (λ x y p q. rw (entry-flat f x y p q))

merge_none : (j : ℕ) (l : List ℕ) → length l ≡ 144 → flat (merge j (entry l) (matrix_of [])) ≡ l
merge_none j l e =
    flat_ext (merge j (entry l) (matrix_of [])) (entry l) (λ x y _ _. merge-kept j (entry l) (matrix_of []) x y (look_none x y)) ∙ flat_back l e

-- the loop: the entries from entry k on, merged into the array m, give what all give, merged into m₀
pub record Merging (s : List ℕ) (j e : ℕ) (m₀ m : List ℕ) (k : ℕ) : Type 0 where
  pub turns : k ≤ e
  pub cells : length m ≡ 144
  pub limit : (x y : ℕ) → entry m x y ≤ max_count
  pub ordered : Ordered 0 (entries_from s k (e - k))
  pub whole : flat (merge j (entry m) (matrix_of (entries_from s k (e - k)))) ≡ flat (merge j (entry m₀) (matrix_of (entries_from s 0 e)))

pub merging_start : (s : List ℕ) (j : ℕ) (h : Header) (m : List ℕ) → CheckedFrame s → h ≡ header s → length m ≡ 144
    → ((x y : ℕ) → entry m x y ≤ max_count) → Merging s j h.e m m 0
merging_start s j h m c e l most =
    record { turns = omega arith; cells = l; limit = most; ordered = rw sub-zero (readable s h c e).ordered; whole = rw sub-zero refl }

pub merging_turn : (s : List ℕ) (j e : ℕ) (m₀ m m' : List ℕ) (k : ℕ) (a : Entry) → Merging s j e m₀ m k → k < e → a ≡ entry_at s k → Inside a
    → m' ≡ flat (merge j (entry m) (single a.row a.column a.value)) → Merging s j e m₀ m' (k + 1)
merging_turn s j e m₀ m m' k a w h q i n =
    let one = single a.row a.column a.value in
    let back = ap entry n ∙ merge-back j m one (inside-single a.row a.column a.value i.row i.column) in
    let l = entries_from s (k + 1) (e - (k + 1)) in
    let r : entries_from s k (e - k) ≡ a ∷ l = entries-rest s k e h ∙ rw q in
    let o : Ordered 0 (a ∷ l) = rw r at w.ordered in
    record {
      turns = omega arith;
      cells = rw n (length-flat (merge j (entry m) one));
      limit = rw back (merge-limit j (entry m) one max_count w.limit (single-limit a.row a.column a.value max_count i.most));
      ordered = ordered-down 0 (place a + 1) l (omega arith) o.1;
      whole =
          rw n (merge-array j (merge j (entry m) one) (matrix_of l)
          ∙ ap flat (merge_step j (entry m) 0 a l o)) ∙ rw r at w.whole;
    }

pub merging_end : (s : List ℕ) (j : ℕ) (h : Header) (m₀ m : List ℕ) (k : ℕ) → Merging s j h.e m₀ m k → h.e ≤ k → h ≡ header s
    → m ≡ flat (merge j (entry m₀) (decode s).entries)
unfolding decode
merging_end s j h m₀ m k w l e = sym (merge_none j m w.cells) ∙ rw (entries-done s k h.e l) at w.whole ∙ rw (← e)
