-- Laws of numbers of four bytes, end to end: read one after the other, and written. Assumes nothing.
use Prim.Native.Nat.{◌*◌, ◌+◌, ◌<◌, ◌≤◌, suc, zero, ℕ}
use mathlib.Core.List.{List, [], ◌∷◌}
use mathlib.Core.Path.{◌∙◌, ◌≡◌, ap, refl, sym}
use native.Mathlib.Decide.{ℕ_discrete}
use native.Mathlib.Nat.{add-zero}
use native.Mathlib.Omega.{arith}
use lib.ListN.{drop, get_or, length, length-append, length-set, set}
use lib.Seq.{ext_get_or, get_or-set_other, get_or-set_same}
use Rattle.wire.proofs.Bytes.{length-le32, length-put, put_append, put-nil, rest, rest_end}
use Rattle.wire.specs.Bytes.{le32, put, u32_at}
use Rattle.image.specs.Image.{fields, numbers_at}

pub length_fields : (l : List ℕ) → length (fields l) ≡ 4 * length l
unfolding fields
length_fields [] = refl
length_fields (v ∷ l) = omega (arith, length-append (le32 v) (fields l), length-le32 v, length_fields l)

pub length-numbers : (s : List ℕ) (at k : ℕ) → length (numbers_at s at k) ≡ k
unfolding numbers_at
length-numbers s at zero = refl
length-numbers s at (suc k) = ap suc (length-numbers s (at + 4) k)

get_or-numbers : (s : List ℕ) (at k i : ℕ) → i < k → get_or (numbers_at s at k) i 0 ≡ u32_at s (at + 4 * i)
unfolding numbers_at
get_or-numbers s at zero i h = absurd (omega arith)
get_or-numbers s at (suc k) zero h = rw add-zero
get_or-numbers s at (suc k) (suc i) h =
    let e : at + 4 + 4 * i ≡ at + 4 * suc i = omega arith in
    get_or-numbers s (at + 4) k i (omega arith) ∙ ap (u32_at s) e

-- the first k places of a have been read
pub record ReadTo (s : List ℕ) (at : ℕ) (a₀ a : List ℕ) (k : ℕ) : Type 0 where
  pub few : k ≤ length a₀
  pub same : length a ≡ length a₀
  pub read : (i : ℕ) → i < k → get_or a i 0 ≡ u32_at s (at + 4 * i)

pub read_start : (s : List ℕ) (at : ℕ) (a : List ℕ) → ReadTo s at a a 0
read_start s at a = record { few = omega arith; same = refl; read = λ i h. absurd (omega arith) }

pub read_turn : (s : List ℕ) (at : ℕ) (a₀ a : List ℕ) (k v : ℕ) → ReadTo s at a₀ a k → k < length a
    → v ≡ u32_at s (at + 4 * k) → ReadTo s at a₀ (set a k v) (k + 1)
read_turn s at a₀ a k v r h e =
    record {
      few = omega (arith, r.same);
      same = length-set a k v ∙ r.same;
      read = λ i l. go i l (ℕ_discrete i k);
    }
  where
    go : (i : ℕ) → i < k + 1 → Dec (i ≡ k) → get_or (set a k v) i 0 ≡ u32_at s (at + 4 * i)
    go i l (yes q) = rw (q, get_or-set_same a k v 0 h) e
    go i l (no q) = get_or-set_other a k i v 0 q ∙ r.read i (omega arith)

pub read_end : (s : List ℕ) (at : ℕ) (a₀ a : List ℕ) (k : ℕ) → ReadTo s at a₀ a k → length a ≤ k → a ≡ numbers_at s at (length a₀)
read_end s at a₀ a k r h =
    ext_get_or 0 a (numbers_at s at (length a₀)) (r.same ∙ sym (length-numbers s at (length a₀)))
    (λ i l. r.read i (omega arith) ∙ sym (get_or-numbers s at (length a₀) i (omega (arith, r.same))))

-- one number more of a list that is written
pub fields_rest : (o : List ℕ) (at : ℕ) (l : List ℕ) (k : ℕ) → k < length l
    → put o (at + 4 * k) (fields (drop k l)) ≡ put (put o (at + 4 * k) (le32 (get_or l k 0))) (at + 4 * (k + 1)) (fields (drop (k + 1) l))
unfolding fields
fields_rest o at l k h =
    let e : at + 4 * k + length (le32 (get_or l k 0)) ≡ at + 4 * (k + 1) = omega (arith, length-le32 (get_or l k 0)) in
    rw (rest l k h, put_append o (at + 4 * k) (le32 (get_or l k 0)) (fields (drop (k + 1) l)), e)

pub fields_end : (o : List ℕ) (at : ℕ) (l : List ℕ) (k : ℕ) → length l ≤ k → k ≤ length l → put o at (fields (drop k l)) ≡ o
unfolding fields
fields_end o at l k h g = rw (rest_end l k h g) (put-nil o at)

-- what writing numbers cites
pub ruleset writing = (fields_rest, fields_end, length-put)
