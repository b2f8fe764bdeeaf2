-- The zero test by `or`. Assumes nothing.
use Prim.Native.Nat.{◌+◌, ◌<◌, ◌≤◌, suc, zero, ℕ}
use mathlib.Core.Bool.{Bool, ◌&&◌, and_assoc, and-true, false, true}
use mathlib.Core.List.{List, [], ◌∷◌, ◌++◌}
use mathlib.Core.Path.{◌∙◌, ◌≡◌, ap, refl, sym}
use native.Mathlib.Decide.{ℕ_discrete}
use native.Mathlib.Nat.{add_assoc, add-zero}
use native.Mathlib.Omega.{arith}
use borrow.Author.Tests.{ne_eqb}
use lib.Bits.{and_le_r, bit_or, or_add_and, or_zero_l}
use lib.Dec.{eqb}
use lib.ListN.{drop, drop_of_length-le, get_or, length, take, take-append-drop}
use lib.Seq.{get_or-take, length-take-le}
use Rattle.holdback.specs.Steps.{all_zero}
use Rattle.wire.proofs.Bytes.{rest}

-- an `or` is zero where both are
pub or-zero : (a b : ℕ) → eqb (bit_or a b) 0 ≡ (eqb a 0 && eqb b 0)
or-zero a b = go (ℕ_discrete a 0)
  where
    go : Dec (a ≡ 0) → eqb (bit_or a b) 0 ≡ (eqb a 0 && eqb b 0)
    go (yes e) = rw (e, or_zero_l b)
    go (no e) = rw (ne_eqb a 0 e, ne_eqb (bit_or a b) 0 (λ z. e (omega (arith, or_add_and a b, and_le_r a b))))

-- a byte of either half more
mixed : (p x y a b : Bool) → (p && ((x && a) && (y && b))) ≡ (p && x && y && (a && b))
mixed false x y a b = refl
mixed true false y a b = refl
mixed true true true a b = refl
mixed true true false true b = refl
mixed true true false false b = refl

-- each byte before place high and each from place low on that is left from step i on is zero
unfoldable pub halves : List ℕ → ℕ → ℕ → ℕ → Bool
halves s low high i = all_zero (drop i (take high s)) && all_zero (drop (low + i) s)

pub halves-rest : (s : List ℕ) (low high acc i : ℕ) → high ≤ length s → i < high → low + i < length s
    → (eqb acc 0 && halves s low high i) ≡ (eqb (bit_or (bit_or acc (get_or s i 0)) (get_or s (low + i) 0)) 0 && halves s low high (i + 1))
unfolding halves all_zero
halves-rest s low high acc i l h k =
    rw (
      rest (take high s) i (rw (length-take-le high s l) h),
      get_or-take high s i 0 h,
      rest s (low + i) k,
      or-zero (bit_or acc (get_or s i 0)) (get_or s (low + i) 0),
      or-zero acc (get_or s i 0),
      add_assoc low i 1,
    ) (mixed (eqb acc 0) (eqb (get_or s i 0) 0) (eqb (get_or s (low + i) 0) 0) (all_zero (drop (i + 1) (take high s))) (all_zero (drop (low + (i + 1)) s)))

pub halves-end : (s : List ℕ) (low high acc i : ℕ) → high ≤ length s → high ≤ i → length s ≤ low + i → (eqb acc 0 && halves s low high i) ≡ eqb acc 0
unfolding halves all_zero
halves-end s low high acc i l h k =
    rw (drop_of_length-le (take high s) {i = i} (rw (length-take-le high s l) h), drop_of_length-le s {i = low + i} k) (and-true (eqb acc 0))

-- the two halves are the whole, also where they overlap
again : (a b : Bool) → (a && b) ≡ (a && (a && b))
again false b = refl
again true b = refl

zero_append : (s t : List ℕ) → all_zero (s ++ t) ≡ (all_zero s && all_zero t)
unfolding all_zero
zero_append [] t = refl
zero_append (b ∷ s) t = ap (λ (x : Bool). eqb b 0 && x) (zero_append s t) ∙ sym (and_assoc (eqb b 0) (all_zero s) (all_zero t))

zero-front : (s : List ℕ) (k : ℕ) → all_zero s ≡ (all_zero (take k s) && all_zero s)
zero-front s k =
    let e : all_zero s ≡ (all_zero (take k s) && all_zero (drop k s)) = ap all_zero (sym (take-append-drop k s)) ∙ zero_append (take k s) (drop k s) in
    e ∙ again (all_zero (take k s)) (all_zero (drop k s)) ∙ ap (λ (x : Bool). all_zero (take k s) && x) (sym e)

zero-split : (s : List ℕ) (low high : ℕ) → low ≤ high → all_zero s ≡ (all_zero (take high s) && all_zero (drop low s))
unfolding all_zero
zero-split s zero high l = zero-front s high
zero-split [] (suc low) (suc high) l = refl
zero-split (b ∷ s) (suc low) (suc high) l =
    ap (λ (x : Bool). eqb b 0 && x) (zero-split s low high (omega arith)) ∙ sym (and_assoc (eqb b 0) (all_zero (take high s)) (all_zero (drop low s)))
zero-split [] (suc low) zero l = elim l [ ]
zero-split (b ∷ s) (suc low) zero l = elim l [ ]

pub halves-start : (s : List ℕ) (low high : ℕ) → low ≤ high → all_zero s ≡ halves s low high 0
unfolding halves
halves-start s low high l = rw add-zero (zero-split s low high l)
