-- Laws of the number of a field. Assumes nothing.
use Prim.Native.Nat.{◌*◌, ◌+◌, ◌-◌, ◌<◌, ◌^◌, ◌≤◌, suc, ℕ}
use Rattle.std.specs.Prelude.{None, Option, Some}
use Rattle.std.specs.Char.{IsAsciiDigit, IsNotAsciiDigit}
use mathlib.Core.Bool.{Bool, ◌&&◌, false, true}
use mathlib.Core.List.{List, [], ◌++◌, ◌∷◌}
use mathlib.Core.Path.{◌∙◌, ◌≡◌, ap, refl, sym}
use native.Mathlib.Decide.{dec_le}
use native.Mathlib.Nat.{add-zero, pow-le-pow_right, pow-suc, zero-add}
use native.Mathlib.Numerals.{add-one}
use native.Mathlib.Omega.{arith}
use borrow.Author.Tests.{le-leb, lt-leb, ne_eqb}
use lib.Dec.{eqb, leb, leb→le}
use lib.ListN.{drop, get_or, length}
use Rattle.wire.proofs.Bytes.{rest, rest_end}
use Rattle.wire.proofs.Tests.{and_T, of_true}
use Rattle.text.specs.Pieces.{grown, split}
use Rattle.text.specs.Fields.{continued, is_digit, value}

-- a digit is one of the bytes 48 to 57
pub digit_range : (b : ℕ) → is_digit b ≡ true → (48 ≤ b) × (b ≤ 57)
unfolding is_digit
digit_range b e = let t = and_T (leb 48 b) (leb b 57) (of_true (leb 48 b && leb b 57) e) in (leb→le 48 b t.0, leb→le b 57 t.1)

pub digit_is : (d : ℕ) → d < 10 → is_digit (48 + d) ≡ true
unfolding is_digit
digit_is d h = rw (le-leb 48 (48 + d) (omega arith), le-leb (48 + d) 57 (omega arith))

not_digit : (b : ℕ) → IsNotAsciiDigit b → is_digit b ≡ false
unfolding is_digit
not_digit b h = grind arith

-- one place of a field: no digit, a digit, the end
pub continued-stops : (v : ℕ) (s : List ℕ) (i : ℕ) → i < length s → IsNotAsciiDigit (get_or s i 0) → continued v (drop i s) ≡ None
unfolding continued is_digit
continued-stops v s i h e = rw (rest s i h, not_digit (get_or s i 0) e)

pub continued_goes : (v : ℕ) (s : List ℕ) (i : ℕ) → i < length s → IsAsciiDigit (get_or s i 0)
    → continued v (drop i s) ≡ continued (10 * v + (get_or s i 0 - 48)) (drop (i + 1) s)
unfolding continued is_digit
continued_goes v s i h e = rw (rest s i h, le-leb 48 (get_or s i 0) e.0, le-leb (get_or s i 0) 57 e.1)

pub continued-ends : (v : ℕ) (s : List ℕ) (i : ℕ) → length s ≤ i → i ≤ length s → continued v (drop i s) ≡ Some v
unfolding continued
continued-ends v s i h l = rw (rest_end s i h l)

-- a number is one number, and not none
pub same_number : (u v : ℕ) → Some u ≡ Some v → u ≡ v
same_number u v e = cc

pub never_both : (v : ℕ) → None ≡ Some v → ⊥
never_both v e = let z : ◌≡◌ {A = ℕ} 0 1 = cc in omega arith

-- the digits of a number, and then more
pub continued_append : (u v : ℕ) (s t : List ℕ) → continued u s ≡ Some v → continued u (s ++ t) ≡ continued v t
unfolding continued
continued_append u v [] t e = ap (λ (w : ℕ). continued w t) (same_number u v e)
continued_append u v (b ∷ s) t e = go (is_digit b) refl (λ f. continued_append (10 * u + (b - 48)) v s t f)
  where
    go : (d : Bool) → is_digit b ≡ d → (continued (10 * u + (b - 48)) s ≡ Some v → continued (10 * u + (b - 48)) (s ++ t) ≡ continued v t)
        → continued u (b ∷ (s ++ t)) ≡ continued v t
    go true y more = rw y (more (rw y at e))
    go false n more = absurd (never_both v (rw n at e))

-- a field of no byte, of too many, and of 1 to k
pub value-empty : (k : ℕ) (s : List ℕ) → length s ≡ 0 → value k s ≡ None
unfolding value
value-empty k s e = rw e

pub value-long : (k : ℕ) (s : List ℕ) → k < length s → value k s ≡ None
unfolding value
value-long k s h = rw (le-leb 1 (length s) (omega arith), lt-leb (length s) k h)

pub value-whole : (k : ℕ) (s : List ℕ) → 1 ≤ length s → length s ≤ k → value k s ≡ continued 0 s
unfolding value
value-whole k s h l = rw (le-leb 1 (length s) h, le-leb (length s) k l)

-- a digit more keeps the bound of as many digits
pub digits-below : (v i b : ℕ) → v < 10 ^ i → b ≤ 57 → 10 * v + (b - 48) < 10 ^ (i + 1)
digits-below v i b h l = omega (arith, ap (λ (k : ℕ). 10 ^ k) (add-one i) ∙ pow-suc 10 i)

-- nineteen digits fit 64 bits
pub digits-fit : (v i : ℕ) → v < 10 ^ i → i < 19 → 10 * v + 9 < 18446744073709551616
digits-fit v i h l =
    let p : 10 ^ suc i ≤ 10 ^ 19 = pow-le-pow_right {n = 10} (omega arith) {i = suc i} {j = 19} (omega arith) in
    let q : 10 ^ 19 ≡ 10000000000000000000 = refl in
    omega (arith, pow-suc 10 i)

-- the number of a field of at most k digits is below 10 to the k
continued-below : (u v i : ℕ) (s : List ℕ) → u < 10 ^ i → continued u s ≡ Some v → v < 10 ^ (i + length s)
unfolding continued
continued-below u v i [] h e = rw (add-zero, ← same_number u v e) h
continued-below u v i (b ∷ s) h e = go (is_digit b) refl (λ w f. continued-below (10 * u + (b - 48)) v (i + 1) s w f)
  where
    go : (d : Bool) → is_digit b ≡ d → (10 * u + (b - 48) < 10 ^ (i + 1) → continued (10 * u + (b - 48)) s ≡ Some v → v < 10 ^ (i + 1 + length s))
        → v < 10 ^ (i + suc (length s))
    go true y more = let l : i + suc (length s) ≡ i + 1 + length s = omega arith in rw l (more (digits-below u i b h (digit_range b y).1) (rw y at e))
    go false n more = absurd (never_both v (rw n at e))

-- a field that is a number is read digit by digit
value-digits : (k : ℕ) (s : List ℕ) (v : ℕ) → value k s ≡ Some v → continued 0 s ≡ Some v
value-digits k s v e = go (dec_le 1 (length s)) (dec_le (length s) k)
  where
    go : Dec (1 ≤ length s) → Dec (length s ≤ k) → continued 0 s ≡ Some v
    go (no h) l = absurd (never_both v (sym (value-empty k s (omega arith)) ∙ e))
    go (yes h) (no l) = absurd (never_both v (sym (value-long k s (omega arith)) ∙ e))
    go (yes h) (yes l) = sym (value-whole k s h l) ∙ e

pub value-below : (k : ℕ) (s : List ℕ) (v : ℕ) → value k s ≡ Some v → v < 10 ^ k
value-below k s v e = go (dec_le 1 (length s)) (dec_le (length s) k)
  where
    go : Dec (1 ≤ length s) → Dec (length s ≤ k) → v < 10 ^ k
    go (no h) l = absurd (never_both v (sym (value-empty k s (omega arith)) ∙ e))
    go (yes h) (no l) = absurd (never_both v (sym (value-long k s (omega arith)) ∙ e))
    go (yes h) (yes l) =
        let w : v < 10 ^ (0 + length s) = continued-below 0 v 0 s (omega arith) (sym (value-whole k s h l) ∙ e) in
        let p : 10 ^ length s ≤ 10 ^ k = pow-le-pow_right {n = 10} (omega arith) {i = length s} {j = k} l in
        omega (arith, rw zero-add at w)

-- a field has no space: what has more pieces than one is no number
pub digits-whole : (u v : ℕ) (s : List ℕ) → continued u s ≡ Some v → split 32 s ≡ s ∷ []
unfolding continued split grown
digits-whole u v [] e = refl
digits-whole u v (b ∷ s) e = go (is_digit b) refl (λ f. digits-whole (10 * u + (b - 48)) v s f)
  where
    go : (d : Bool) → is_digit b ≡ d → (continued (10 * u + (b - 48)) s ≡ Some v → split 32 s ≡ s ∷ []) → split 32 (b ∷ s) ≡ (b ∷ s) ∷ []
    go true y more =
        let r = digit_range b y in
        let n : eqb b 32 ≡ false = ne_eqb b 32 (omega (arith, r.0)) in
        rw (n, more (rw y at e))
    go false n more = absurd (never_both v (rw n at e))

pub value-parted : (k : ℕ) (s p q : List ℕ) (ps : List (List ℕ)) → split 32 s ≡ p ∷ q ∷ ps → value k s ≡ None
value-parted k s p q ps e = go (value k s) refl
  where
    go : (o : Option ℕ) → value k s ≡ o → o ≡ None
    go None h = refl
    go (Some v) h = let w = digits-whole 0 v s (value-digits k s v h) in let z : ⊥ = cc in absurd z

-- for the function that reads a field
pub ruleset reading = (continued-stops, continued-ends, value-empty, value-long, value-whole)
