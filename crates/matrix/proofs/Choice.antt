-- The sign of a difference of two counts, and the count that is chosen by it. Assumes nothing.
use Prim.Native.Nat.{◌*◌, ◌+◌, ◌-◌, ◌<◌, ◌≤◌, max, suc, zero, ℕ}
use mathlib.Core.Bool.{Bool, cond, false, true}
use mathlib.Core.Path.{◌≡◌, ap, refl}
use native.Mathlib.Decide.{dec_lt}
use native.Mathlib.Nat.{mul-le-mul}
use native.Mathlib.Omega.{arith}
use mir.Facts.{to_z-of_z, to_z_pos}
use mir.Syntax.{w32}
use mir.Val.{Fits, SFits, bool_byte, of_z, to_z}
use borrow.Author.Tests.{le-ltb, lt-ltb}
use lib.Dec.{T, eqb, ltb}
use lib.IntN.{ℤ, nat_abs, negsuc, pos, sub_ℕ, ◌+ℤ◌, ◌-ℤ◌}
use lib.Signed.{non_neg, shr_z}
use Rattle.wire.specs.Limits.{max_count}

-- of two counts: the difference of the signed numbers that they are fits into 32 bits, and a shift by 31 leaves its sign, -1 where a is the smaller and else 0
pub record Sign (a b : ℕ) : Type 0 where
  pub fits : SFits w32 (to_z w32 a -ℤ to_z w32 b)
  pub shifted : shr_z (to_z w32 a -ℤ to_z w32 b) 2147483648 ≡ cond (ltb a b) (negsuc 0) (pos 0)

minus : (a b : ℕ) → pos a -ℤ pos b ≡ sub_ℕ a b
minus a zero = rw (le-ltb a 0 (omega arith)) (ap pos (omega arith))
minus a (suc b) = refl

pub sign : (a b : ℕ) → a ≤ max_count → b ≤ max_count → Sign a b
sign a b p q = go (dec_lt a b)
  where
    difference : to_z w32 a -ℤ to_z w32 b ≡ sub_ℕ a b
    difference = rw (to_z_pos w32 {n = a} (omega arith), to_z_pos w32 {n = b} (omega arith)) (minus a b)

    go : Dec (a < b) → Sign a b
    go (yes h) =
        let t = lt-ltb a b h in
        record { fits = rw (difference, t) (record { sfits = omega arith }); shifted = rw (difference, t) (ap negsuc (omega arith)) }
    go (no h) =
        let t = le-ltb a b (omega arith) in
        record { fits = rw (difference, t) (record { sfits = omega arith }); shifted = rw (difference, t) (ap pos (omega arith)) }

-- what the code's shift leaves of it, read back from its bits
abbrev left : ℕ → ℕ → ℤ
left a b = to_z w32 (of_z w32 (shr_z (to_z w32 (of_z w32 (to_z w32 a -ℤ to_z w32 b))) 2147483648))

-- so one more fits and is no negative number, and it is 0 where a is the smaller and else 1
pub record OneMore (z : ℤ) (t : Bool) : Type 0 where
  pub fits : SFits w32 (z +ℤ pos 1)
  pub positive : T (non_neg (to_z w32 (of_z w32 (z +ℤ pos 1))))
  pub small : Fits w32 (nat_abs (to_z w32 (of_z w32 (z +ℤ pos 1))))
  pub value : nat_abs (to_z w32 (of_z w32 (z +ℤ pos 1))) ≡ cond t 0 1

one_more : (t : Bool) → OneMore (to_z w32 (of_z w32 (cond t (negsuc 0) (pos 0)))) t
one_more true = record { fits = record { sfits = omega arith }; positive = tt; small = record { fits = omega arith }; value = refl }
one_more false = record { fits = record { sfits = omega arith }; positive = tt; small = record { fits = omega arith }; value = refl }

pub taken : (a b : ℕ) → Sign a b → OneMore (left a b) (ltb a b)
taken a b s = rw (to_z-of_z s.fits, s.shifted) (one_more (ltb a b))

-- a sign or a flag s chooses: s times a, and one less s times b
pub one_of : (s a b : ℕ) → s ≤ 1 → s * a + (1 - s) * b ≡ cond (eqb s 1) a b
one_of zero a b h = omega arith
one_of (suc zero) a b h = omega arith
one_of (suc (suc s)) a b h = absurd (omega arith)

-- none of it goes beyond 32 bits
pub part_fits : (s a : ℕ) → s ≤ 1 → a ≤ max_count → Fits w32 (s * a)
part_fits s a h p = record { fits = omega (arith, mul-le-mul h p) }

pub rest_fits : (s b : ℕ) → b ≤ max_count → Fits w32 ((1 - s) * b)
rest_fits s b q =
    let t : 1 - s ≤ 1 = omega arith in
    part_fits (1 - s) b t q

pub sum_fits : (s a b : ℕ) → s ≤ 1 → a ≤ max_count → b ≤ max_count → Fits w32 (s * a + (1 - s) * b)
sum_fits s a b h p q =
    let t : 1 - s ≤ 1 = omega arith in
    record { fits = omega (arith, mul-le-mul h p, mul-le-mul t q) }

-- a test as a number, 1 where it holds
pub flag : (t : Bool) → eqb (bool_byte t) 1 ≡ t
flag true = refl
flag false = refl

pub flag_le : (t : Bool) → bool_byte t ≤ 1
flag_le true = omega arith
flag_le false = omega arith

-- the sign of a - b, and the count that it chooses
pub sign_le : (s : ℕ) (t : Bool) → s ≡ cond t 0 1 → s ≤ 1
sign_le s true e = omega arith
sign_le s false e = omega arith

pub larger_one : (s a b : ℕ) → s ≡ cond (ltb a b) 0 1 → cond (eqb s 1) a b ≡ max a b
larger_one s a b e = go (dec_lt a b)
  where
    go : Dec (a < b) → cond (eqb s 1) a b ≡ max a b
    go (yes h) = rw (e, lt-ltb a b h) (omega arith)
    go (no h) = rw (e, le-ltb a b (omega arith)) (omega arith)
