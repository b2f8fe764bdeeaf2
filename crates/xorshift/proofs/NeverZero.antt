-- The generator never stops: each of a draw's three steps keeps 32 bits that are not 0. Assumes nothing.
use Prim.Native.Nat.{◌%◌, ◌*◌, ◌+◌, ◌/◌, ◌<◌, ◌^◌, suc, zero, ℕ}
use mathlib.Core.Path.{◌∙◌, ◌≡◌, refl, sym}
use native.Mathlib.Nat.{add-mul, add-mul-mod_self_left, mod-add-div, mod-eq_of_lt, mul_assoc, mul_comm, mul-one, pow-suc, pow-zero}
use native.Mathlib.Omega.{arith}
use lib.Bits.{and_le_l, and_le_r, bit_xor, xor_add_and, xor_lt}
use Rattle.xorshift.specs.Xorshift.{drawn, left, next, right}
use Rattle.xorshift.specs.NeverZero.{NeverZero, Seed}

-- seed 1 gives 270369 first
first-number : next 1 ≡ 270369
unfolding next
first-number = refl

-- two numbers whose exclusive or is 0 are equal
xor_zero : (x y : ℕ) → bit_xor x y ≡ 0 → x ≡ y
xor_zero x y e = omega (arith, xor_add_and x y, and_le_l x y, and_le_r x y)

-- so the exclusive or of two different numbers of 32 bits is of 32 bits and not 0
mixed : (x y : ℕ) → Seed x → y < 2 ^ 32 → (x ≡ y → ⊥) → Seed (bit_xor x y)
mixed x y s b n = record { below = xor_lt 32 x y s.below b; not_zero = λ e. n (xor_zero x y e) }

-- a factor may be narrowed before the product is
mul_mod : (a b m : ℕ) → (a % m * b) % m ≡ (a * b) % m
mul_mod a b m =
    let parts : a % m * b + m * (a / m * b) ≡ a * b = rw (← mul_assoc m (a / m) b, ← add-mul (a % m) (m * (a / m)) b, mod-add-div a m) in
    sym (add-mul-mod_self_left (a % m * b) m (a / m * b)) ∙ rw parts

-- a number that times c stays the same modulo m stays the same times each power of c
powers : (m c x j : ℕ) → x < m → x ≡ (x * c) % m → x ≡ (x * c ^ j) % m
powers m c x zero h e = rw (pow-zero, mul-one) (sym (mod-eq_of_lt h))
powers m c x (suc j) h e =
    let order : x * (c ^ j * c) ≡ x * c * c ^ j = rw (mul_comm (c ^ j) c, mul_assoc) in
    rw (pow-suc, order, ← mul_mod (x * c) (c ^ j) m, ← e) (powers m c x j h e)

-- no shift keeps a number of 32 bits that is not 0: done often enough, a shift to the left leaves no bit
left_13 : (x : ℕ) → Seed x → x ≡ left 13 x → ⊥
left_13 x s e = s.not_zero (omega (arith, powers (2 ^ 32) (2 ^ 13) x 3 s.below e))

right_17 : (x : ℕ) → Seed x → x ≡ right 17 x → ⊥
right_17 x s e = s.not_zero (omega arith)

left_5 : (x : ℕ) → Seed x → x ≡ left 5 x → ⊥
left_5 x s e = s.not_zero (omega (arith, powers (2 ^ 32) (2 ^ 5) x 7 s.below e))

-- one draw
pub next_seed : (x : ℕ) → Seed x → Seed (next x)
unfolding next
next_seed x s =
    let a : ℕ = bit_xor x (left 13 x) in
    let b : ℕ = bit_xor a (right 17 a) in
    let s₁ : Seed a = mixed x (left 13 x) s (omega arith) (left_13 x s) in
    let s₂ : Seed b = mixed a (right 17 a) s₁ (omega arith) (right_17 a s₁) in
    mixed b (left 5 b) s₂ (omega arith) (left_5 b s₂)

-- any number of draws
pub drawn_seed : (k seed : ℕ) → Seed seed → Seed (drawn k seed)
unfolding drawn
drawn_seed zero seed s = s
drawn_seed (suc k) seed s = drawn_seed k (next seed) (next_seed seed s)

-- one draw more is the next number after the last one
pub drawn-more : (k seed : ℕ) → drawn (suc k) seed ≡ next (drawn k seed)
unfolding drawn
drawn-more zero seed = refl
drawn-more (suc k) seed = drawn-more k (next seed)

pub never-zero : NeverZero
never-zero = record { first = first-number; after = next_seed; always = drawn_seed }
