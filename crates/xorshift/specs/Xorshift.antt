-- Marsaglia's 32-bit xorshift: left 13, right 17, left 5. `bit_xor` is the exclusive or of two numbers' binary digits.
use Rattle.std.specs.Prelude.{ℕ, zero, suc, ◌*◌, ◌/◌, ◌%◌, ◌^◌}
use Rattle.std.specs.Int.Bits.{bit_xor}

-- x shifted k places to the left, of which 32 bits stay
abbrev pub left : ℕ → ℕ → ℕ
left k x = (x * 2 ^ k) % 2 ^ 32

-- x shifted k places to the right
abbrev pub right : ℕ → ℕ → ℕ
right k x = x / 2 ^ k

-- the number that the generator draws after x
unfoldable pub next : ℕ → ℕ
next x =
    let a : ℕ = bit_xor x (left 13 x) in
    let b : ℕ = bit_xor a (right 17 a) in
    bit_xor b (left 5 b)

-- the number after k draws from a seed, the seed itself after none
unfoldable pub drawn : ℕ → ℕ → ℕ
drawn zero seed = seed
drawn (suc k) seed = drawn k (next seed)
