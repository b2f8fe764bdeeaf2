-- The generator never stops: from a seed of 32 bits that is not 0, no draw gives 0, from which every later draw would be 0.
use Rattle.std.specs.Prelude.{ℕ, ◌<◌, ◌^◌, ◌≡◌}
use Rattle.xorshift.specs.Xorshift.{drawn, next}

-- a seed of 32 bits that is not 0
pub record Seed (x : ℕ) : Type 0 where
  pub below : x < 2 ^ 32
  pub not_zero : x ≡ 0 → ⊥

-- first: seed 1 gives 270369 first
-- after, always: one draw, and any number of draws, give 32 bits that are not 0
pub record NeverZero : Type 0 where
  pub first : next 1 ≡ 270369
  pub after : (x : ℕ) → Seed x → Seed (next x)
  pub always : (k seed : ℕ) → Seed seed → Seed (drawn k seed)
