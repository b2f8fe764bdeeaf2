-- What the functions that read a frame ask of its bytes: a caller has checked them before, so that they are not checked again.
use Rattle.std.specs.Prelude.{ℕ, ◌≤◌, ◌≡◌, List}
use Rattle.wire.specs.Limits.{max_nodes}
use Rattle.frame.specs.Refusals.{frame_refusal}

-- the bytes s have passed 8 to 11 for some n that is at most 12, whichever: a function that only reads them needs no more.
-- (A record that has passed check 2 has such an n.)
pub record CheckedFrame (s : List ℕ) : Type 0 where
  pub n : ℕ
  pub few : n ≤ max_nodes
  pub passes : frame_refusal n s ≡ 0
