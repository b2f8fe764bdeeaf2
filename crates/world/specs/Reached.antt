-- A world that a list of demand 3 leads to.
use Rattle.std.specs.Prelude.{ℕ, ◌≤◌, List, ◌≡◌, length}
use Rattle.causality.specs.Demand3.{World, Step, BodiesOfBytes, start, run}

-- the world w is one that a list of at most k steps leads to
pub record Reached (n : ℕ) (caps : ℕ → ℕ) (k : ℕ) (w : World) : Type 0 where
  pub steps : List Step
  pub bytes : BodiesOfBytes steps
  pub few : length steps ≤ k
  pub same : w ≡ run n (start n caps) steps
