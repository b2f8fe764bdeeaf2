-- What the functions of this crate ask of the numbers and bytes that they are lent.
use Rattle.std.specs.Prelude.{ℕ, ◌<◌, ◌≤◌, List, Result, Ok, Err, ◌≡◌, length, take}
use Rattle.world.specs.Stored.{Begins, joined}
use Rattle.world.specs.Outcome.{Outcome}
use Rattle.world.specs.Outcome as outcome
use Rattle.world.specs.Told.{made_told}
use Rattle.world.specs.declared.Outcome.{Outcome as Made}
use Rattle.simulation.specs.declared.print.Issues.{Issues}

-- the numbers printed for an outcome have at most two digits, x three
abbrev pub Small : ℕ → Outcome → Type 0
Small x (outcome.Refused k) = Unit {0}
Small x (outcome.Sent extras) = Unit {0}
Small x (outcome.Held count ready) = (x < 1000) × (count < 100)
Small x (outcome.Nothing tried) = (x < 1000) × (tried < 100)
Small x (outcome.Delivered issue tried extras) = (x < 1000) × (issue < 100) × (tried < 100)

-- what a step led to, where a refusal is any number
abbrev pub numbered : Result Made ℕ → Outcome
numbered (Ok o) = made_told o
numbered (Err k) = outcome.Refused k

-- f are the frames that the log l begins with, of which a step issued the last: those before it end where these begin
pub record InLog (is : Issues) (l : List ℕ) (f : List (List ℕ)) : Type 0 where
  pub begins : Begins f l
  pub whole : length f ≡ is.to
  pub ends : is.place ≡ length (joined (take is.from f))

-- there are such frames, fewer than a hundred
pub record Logged (is : Issues) (l : List ℕ) : Type 0 where
  pub frames : List (List ℕ)
  pub log : InLog is l frames
  pub order : is.from ≤ is.to
  pub few : is.to < 100
