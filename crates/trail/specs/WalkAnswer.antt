-- What a whole walk answers.
use Rattle.std.specs.Prelude.{ℕ, Result, Ok, Err}
use Rattle.refusal.specs.Numbers.{number}
use Rattle.refusal.specs.declared.Refusal.{Refusal}

-- a refusal's number, or the largest count of extra frames in a window
pub data WalkAnswer : Type 0 where
  Refused : ℕ → WalkAnswer
  Largest : ℕ → WalkAnswer

-- the result of the call, as this answer
abbrev pub walk_answered : Result ℕ Refusal → WalkAnswer
walk_answered (Ok most) = Largest most
walk_answered (Err why) = Refused (number why)
