-- What a step answers.
use Rattle.std.specs.Prelude.{ℕ, Result, Ok, Err}
use Rattle.refusal.specs.Numbers.{number}
use Rattle.refusal.specs.declared.Refusal.{Refusal}
use Rattle.trail.specs.declared.walk.Cursor.{Cursor}
use Rattle.trail.specs.declared.walk.Stepped.{Stepped}
use Rattle.trail.specs.declared.walk.Stepped.TheVariants as stepped

-- a refusal's number, that the walk has reached the file's start, with the largest count, or the start and length of the frame shown and the next cursor
pub data StepAnswer : Type 0 where
  Refused : ℕ → StepAnswer
  End : ℕ → StepAnswer
  Shown : ℕ → ℕ → Cursor → StepAnswer

-- the result of the call, as this answer
abbrev pub step_answered : Result Stepped Refusal → StepAnswer
step_answered (Ok (stepped.End most)) = End most
step_answered (Ok (stepped.Shown start length next)) = Shown start length next
step_answered (Err why) = Refused (number why)
