-- What a write answers.
use Rattle.std.specs.Prelude.{ℕ, Result, Ok, Err}
use Rattle.refusal.specs.Numbers.{number}
use Rattle.refusal.specs.declared.Refusal.{Refusal}

-- a refusal's number, or how many bytes are in use now
pub data WriteAnswer : Type 0 where
  Refused : ℕ → WriteAnswer
  Written : ℕ → WriteAnswer

-- the result of the call, as this answer
abbrev pub write_answered : Result ℕ Refusal → WriteAnswer
write_answered (Ok used) = Written used
write_answered (Err why) = Refused (number why)
