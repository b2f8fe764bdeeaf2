-- What send answers: a refusal's number, or how many bytes and extra frames it issued.
use Rattle.std.specs.Prelude.{ℕ}

pub data SendAnswer : Type 0 where
  Refused : ℕ → SendAnswer
  Sent : (bytes extras : ℕ) → SendAnswer
