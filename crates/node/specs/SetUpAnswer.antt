-- What set-up answers: a refusal's number, or that the record is ready.
use Rattle.std.specs.Prelude.{ℕ}

pub data SetUpAnswer : Type 0 where
  Refused : ℕ → SetUpAnswer
  Ready : SetUpAnswer
