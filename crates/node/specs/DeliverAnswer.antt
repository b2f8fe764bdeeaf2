-- What deliver answers: a refusal's number, that none of the tried held frames is deliverable, or a delivery.
use Rattle.std.specs.Prelude.{ℕ}
use Rattle.node.specs.Delivered.{Delivered}

pub data DeliverAnswer : Type 0 where
  Refused : ℕ → DeliverAnswer
  Nothing : (tried : ℕ) → DeliverAnswer
  Frame : Delivered → DeliverAnswer
