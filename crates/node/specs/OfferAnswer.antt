-- What offer answers: a refusal's number, or how many frames are held now and whether this one was deliverable at that moment.
use Rattle.std.specs.Prelude.{ℕ, Bool}

pub data OfferAnswer : Type 0 where
  Refused : ℕ → OfferAnswer
  Held : (count : ℕ) (ready : Bool) → OfferAnswer
