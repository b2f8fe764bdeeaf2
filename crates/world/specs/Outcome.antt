-- What a step leads to: a refusal's number; a send and its extra frames; an offer, how many frames are held now and whether this one was deliverable at that
-- moment; that none of the tried held frames is deliverable; or a delivery, its issue counted from 1, how many held frames were tried, and its extra frames.
use Rattle.std.specs.Prelude.{ℕ, Bool}

pub data Outcome : Type 0 where
  Refused : ℕ → Outcome
  Sent : (extras : ℕ) → Outcome
  Held : (count : ℕ) (ready : Bool) → Outcome
  Nothing : (tried : ℕ) → Outcome
  Delivered : (issue tried extras : ℕ) → Outcome
