-- Delays (document 02, (v)), read off the history of a list: a frame is delayed when an offer accepts it without its being deliverable at that moment.
use Rattle.std.specs.Prelude.{ℕ, true, false, List}
use Rattle.node.specs.OfferAnswer as offer
use Rattle.causality.specs.Demand3.{Answer, Event, delivered, offered, sent, sum_over}

-- 1 for the answer of an offer that was accepted and says "not deliverable": an accepted offer says how many are held, and whether the frame is deliverable
abbrev pub delay : Answer → ℕ
delay (sent a) = 0
delay (offered (offer.Refused k)) = 0
delay (offered (offer.Held count true)) = 0
delay (offered (offer.Held count false)) = 1
delay (delivered a) = 0

-- how many such answers a history has
abbrev pub delays : List Event → ℕ
delays l = sum_over delay l
