-- What the source's answers tell, in document 01's words: a refusal by its number, and otherwise the values that the answer has.
use Rattle.std.specs.Prelude.{Result, Ok, Err}
use Rattle.frame.specs.Header.{kind_byte, kind_named}
use Rattle.refusal.specs.Numbers.{number}
use Rattle.refusal.specs.declared.Refusal.{Refusal}
use Rattle.node.specs.Answers.{SetUp, Sent, Offered, Delivery}
use Rattle.node.specs.Delivered.{Delivered}
use Rattle.node.specs.DeliverAnswer.{DeliverAnswer}
use Rattle.node.specs.OfferAnswer.{OfferAnswer}
use Rattle.node.specs.SendAnswer.{SendAnswer}
use Rattle.node.specs.SetUpAnswer.{SetUpAnswer}
use Rattle.node.specs.DeliverAnswer as deliver
use Rattle.node.specs.OfferAnswer as offer
use Rattle.node.specs.SendAnswer as send
use Rattle.node.specs.SetUpAnswer as set_up
use Rattle.node.specs.declared.Delivered.{Delivered as DeliveredFrame}
use Rattle.node.specs.declared.Delivery.{Delivery as DeliverResult}
use Rattle.node.specs.declared.Found.{Found}
use Rattle.node.specs.declared.Found.TheVariants as found
use Rattle.node.specs.declared.Held.{Held}
use Rattle.node.specs.declared.Issue.{Issue}
use Rattle.node.specs.declared.Offered.{Offered as OfferResult}
use Rattle.node.specs.declared.Sent.{Sent as SendResult}
use Rattle.node.specs.declared.SetUp.{SetUp as SetUpResult}

-- of set-up
abbrev pub set_up_told : Result Unit Refusal → SetUpAnswer
set_up_told (Ok ready) = set_up.Ready
set_up_told (Err why) = set_up.Refused (number why)

-- of send
abbrev pub send_told : Result Issue Refusal → SendAnswer
send_told (Ok i) = send.Sent i.bytes i.extras
send_told (Err why) = send.Refused (number why)

-- of offer
abbrev pub offer_told : Result Held Refusal → OfferAnswer
offer_told (Ok h) = offer.Held h.count h.ready
offer_told (Err why) = offer.Refused (number why)

-- of a delivery
abbrev pub delivered_told : DeliveredFrame → Delivered
delivered_told d =
    record { kind = kind_byte (kind_named d.kind); from = d.from; number = d.number; tried = d.tried; body = d.body; bytes = d.bytes; extras = d.extras }

-- of a deliver that is not refused
abbrev pub found_told : Found → DeliverAnswer
found_told (found.Nothing tried) = deliver.Nothing tried
found_told (found.Frame d) = deliver.Frame (delivered_told d)

-- of deliver
abbrev pub deliver_told : Result Found Refusal → DeliverAnswer
deliver_told (Ok f) = found_told f
deliver_told (Err why) = deliver.Refused (number why)

-- answer and record of each call
abbrev pub told_set_up : SetUpResult → SetUp
told_set_up r = record { answer = set_up_told r.answer; node = r.node }

abbrev pub told_send : SendResult → Sent
told_send r = record { answer = send_told r.answer; node = r.node }

abbrev pub told_offer : OfferResult → Offered
told_offer r = record { answer = offer_told r.answer; node = r.node }

abbrev pub told_deliver : DeliverResult → Delivery
told_deliver r = record { answer = deliver_told r.answer; node = r.node }
