-- The answers, each with the record: document 01's number of each (0 where the call is not refused), and what the caller holds after a call.
use Rattle.std.specs.Prelude.{ℕ, List}
use Rattle.node.specs.declared.Node.{Node as Record}
use Rattle.node.specs.SetUpAnswer.{SetUpAnswer}
use Rattle.node.specs.SendAnswer.{SendAnswer}
use Rattle.node.specs.OfferAnswer.{OfferAnswer}
use Rattle.node.specs.DeliverAnswer.{DeliverAnswer}
use Rattle.node.specs.SetUpAnswer as set_up
use Rattle.node.specs.SendAnswer as send
use Rattle.node.specs.OfferAnswer as offer
use Rattle.node.specs.DeliverAnswer as deliver

-- set-up's answer and the record: a fresh one, or on a refusal the all-zero one
pub record SetUp : Type 0 where
  pub answer : SetUpAnswer
  pub node : Record

-- send's answer and the record
pub record Sent : Type 0 where
  pub answer : SendAnswer
  pub node : Record

-- offer's
pub record Offered : Type 0 where
  pub answer : OfferAnswer
  pub node : Record

-- deliver's
pub record Delivery : Type 0 where
  pub answer : DeliverAnswer
  pub node : Record

-- the refusal's number of set-up's answer
abbrev pub set_up_number : SetUpAnswer → ℕ
set_up_number (set_up.Refused k) = k
set_up_number set_up.Ready = 0

-- of send's
abbrev pub send_number : SendAnswer → ℕ
send_number (send.Refused k) = k
send_number (send.Sent bytes extras) = 0

-- of offer's
abbrev pub offer_number : OfferAnswer → ℕ
offer_number (offer.Refused k) = k
offer_number (offer.Held count ready) = 0

-- of deliver's
abbrev pub deliver_number : DeliverAnswer → ℕ
deliver_number (deliver.Refused k) = k
deliver_number (deliver.Nothing tried) = 0
deliver_number (deliver.Frame d) = 0

-- how many bytes of the frame output send's answer counts
abbrev pub send_bytes : SendAnswer → ℕ
send_bytes (send.Refused k) = 0
send_bytes (send.Sent bytes extras) = bytes

-- deliver's
abbrev pub deliver_bytes : DeliverAnswer → ℕ
deliver_bytes (deliver.Refused k) = 0
deliver_bytes (deliver.Nothing tried) = 0
deliver_bytes (deliver.Frame d) = d.bytes

-- what the caller of send holds: answer and record, and the frame output
pub record AfterSend : Type 0 where
  pub result : Sent
  pub out : List ℕ

-- of offer: answer and record, and the hold-back queue
pub record AfterOffer : Type 0 where
  pub result : Offered
  pub queue : List ℕ

-- of deliver: answer and record, the hold-back queue, the frame output and the body output
pub record AfterDeliver : Type 0 where
  pub result : Delivery
  pub queue : List ℕ
  pub out : List ℕ
  pub body : List ℕ

abbrev pub after_send : Sent → List ℕ → AfterSend
after_send r out = record { result = r; out = out }

abbrev pub after_offer : Offered → List ℕ → AfterOffer
after_offer r queue = record { result = r; queue = queue }

abbrev pub after_deliver : Delivery → List ℕ → List ℕ → List ℕ → AfterDeliver
after_deliver r queue out body = record { result = r; queue = queue; out = out; body = body }
