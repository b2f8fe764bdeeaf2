-- What each exported call gives back and leaves in the lent bytes: 0 or the refusal's number, the image, the buffers, and the answer's bytes.
-- On a refusal, set-up's too, every lent byte is as before. 20 stands where document 01 has 2.
use Rattle.std.specs.Prelude.{ℕ, cond, List, ◌∷◌, ◌++◌, eqb, ltb, length}
use Rattle.wire.specs.Bytes.{le16, le32, put}
use Rattle.node.specs.SetUpAnswer.{SetUpAnswer}
use Rattle.node.specs.SendAnswer.{SendAnswer}
use Rattle.node.specs.OfferAnswer.{OfferAnswer}
use Rattle.node.specs.DeliverAnswer.{DeliverAnswer}
use Rattle.node.specs.Delivered.{Delivered}
use Rattle.node.specs.declared.Node.{Node as Record}
use Rattle.node.specs.SetUpAnswer as set_up_answer
use Rattle.node.specs.SendAnswer as send_answer
use Rattle.node.specs.OfferAnswer as offer_answer
use Rattle.node.specs.DeliverAnswer as deliver_answer
use Rattle.node.specs.Answers.{AfterSend, AfterOffer, AfterDeliver}
use Rattle.node.specs.SetUp.{set_up}
use Rattle.node.specs.Calls.{send_call, offer_call, deliver_call}
use Rattle.image.specs.Image.{bad_image, image, image_size, record_in}

-- ---- the answer's bytes

-- a lent answer has at least so many bytes; those behind stay as they are
abbrev pub answer_size : ℕ
answer_size = 11

-- kind, from, number (four), looked, body bytes, extra frames issued, frame bytes issued (two)
unfoldable pub answer_bytes : (kind from number looked body extras bytes : ℕ) → List ℕ
answer_bytes kind from number looked body extras bytes = kind ∷ from ∷ (le32 number ++ (looked ∷ body ∷ extras ∷ le16 bytes))

-- a send names what it issued alone
abbrev pub send_bytes : (bytes extras : ℕ) → List ℕ
send_bytes bytes extras = answer_bytes 0 0 0 0 0 extras bytes

-- an accepted offer names nothing
abbrev pub offer_bytes : List ℕ
offer_bytes = answer_bytes 0 0 0 0 0 0 0

-- a deliver of none names how many it tried (document 01: looked)
abbrev pub nothing_bytes : ℕ → List ℕ
nothing_bytes tried = answer_bytes 0 0 0 tried 0 0 0

abbrev pub delivery_bytes : Delivered → List ℕ
delivery_bytes d = answer_bytes d.kind d.from d.number d.tried d.body d.extras d.bytes

-- ---- set-up: 1, and then the image's length

pub record SetUpLeft : Type 0 where
  pub status : ℕ
  pub image : List ℕ

abbrev pub set_up_left : ℕ → List ℕ → SetUpLeft
set_up_left status i = record { status = status; image = i }

-- by the answer of the node's set-up, and the record that comes with it
abbrev pub set_up_told : List ℕ → Record → SetUpAnswer → SetUpLeft
set_up_told i r (set_up_answer.Refused k) = set_up_left k i
set_up_told i r set_up_answer.Ready = cond (eqb (length i) image_size) (set_up_left 0 (image r)) (set_up_left 20 i)

unfoldable pub exported_set_up : List ℕ → (me n cap : ℕ) → SetUpLeft
exported_set_up i me n cap = set_up_told i (set_up me n cap).node (set_up me n cap).answer

-- ---- send: 20, 3 for a short answer, and then the node's checks

pub record SendLeft : Type 0 where
  pub status : ℕ
  pub image : List ℕ
  pub out : List ℕ
  pub answer : List ℕ

abbrev pub send_left : ℕ → List ℕ → List ℕ → List ℕ → SendLeft
send_left status i out answer = record { status = status; image = i; out = out; answer = answer }

-- by the answer of the node's send
abbrev pub send_told : List ℕ → List ℕ → AfterSend → SendAnswer → SendLeft
send_told i answer c (send_answer.Refused k) = send_left k i c.out answer
send_told i answer c (send_answer.Sent bytes extras) = send_left 0 (image c.result.node) c.out (put answer 0 (send_bytes bytes extras))

unfoldable pub exported_send : List ℕ → (to class : ℕ) (body out answer : List ℕ) → SendLeft
exported_send i to class body out answer =
    let c : AfterSend = send_call (record_in i) to class body out in
    cond (bad_image i) (send_left 20 i out answer)
    (cond (ltb (length answer) answer_size) (send_left 3 i out answer) (send_told i answer c c.result.answer))

-- ---- offer

pub record OfferLeft : Type 0 where
  pub status : ℕ
  pub image : List ℕ
  pub queue : List ℕ
  pub answer : List ℕ

abbrev pub offer_left : ℕ → List ℕ → List ℕ → List ℕ → OfferLeft
offer_left status i queue answer = record { status = status; image = i; queue = queue; answer = answer }

abbrev pub offer_told : List ℕ → List ℕ → AfterOffer → OfferAnswer → OfferLeft
offer_told i answer c (offer_answer.Refused k) = offer_left k i c.queue answer
offer_told i answer c (offer_answer.Held count ready) = offer_left 0 (image c.result.node) c.queue (put answer 0 offer_bytes)

unfoldable pub exported_offer : List ℕ → (frame queue answer : List ℕ) → OfferLeft
exported_offer i frame queue answer =
    let c : AfterOffer = offer_call (record_in i) frame queue in
    cond (bad_image i) (offer_left 20 i queue answer)
    (cond (ltb (length answer) answer_size) (offer_left 3 i queue answer) (offer_told i answer c c.result.answer))

-- ---- deliver: where none is deliverable the image is as before

pub record DeliverLeft : Type 0 where
  pub status : ℕ
  pub image : List ℕ
  pub queue : List ℕ
  pub out : List ℕ
  pub body : List ℕ
  pub answer : List ℕ

abbrev pub deliver_left : ℕ → (i queue out body answer : List ℕ) → DeliverLeft
deliver_left status i queue out body answer = record { status = status; image = i; queue = queue; out = out; body = body; answer = answer }

abbrev pub deliver_told : List ℕ → List ℕ → AfterDeliver → DeliverAnswer → DeliverLeft
deliver_told i answer c (deliver_answer.Refused k) = deliver_left k i c.queue c.out c.body answer
deliver_told i answer c (deliver_answer.Nothing tried) = deliver_left 0 i c.queue c.out c.body (put answer 0 (nothing_bytes tried))
deliver_told i answer c (deliver_answer.Frame d) = deliver_left 0 (image c.result.node) c.queue c.out c.body (put answer 0 (delivery_bytes d))

unfoldable pub exported_deliver : List ℕ → (queue out body answer : List ℕ) → DeliverLeft
exported_deliver i queue out body answer =
    let c : AfterDeliver = deliver_call (record_in i) queue out body in
    cond (bad_image i) (deliver_left 20 i queue out body answer)
    (cond (ltb (length answer) answer_size) (deliver_left 3 i queue out body answer) (deliver_told i answer c c.result.answer))
