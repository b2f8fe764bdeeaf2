-- The calls on record and bytes: checks in rising order, the first that is met given; then what the protocol does on messages, written back.
-- A refusal hands back the same record and the same bytes.
use Rattle.std.specs.Prelude.{ℕ, ◌-◌, Bool, false, not, cond, ◌||◌, List, [], ◌∷◌, ◌++◌, eqb, ltb, length}
use Rattle.std.proofs.Math.Option.{Option, none, some}
use Rattle.wire.specs.Limits.{max_body}
use Rattle.wire.specs.Bytes.{put}
use Rattle.matrix.specs.Array.{list_from, flat}
use Rattle.matrix.specs.Message.{Message}
use Rattle.frame.specs.Header.{kind_byte}
use Rattle.frame.specs.Frame.{decode}
use Rattle.frame.specs.Frames.{frames_of}
use Rattle.frame.specs.Refusals.{frame_refusal}
use Rattle.protocol.specs.Answer.{Label, Answer, refused, sent, taken, nothing, delivered, accepted, issued, delivery, Outcome}
use Rattle.protocol.specs.Send.{send}
use Rattle.protocol.specs.Offer.{offer}
use Rattle.protocol.specs.Deliver.{deliver}
use Rattle.holdback.specs.Slots.{queue_size, laid, held_frames, held_messages, without}
use Rattle.holdback.specs.WrongQueue.{wrong_queue}
use Rattle.rights.specs.Ours.{ours}
use Rattle.rights.specs.Rights.{lacks_right}
use Rattle.node.specs.declared.Node.{Node as Record}
use Rattle.node.specs.SendAnswer as send_answer
use Rattle.node.specs.OfferAnswer as offer_answer
use Rattle.node.specs.DeliverAnswer as deliver_answer
use Rattle.node.specs.Sizes.{out_size}
use Rattle.node.specs.Record.{broken_record, node_of}
use Rattle.node.specs.Answers.{AfterSend, AfterOffer, AfterDeliver, after_send, after_offer, after_deliver}

-- the number of a refusal of the protocol
abbrev pub refusal : Answer → ℕ
refusal (refused k) = k
refusal (sent l) = 0
refusal (taken k b) = 0
refusal (nothing k) = 0
refusal (delivered a k b l) = 0

-- whether the message that an offer took was deliverable
abbrev pub was_ready : Answer → Bool
was_ready (refused k) = false
was_ready (sent l) = false
was_ready (taken k b) = b
was_ready (nothing k) = false
was_ready (delivered a k b l) = false

-- how many held messages a deliver tried
abbrev pub tried_by : Answer → ℕ
tried_by (refused k) = 0
tried_by (sent l) = 0
tried_by (taken k b) = 0
tried_by (nothing k) = k
tried_by (delivered a k b l) = k

-- the body that a deliver wrote
abbrev pub body_of : Answer → List ℕ
body_of (refused k) = []
body_of (sent l) = []
body_of (taken k b) = []
body_of (nothing k) = []
body_of (delivered a k b l) = b

-- ---- send

-- a send that is refused
abbrev pub refuse_send : ℕ → Record → List ℕ → AfterSend
refuse_send k r out = after_send (record { answer = send_answer.Refused k; node = r }) out

-- a send that is not: the frames are written from the front of the output on, and the matrix is the protocol's
abbrev pub accept_send : Record → List ℕ → Outcome → AfterSend
accept_send r out o =
    let l : List Message = issued o.answer in
    after_send
    (record {
      answer = send_answer.Sent (length (frames_of l)) (length l - 1);
      node = record { me = r.me; n = r.n; cap = r.cap; m = flat o.node.matrix; deliv = r.deliv; held = r.held };
    })
    (put out 0 (frames_of l))

-- a send that the protocol accepts: 21 by our table of rights, which is the last check
abbrev pub permit_send : Record → (class : ℕ) (body out : List ℕ) → Outcome → AfterSend
permit_send r class body out o = cond (lacks_right ours class body) (refuse_send 21 r out) (accept_send r out o)

-- send, to a node, by a class: checks 2, 3, then the protocol's 5 to 7, and then 21
unfoldable pub send_call : Record → (to class : ℕ) (body out : List ℕ) → AfterSend
send_call r to class body out =
    let o : Outcome = send (node_of r []) to body in
    cond (broken_record r) (refuse_send 2 r out)
    (cond (ltb (length out) out_size) (refuse_send 3 r out)
    (cond (accepted o.answer) (permit_send r class body out o) (refuse_send (refusal o.answer) r out)))

-- ---- offer

-- an offer that is refused
abbrev pub refuse_offer : ℕ → Record → List ℕ → AfterOffer
refuse_offer k r q = after_offer (record { answer = offer_answer.Refused k; node = r }) q

-- an offer that is not: the frame is laid behind the held ones
abbrev pub accept_offer : Record → List ℕ → List ℕ → Outcome → AfterOffer
accept_offer r s q o =
    after_offer
    (record {
      answer = offer_answer.Held (length o.node.held) (was_ready o.answer);
      node = record { me = r.me; n = r.n; cap = r.cap; m = r.m; deliv = r.deliv; held = length o.node.held };
    })
    (laid (held_frames r.held q ++ (s ∷ [])))

-- offer: checks 2 to 4, 8 to 11, and then the protocol's 12 to 16
unfoldable pub offer_call : Record → List ℕ → List ℕ → AfterOffer
offer_call r s q =
    let o : Outcome = offer (node_of r (held_messages r.held q)) (decode s) in
    cond (broken_record r) (refuse_offer 2 r q)
    (cond (not (eqb (length q) queue_size)) (refuse_offer 3 r q)
    (cond (wrong_queue (node_of r []) r.held q) (refuse_offer 4 r q)
    (cond (not (eqb (frame_refusal r.n s) 0)) (refuse_offer (frame_refusal r.n s) r q)
    (cond (accepted o.answer) (accept_offer r s q o) (refuse_offer (refusal o.answer) r q)))))

-- ---- deliver

-- a deliver that is refused
abbrev pub refuse_deliver : ℕ → Record → List ℕ → List ℕ → List ℕ → AfterDeliver
refuse_deliver k r q out body = after_deliver (record { answer = deliver_answer.Refused k; node = r }) q out body

-- a deliver that is not: none is deliverable, or one is taken out of the queue, its body is written, and the extra frames are
abbrev pub accept_deliver : Record → List ℕ → List ℕ → List ℕ → Outcome → Option Label → AfterDeliver
accept_deliver r q out body o none = after_deliver (record { answer = deliver_answer.Nothing (tried_by o.answer); node = r }) q out body
accept_deliver r q out body o (some a) =
    let bytes : List ℕ = frames_of (issued o.answer) in
    let text : List ℕ = body_of o.answer in
    after_deliver
    (record {
      answer = deliver_answer.Frame (record {
        kind = kind_byte a.kind;
        from = a.from;
        number = a.number;
        tried = tried_by o.answer;
        body = length text;
        bytes = length bytes;
        extras = length (issued o.answer);
      });
      node = record { me = r.me; n = r.n; cap = r.cap; m = flat o.node.matrix; deliv = list_from 0 12 o.node.deliv; held = length o.node.held };
    })
    (laid (without (tried_by o.answer - 1) (held_frames r.held q)))
    (put out 0 bytes)
    (put body 0 text)

-- deliver: checks 2 to 4 and then the protocol's 5
unfoldable pub deliver_call : Record → List ℕ → List ℕ → List ℕ → AfterDeliver
deliver_call r q out body =
    let o : Outcome = deliver (node_of r (held_messages r.held q)) in
    cond (broken_record r) (refuse_deliver 2 r q out body)
    (cond (ltb (length out) out_size || ltb (length body) max_body || not (eqb (length q) queue_size)) (refuse_deliver 3 r q out body)
    (cond (wrong_queue (node_of r []) r.held q) (refuse_deliver 4 r q out body)
    (cond (accepted o.answer) (accept_deliver r q out body o (delivery o.answer)) (refuse_deliver (refusal o.answer) r q out body))))
