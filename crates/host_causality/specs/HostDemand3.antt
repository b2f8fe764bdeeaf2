-- Demand 3 for a host, on what it sees: node images, hold-back queues (document 01: shelves), returned numbers, answer bytes and frame bytes.
-- One statement about every list of calls of `exported_set_up`, `exported_send`, `exported_offer` and `exported_deliver`, the definitions that the promises of
-- the exported functions cite. What an issue, a delivery, happened before and held are, is said in `causality` (specs/Demand3) and not again.
use Rattle.std.specs.Prelude.{ℕ, ◌≤◌, ◌<◌, false, cond, List, [], ◌∷◌, ◌++◌, map, ◌⊎◌, ◌≡◌, eqb, ltb, length, get_or, take}
use Rattle.std.proofs.Math.Option.{Option, none, some}
use Rattle.std.proofs.Math.ListN.{get_elem?}
use Rattle.wire.specs.Limits.{max_body, max_held}
use Rattle.wire.specs.Bytes.{u16_at, u32_at}
use Rattle.matrix.specs.Message.{EachInRange}
use Rattle.protocol.specs.Node.{update}
use Rattle.holdback.specs.Slots.{queue_size, zeros}
use Rattle.node.specs.Delivered.{Delivered as DeliveredFrame}
use Rattle.node.specs.SendAnswer.{SendAnswer}
use Rattle.node.specs.OfferAnswer.{OfferAnswer}
use Rattle.node.specs.DeliverAnswer.{DeliverAnswer}
use Rattle.node.specs.SendAnswer as send
use Rattle.node.specs.OfferAnswer as offer
use Rattle.node.specs.DeliverAnswer as deliver
use Rattle.node.specs.Sizes.{out_size}
use Rattle.causality.specs.Demand3.{Step, sends, offers, delivers, BodiesOfBytes, Answer, sent, offered, delivered, Issue, issued_by, frames_in, Event, World}
use Rattle.causality.specs.Demand3.{IssueAt, Label, label, destination, Delivered, Held, held_at, Earliest, Demand3For}
use Rattle.causality.specs.ListRefusals.{ListRefusalsFor}
use Rattle.causality.specs.AcceptedOnce.{AcceptedOnceFor}
use Rattle.causality.specs.Ceiling.{CeilingFor}
use Rattle.causality.specs.FrameSizes.{FrameSizesFor}
use Rattle.causality.specs.Rights.{RightsFor, Sendable}
use Rattle.rights.specs.Ours.{MaySend}
use Rattle.rights.specs.Topics.{group_of}
use Rattle.image.specs.Image.{SoundImage, record_in}
use Rattle.host.specs.Exports.{answer_size, SendLeft, OfferLeft, DeliverLeft, exported_set_up, exported_send, exported_offer, exported_deliver}

-- ---- The host's world

-- a step that was made: its node, which step it was, the returned number, and the answer's bytes as the call left them
pub record HostEvent : Type 0 where
  pub node : ℕ
  pub step : Step
  pub status : ℕ
  pub answer : List ℕ

-- each node's image and queue as the last call that was lent them left them, the issued frames in issue order, and the steps made
pub record HostWorld : Type 0 where
  pub images : ℕ → List ℕ
  pub queues : ℕ → List ℕ
  pub log : List Issue
  pub history : List HostEvent

-- ---- An answer's bytes

abbrev pub kind_in : List ℕ → ℕ
kind_in a = get_or a 0 0

abbrev pub from_in : List ℕ → ℕ
from_in a = get_or a 1 0

abbrev pub number_in : List ℕ → ℕ
number_in a = u32_at a 2

-- document 01: looked
abbrev pub tried_in : List ℕ → ℕ
tried_in a = get_or a 6 0

abbrev pub body_in : List ℕ → ℕ
body_in a = get_or a 7 0

abbrev pub extras_in : List ℕ → ℕ
extras_in a = get_or a 8 0

abbrev pub bytes_in : List ℕ → ℕ
bytes_in a = u16_at a 9

-- all that a delivery names
abbrev pub delivered_in : List ℕ → DeliveredFrame
delivered_in a =
    record { kind = kind_in a; from = from_in a; number = number_in a; tried = tried_in a; body = body_in a; bytes = bytes_in a; extras = extras_in a }

-- how many bytes of its frame output a call issued
abbrev pub bytes_told : ℕ → List ℕ → ℕ
bytes_told status a = cond (eqb status 0) (bytes_in a) 0

-- kind, from and number of the frame that a deliver delivered
abbrev pub label_in : List ℕ → Label
label_in a = record { kind = kind_in a; from = from_in a; number = number_in a }

-- ---- A step of the list: made with the node's latest image and queue

-- the world after the step s at node i, whose call returned `status` and left the image, the queue, the answer's bytes and the frame output
abbrev pub after_made : HostWorld → ℕ → Step → (image queue : List ℕ) → ℕ → (answer out : List ℕ) → HostWorld
after_made w i s image queue status answer out =
    record {
      images = update w.images i image;
      queues = update w.queues i queue;
      log = w.log ++ map (issued_by (length w.history)) (frames_in (take (bytes_told status answer) out));
      history = w.history ++ (record { node = i; step = s; status = status; answer = answer } ∷ []);
    }

-- a send: the queue is not lent to it
abbrev pub send_made : HostWorld → ℕ → Step → SendLeft → HostWorld
send_made w i s c = after_made w i s c.image (w.queues i) c.status c.answer c.out

-- an offer: no frame output is lent to it
abbrev pub offer_made : HostWorld → ℕ → Step → OfferLeft → HostWorld
offer_made w i s c = after_made w i s c.image c.queue c.status c.answer []

-- a deliver
abbrev pub deliver_made : HostWorld → ℕ → Step → DeliverLeft → HostWorld
deliver_made w i s c = after_made w i s c.image c.queue c.status c.answer c.out

-- an offer at node i of issue p, if it was issued earlier: the call is lent the frame's bytes as issued
abbrev pub issue_made : HostWorld → ℕ → ℕ → List ℕ → Option Issue → HostWorld
issue_made w i p answer none = w
issue_made w i p answer (some g) = offer_made w i (offers i p) (exported_offer (w.images i) g.frame (w.queues i) answer)

-- a step of a list of n nodes, lent `answer`; one at no node of the list, or an offer of what was not issued earlier, is no step
unfoldable pub made_step : ℕ → HostWorld → Step → List ℕ → HostWorld
made_step n w (sends i to class body out) answer = cond (ltb i n) (send_made w i (sends i to class body out) (exported_send (w.images i) to class body out answer)) w
made_step n w (offers i p) answer = cond (ltb i n) (issue_made w i p answer (get_elem? w.log p)) w
made_step n w (delivers i out body) answer =
    cond (ltb i n) (deliver_made w i (delivers i out body) (exported_deliver (w.images i) (w.queues i) out body answer)) w

-- ---- A stray call: any call beside the steps, which must be refused

-- the image or the queue that a stray call is lent: the latest of a node, or any other bytes
pub data Lent : Type 0 where
  latest : (node : ℕ) → Lent
  other : List ℕ → Lent

-- set-up, send, offer or deliver with any numbers and any bytes
pub data Stray : Type 0 where
  stray_set_up : (image : Lent) (me n cap : ℕ) → Stray
  stray_send : (image : Lent) (to class : ℕ) (body out answer : List ℕ) → Stray
  stray_offer : (image : Lent) (frame : List ℕ) (queue : Lent) (answer : List ℕ) → Stray
  stray_deliver : (image queue : Lent) (out body answer : List ℕ) → Stray

-- the bytes lent, of the nodes' images or of their queues
abbrev pub lent_bytes : (ℕ → List ℕ) → Lent → List ℕ
lent_bytes v (latest i) = v i
lent_bytes v (other s) = s

-- where they were a node's, the node's are now what the call left
abbrev pub put_back : (ℕ → List ℕ) → Lent → List ℕ → ℕ → List ℕ
put_back v (latest i) left = update v i left
put_back v (other s) left = v

-- what a stray call returns, and the images and queues after it; a set-up and a send are lent no queue
pub record StrayLeft : Type 0 where
  pub status : ℕ
  pub images : ℕ → List ℕ
  pub queues : ℕ → List ℕ

abbrev pub stray_left : HostWorld → Stray → StrayLeft
stray_left w (stray_set_up i me n cap) =
    let c = exported_set_up (lent_bytes w.images i) me n cap in
    record { status = c.status; images = put_back w.images i c.image; queues = w.queues }
stray_left w (stray_send i to class body out answer) =
    let c = exported_send (lent_bytes w.images i) to class body out answer in
    record { status = c.status; images = put_back w.images i c.image; queues = w.queues }
stray_left w (stray_offer i frame q answer) =
    let c = exported_offer (lent_bytes w.images i) frame (lent_bytes w.queues q) answer in
    record { status = c.status; images = put_back w.images i c.image; queues = put_back w.queues q c.queue }
stray_left w (stray_deliver i q out body answer) =
    let c = exported_deliver (lent_bytes w.images i) (lent_bytes w.queues q) out body answer in
    record { status = c.status; images = put_back w.images i c.image; queues = put_back w.queues q c.queue }

abbrev pub after_stray : HostWorld → StrayLeft → HostWorld
after_stray w c = record { images = c.images; queues = c.queues; log = w.log; history = w.history }

-- ---- A list of calls

-- a step of the list, with the bytes lent for its answer, or a stray call
pub data Call : Type 0 where
  made : Step → (answer : List ℕ) → Call
  stray : Stray → Call

abbrev pub call : ℕ → HostWorld → Call → HostWorld
call n w (made s answer) = made_step n w s answer
call n w (stray s) = after_stray w (stray_left w s)

-- the calls of a list, one after the other
abbrev pub host_run : ℕ → HostWorld → List Call → HostWorld
host_run n w [] = w
host_run n w (c ∷ l) = host_run n (call n w c) l

-- its steps
abbrev pub steps_of : List Call → List Step
steps_of [] = []
steps_of (made s answer ∷ l) = s ∷ steps_of l
steps_of (stray s ∷ l) = steps_of l

-- a step is lent an answer that is long enough (with a shorter one it is refused with 3, and is a stray call); a stray call is refused
abbrev pub Allowed : HostWorld → Call → Type 0
Allowed w (made s answer) = answer_size ≤ length answer
Allowed w (stray s) = ¬ ((stray_left w s).status ≡ 0)

-- each call of a list, in the world in which it is made
abbrev pub EachAllowed : ℕ → HostWorld → List Call → Type 0
EachAllowed n w [] = Unit {0}
EachAllowed n w (c ∷ l) = Allowed w c × EachAllowed n (call n w c) l

-- each node is set up once, on any bytes `lent me`, and has a queue of 12,832 zeros
abbrev pub host_start : (lent : ℕ → List ℕ) (n : ℕ) (caps : ℕ → ℕ) → HostWorld
host_start lent n caps = record { images = λ me. (exported_set_up (lent me) me n (caps me)).image; queues = λ me. zeros queue_size; log = []; history = [] }

-- what is asked of the host: no set-up is refused, the bodies that it sends are made of bytes, fewer than 1,000,000,000 of its calls are steps (there may be
-- any number of stray calls), and each call is allowed
pub record HostKeeps (n : ℕ) (caps : ℕ → ℕ) (lent : ℕ → List ℕ) (calls : List Call) : Type 0 where
  pub set_ups : (me : ℕ) → me < n → (exported_set_up (lent me) me n (caps me)).status ≡ 0
  pub bodies : BodiesOfBytes (steps_of calls)
  pub few : length (steps_of calls) < 1000000000
  pub each : EachAllowed n (host_start lent n caps) calls

-- ---- What the host sees, in the words of demand 3

-- the answers of a send, an offer and a deliver, read off the returned number and the answer's bytes; an accepted offer names nothing
abbrev pub read_send : ℕ → List ℕ → SendAnswer
read_send status a = cond (eqb status 0) (send.Sent (bytes_in a) (extras_in a)) (send.Refused status)

abbrev pub read_offer : ℕ → OfferAnswer
read_offer status = cond (eqb status 0) (offer.Held 0 false) (offer.Refused status)

-- a delivery has a kind, 1 or 2; a deliver of none has 0
abbrev pub read_delivery : List ℕ → DeliverAnswer
read_delivery a = cond (eqb (kind_in a) 0) (deliver.Nothing (tried_in a)) (deliver.Frame (delivered_in a))

abbrev pub read_deliver : ℕ → List ℕ → DeliverAnswer
read_deliver status a = cond (eqb status 0) (read_delivery a) (deliver.Refused status)

abbrev pub read_answer : Step → ℕ → List ℕ → Answer
read_answer (sends i to class body out) status a = sent (read_send status a)
read_answer (offers i p) status a = offered (read_offer status)
read_answer (delivers i out body) status a = delivered (read_deliver status a)

abbrev pub seen_event : HostEvent → Event
seen_event e = record { node = e.node; step = e.step; answer = read_answer e.step e.status e.answer }

-- the world of demand 3 that the host sees
abbrev pub seen : HostWorld → World
seen w = record { records = λ i. record_in (w.images i); queues = w.queues; log = w.log; history = map seen_event w.history }

-- ---- Demand 3 for the host

-- a deliver at node j, made now and lent outputs and an answer that are long enough, returns 0, and the answer's bytes name
-- an issued frame to j that was not delivered before
pub record HostDelivers (w : HostWorld) (j : ℕ) : Type 0 where
  pub place : ℕ
  pub issue : Issue
  pub at : IssueAt (seen w) place issue
  pub here : destination issue.frame ≡ j
  pub new : ¬ Delivered (seen w) issue.frame
  pub answers : (out body answer : List ℕ) → out_size ≤ length out → max_body ≤ length body → answer_size ≤ length answer
      → (let c : DeliverLeft = exported_deliver (w.images j) (w.queues j) out body answer in (c.status ≡ 0) × (label_in c.answer ≡ label issue.frame))

-- demand3: all that demand 3 says, of the world that the host sees
-- accepts, delivers: what demand 3 promises of a next call, of the exported calls
-- permits, forbids: a send that meets none of the other checks is not refused by a class that may send its body, and is with 21 by another
-- images: no further call is refused with 20
-- refusals: with which numbers the steps can be refused; accepted_once: no frame is accepted twice; rights: who may say what
-- ceiling: how many extra frames are issued at most, by the extras that the answers' bytes report; sizes: how long frames are
pub record HostDemand3For (n : ℕ) (caps : ℕ → ℕ) (w : HostWorld) : Type 0 where
  pub demand3 : Demand3For n caps (seen w)
  pub accepts : (p : ℕ) (g : Issue) → Earliest (seen w) p g → ¬ Held (seen w) p g.frame → held_at (seen w) (destination g.frame) < max_held
      → (answer : List ℕ) → answer_size ≤ length answer
      → (exported_offer (w.images (destination g.frame)) g.frame (w.queues (destination g.frame)) answer).status ≡ 0
  pub delivers : (p : ℕ) (g : Issue) → Earliest (seen w) p g → Held (seen w) p g.frame ⊎ (held_at (seen w) (destination g.frame) ≡ max_held)
      → HostDelivers w (destination g.frame)
  pub permits : (i to class : ℕ) (body out answer : List ℕ) → Sendable n i to body out → answer_size ≤ length answer → MaySend class (group_of body)
      → (exported_send (w.images i) to class body out answer).status ≡ 0
  pub forbids : (i to class : ℕ) (body out answer : List ℕ) → Sendable n i to body out → answer_size ≤ length answer → ¬ MaySend class (group_of body)
      → (exported_send (w.images i) to class body out answer).status ≡ 21
  pub images : (i : ℕ) → i < n → SoundImage (w.images i)
  pub refusals : ListRefusalsFor (seen w)
  pub accepted_once : AcceptedOnceFor (seen w)
  pub rights : RightsFor n (seen w)
  pub ceiling : CeilingFor n caps (seen w)
  pub sizes : FrameSizesFor n caps (seen w)

-- for every n from 2 to 12, any caps from n to n * n, one for each node, and every list of calls of a host that keeps what is asked of it
abbrev pub HostDemand3 : Type 0
HostDemand3 = (n : ℕ) (caps : ℕ → ℕ) → EachInRange n caps → (lent : ℕ → List ℕ) (calls : List Call) → HostKeeps n caps lent calls
    → HostDemand3For n caps (host_run n (host_start lent n caps) calls)
