-- Demand 3 on what a caller sees: records, hold-back queues (document 01: shelves), frame bytes, answers. One statement about every list of calls.
-- A list's steps are calls of `send_call`, `offer_call` and `deliver_call`, the definitions that the promises of send, offer and deliver cite.
use Rattle.std.specs.Prelude.{ℕ, zero, suc, ◌+◌, ◌-◌, ◌≤◌, ◌<◌, Bool, true, cond, List, [], ◌∷◌, ◌++◌, map, ◌⊎◌, ◌≡◌, eqb, ltb, length, take, drop}
use Rattle.std.proofs.Math.Option.{Option, none, some}
use Rattle.std.proofs.Math.ListN.{get_elem?}
use Rattle.wire.specs.Limits.{max_body, max_held}
use Rattle.wire.specs.Bytes.{AllBytes}
use Rattle.matrix.specs.Matrix.{count}
use Rattle.matrix.specs.Array.{entry}
use Rattle.matrix.specs.Message.{number, EachInRange}
use Rattle.protocol.specs.Node.{update}
use Rattle.frame.specs.Header.{header, own_length}
use Rattle.frame.specs.Frame.{decode}
use Rattle.holdback.specs.Slots.{queue_size, zeros, held_frames}
use Rattle.node.specs.declared.Node.{Node as Record}
use Rattle.node.specs.SendAnswer.{SendAnswer}
use Rattle.node.specs.OfferAnswer.{OfferAnswer}
use Rattle.node.specs.DeliverAnswer.{DeliverAnswer}
use Rattle.node.specs.OfferAnswer as offer
use Rattle.node.specs.DeliverAnswer as deliver
use Rattle.node.specs.SetUp.{set_up}
use Rattle.node.specs.Answers.{send_number, offer_number, deliver_number, send_bytes, deliver_bytes, AfterSend, AfterOffer, AfterDeliver}
use Rattle.node.specs.Sizes.{out_size}
use Rattle.node.specs.Calls.{send_call, offer_call, deliver_call}

-- ---- A list of steps

-- a step: a send at a node, to any number, by any class, of any body, lent the frame output `out`; an offer at a node of an issue (counted from 0);
-- or a deliver at a node, lent the frame output and the body output. Lent outputs have any bytes and any length.
pub data Step : Type 0 where
  sends : (node to class : ℕ) (body out : List ℕ) → Step
  offers : (node issue : ℕ) → Step
  delivers : (node : ℕ) (out body : List ℕ) → Step

-- the bodies that a list sends are made of bytes, as slices of u8 are
abbrev pub BodiesOfBytes : List Step → Type 0
BodiesOfBytes [] = Unit {0}
BodiesOfBytes (sends i to class body out ∷ l) = AllBytes body × BodiesOfBytes l
BodiesOfBytes (offers i p ∷ l) = BodiesOfBytes l
BodiesOfBytes (delivers i out body ∷ l) = BodiesOfBytes l

-- the whole answer of a step's call
pub data Answer : Type 0 where
  sent : SendAnswer → Answer
  offered : OfferAnswer → Answer
  delivered : DeliverAnswer → Answer

-- document 01's number of a refusal, and 0 where the call is not refused
abbrev pub refusal : Answer → ℕ
refusal (sent a) = send_number a
refusal (offered a) = offer_number a
refusal (delivered a) = deliver_number a

-- a step is accepted when it is not refused
abbrev pub accepted : Answer → Bool
accepted a = eqb (refusal a) 0

-- how many bytes of the frame output an answer counts
abbrev pub bytes_issued : Answer → ℕ
bytes_issued (sent a) = send_bytes a
bytes_issued (offered a) = 0
bytes_issued (delivered a) = deliver_bytes a

-- at most k frames that stand end to end, each cut off by its own e and b. A frame has 12 bytes or more, so k rounds are enough for k bytes,
-- and k only shows that the cutting ends. Of bytes that are no frames the last piece is what is left; a call writes none such.
unfoldable pub cut_for : ℕ → List ℕ → List (List ℕ)
cut_for zero s = []
cut_for (suc k) [] = []
cut_for (suc k) (b ∷ s) = let size : ℕ = own_length (header (b ∷ s)) in take size (b ∷ s) ∷ cut_for k (drop size (b ∷ s))

-- the frames that stand end to end in a run of bytes
abbrev pub frames_in : List ℕ → List (List ℕ)
frames_in s = cut_for (length s) s

-- the frames that a call issued, in issue order: those among the bytes of its frame output, as the call left it, that its answer counts
abbrev pub issued_frames : Answer → List ℕ → List (List ℕ)
issued_frames a out = frames_in (take (bytes_issued a) out)

-- an issued frame, and the place in the history of the step that issued it
pub record Issue : Type 0 where
  pub step : ℕ
  pub frame : List ℕ

-- the frame s as the step t issued it
abbrev pub issued_by : ℕ → List ℕ → Issue
issued_by t s = record { step = t; frame = s }

-- a step that was made: its node, which step it was, and the whole answer of its call
pub record Event : Type 0 where
  pub node : ℕ
  pub step : Step
  pub answer : Answer

-- each node's record and queue as the last call at that node left them, the issued frames in issue order, and the steps made
pub record World : Type 0 where
  pub records : ℕ → Record
  pub queues : ℕ → List ℕ
  pub log : List Issue
  pub history : List Event

-- for each me below n the record that set-up returns for its cap, and a queue of 12,832 zeros
abbrev pub start : ℕ → (ℕ → ℕ) → World
start n caps = record { records = λ me. (set_up me n (caps me)).node; queues = λ me. zeros queue_size; log = []; history = [] }

-- issue p is g
abbrev pub IssueAt : World → ℕ → Issue → Type 0
IssueAt w p g = get_elem? w.log p ≡ some g

-- the world after the step s at node i, whose call left the record r, the queue q, the answer a and the frame output out
abbrev pub after_call : World → ℕ → Step → Record → List ℕ → Answer → List ℕ → World
after_call w i s r q a out =
    record {
      records = update w.records i r;
      queues = update w.queues i q;
      log = w.log ++ map (issued_by (length w.history)) (issued_frames a out);
      history = w.history ++ (record { node = i; step = s; answer = a } ∷ []);
    }

-- a send: the queue is not lent to it
abbrev pub send_at : World → ℕ → Step → AfterSend → World
send_at w i s c = after_call w i s c.result.node (w.queues i) (sent c.result.answer) c.out

-- an offer: no frame output is lent to it
abbrev pub offer_at : World → ℕ → Step → AfterOffer → World
offer_at w i s c = after_call w i s c.result.node c.queue (offered c.result.answer) []

-- a deliver
abbrev pub deliver_at : World → ℕ → Step → AfterDeliver → World
deliver_at w i s c = after_call w i s c.result.node c.queue (delivered c.result.answer) c.out

-- an offer at node i of issue p, if it was issued earlier: the call is lent the frame's bytes as issued
abbrev pub offer_issue : World → ℕ → ℕ → Option Issue → World
offer_issue w i p none = w
offer_issue w i p (some g) = offer_at w i (offers i p) (offer_call (w.records i) g.frame (w.queues i))

-- a step of a list of n nodes; one at no node of the list, or an offer of what was not issued earlier, is no step: the world stays as it is
unfoldable pub step : ℕ → World → Step → World
step n w (sends i to class body out) = cond (ltb i n) (send_at w i (sends i to class body out) (send_call (w.records i) to class body out)) w
step n w (offers i p) = cond (ltb i n) (offer_issue w i p (get_elem? w.log p)) w
step n w (delivers i out body) = cond (ltb i n) (deliver_at w i (delivers i out body) (deliver_call (w.records i) (w.queues i) out body)) w

-- the steps of a list, one after the other
abbrev pub run : ℕ → World → List Step → World
run n w [] = w
run n w (s ∷ l) = run n (step n w s) l

-- the sum, over a history, of a number of each answer
abbrev pub sum_over : (Answer → ℕ) → List Event → ℕ
sum_over f [] = 0
sum_over f (e ∷ l) = f e.answer + sum_over f l

-- ---- Delivered, and happened before: both are read off the history and the log

-- what a frame says of itself, and what a delivery's answer says of the frame delivered: kind (1 user, 2 extra), from and number
pub record Label : Type 0 where
  pub kind : ℕ
  pub from : ℕ
  pub number : ℕ

-- of a frame: its number is one more than its entry in row from, column to
abbrev pub label : List ℕ → Label
label s = record { kind = (header s).kind; from = (header s).from; number = number (decode s) }

-- of an answer, if it is a delivery's
abbrev pub delivery : Answer → Option Label
delivery (sent a) = none
delivery (offered a) = none
delivery (delivered (deliver.Refused k)) = none
delivery (delivered (deliver.Nothing tried)) = none
delivery (delivered (deliver.Frame d)) = some (record { kind = d.kind; from = d.from; number = d.number })

-- the destination of a frame
abbrev pub destination : List ℕ → ℕ
destination s = (header s).to

-- a user frame
abbrev pub User : List ℕ → Type 0
User s = (header s).kind ≡ 1

-- step t delivers the frame s: it is a deliver at the frame's to that answers with its kind, from and number
pub record DeliveredAt (history : List Event) (t : ℕ) (s : List ℕ) : Type 0 where
  pub event : Event
  pub at : get_elem? history t ≡ some event
  pub here : event.node ≡ destination s
  pub names : delivery event.answer ≡ some (label s)

-- step a happened before step b: both are accepted steps of one node, a earlier; or a sent the user frame that b delivers; or a chain of these
pub data HappenedBefore (log : List Issue) (history : List Event) : ℕ → ℕ → Type 0 where
  same_node : (a b : ℕ) (e f : Event) → a < b → get_elem? history a ≡ some e → get_elem? history b ≡ some f → accepted e.answer ≡ true
      → accepted f.answer ≡ true → e.node ≡ f.node
      → HappenedBefore log history a b
  message : (a b p : ℕ) (g : Issue) → get_elem? log p ≡ some g → User g.frame → g.step ≡ a
      → DeliveredAt history b g.frame → HappenedBefore log history a b
  chain : (a b c : ℕ) → HappenedBefore log history a b → HappenedBefore log history b c → HappenedBefore log history a c

-- some step delivered the frame
abbrev pub Delivered : World → List ℕ → Type 0
Delivered w s = (t : ℕ) × DeliveredAt w.history t s

-- ---- Held

-- issue p, the frame s, is held: an offer of it at its destination was accepted, and it is not delivered
pub record Held (w : World) (p : ℕ) (s : List ℕ) : Type 0 where
  pub place : ℕ
  pub event : Event
  pub at : get_elem? w.history place ≡ some event
  pub offered : event.step ≡ offers (destination s) p
  pub accepted : accepted event.answer ≡ true
  pub undelivered : ¬ Delivered w s

-- 1 for an accepted offer
abbrev pub offers_accepted : Answer → ℕ
offers_accepted (sent a) = 0
offers_accepted (offered (offer.Refused k)) = 0
offers_accepted (offered (offer.Held held ready)) = 1
offers_accepted (delivered a) = 0

-- 1 for a delivery
abbrev pub deliveries : Answer → ℕ
deliveries (sent a) = 0
deliveries (offered a) = 0
deliveries (delivered (deliver.Refused k)) = 0
deliveries (delivered (deliver.Nothing tried)) = 0
deliveries (delivered (deliver.Frame d)) = 1

-- how many such answers node j has given
abbrev pub answers_at : (Answer → ℕ) → ℕ → List Event → ℕ
answers_at f j [] = 0
answers_at f j (e ∷ l) = cond (eqb e.node j) (f e.answer) 0 + answers_at f j l

-- how many frames are held at node j: the accepted offers there less the deliveries there, of which there are never more; `agrees` below
-- shows that the node's record has this number
abbrev pub held_at : World → ℕ → ℕ
held_at w j = answers_at offers_accepted j w.history - answers_at deliveries j w.history

-- the frames in the queue of node j, as many as its record says
abbrev pub queued : World → ℕ → List (List ℕ)
queued w j = held_frames (w.records j).held (w.queues j)

-- record and queue of node j agree with the history: the record says how many are held, and the queue has exactly the held frames, each once
pub record HeldAgrees (w : World) (j : ℕ) : Type 0 where
  pub number : (w.records j).held ≡ held_at w j
  pub each : (h : ℕ) (s : List ℕ) → get_elem? (queued w j) h ≡ some s → (p : ℕ) × (g : Issue) × IssueAt w p g × (g.frame ≡ s) × (destination s ≡ j) × Held w p s
  pub all : (p : ℕ) (g : Issue) → IssueAt w p g → destination g.frame ≡ j → Held w p g.frame → (h : ℕ) × (get_elem? (queued w j) h ≡ some g.frame)
  pub apart : (h k : ℕ) (s : List ℕ) → get_elem? (queued w j) h ≡ some s → get_elem? (queued w j) k ≡ some s → h ≡ k

-- ---- Demand 3

-- issue p, which is g, is the earliest undelivered one
pub record Earliest (w : World) (p : ℕ) (g : Issue) : Type 0 where
  pub at : IssueAt w p g
  pub undelivered : ¬ Delivered w g.frame
  pub earlier : (q : ℕ) (h : Issue) → q < p → IssueAt w q h → Delivered w h.frame

-- the frame has this cap, and the matrix that it carries is within it: by the frame's own e, and as the matrix that the frame reads as
pub record CarriesFew (cap : ℕ) (s : List ℕ) : Type 0 where
  pub own : (header s).cap ≡ cap
  pub e : (header s).e ≤ cap
  pub matrix : count (decode s).entries ≤ cap

-- a deliver at node j, made now and lent any outputs that are long enough, delivers an issued frame to j that was not delivered before
pub record DeliversNew (w : World) (j : ℕ) : Type 0 where
  pub place : ℕ
  pub issue : Issue
  pub at : IssueAt w place issue
  pub here : destination issue.frame ≡ j
  pub new : ¬ Delivered w issue.frame
  pub answers : (out body : List ℕ) → out_size ≤ length out → max_body ≤ length body
      → delivery (delivered (deliver_call (w.records j) (w.queues j) out body).result.answer) ≡ some (label issue.frame)

-- what demand 3 says of the world that a list of steps of n nodes with these caps leads to
-- causal: of two user frames to one node, the first sent before the second, the second is delivered only after the first
-- once: no frame is delivered twice; distinct: from, to and number name one issued frame
-- kept, carried: a kept matrix has at most its node's cap of non-zero entries; a frame has its sender's cap, and carries at most as many (document 02, (x))
-- exists: where a frame is undelivered, there is an earliest such frame
-- accepts: where that one is not held, and fewer than 16 are held at its destination, an offer of it there is accepted
-- delivers: where it is held, or 16 are held there, a deliver there delivers a frame that was not delivered before
-- agrees: what is held by the history is what the record counts and the queue has
pub record Demand3For (n : ℕ) (caps : ℕ → ℕ) (w : World) : Type 0 where
  pub causal : (p q u : ℕ) (g h : Issue) → IssueAt w p g → IssueAt w q h → User g.frame → User h.frame → destination g.frame ≡ destination h.frame
      → HappenedBefore w.log w.history g.step h.step → DeliveredAt w.history u h.frame
      → (t : ℕ) × (t < u) × DeliveredAt w.history t g.frame
  pub once : (p t u : ℕ) (g : Issue) → IssueAt w p g → DeliveredAt w.history t g.frame → DeliveredAt w.history u g.frame → t ≡ u
  pub distinct : (p q : ℕ) (g h : Issue) → IssueAt w p g → IssueAt w q h → (header g.frame).from ≡ (header h.frame).from
      → destination g.frame ≡ destination h.frame
      → number (decode g.frame) ≡ number (decode h.frame) → p ≡ q
  pub kept : (i : ℕ) → i < n → count (entry (w.records i).m) ≤ caps i
  pub carried : (p : ℕ) (g : Issue) → IssueAt w p g → CarriesFew (caps (header g.frame).from) g.frame
  pub exists : (p : ℕ) (g : Issue) → IssueAt w p g → ¬ Delivered w g.frame → (q : ℕ) × (h : Issue) × Earliest w q h
  pub accepts : (p : ℕ) (g : Issue) → Earliest w p g → ¬ Held w p g.frame → held_at w (destination g.frame) < max_held
      → offer_number (offer_call (w.records (destination g.frame)) g.frame (w.queues (destination g.frame))).result.answer ≡ 0
  pub delivers : (p : ℕ) (g : Issue) → Earliest w p g → Held w p g.frame ⊎ (held_at w (destination g.frame) ≡ max_held)
      → DeliversNew w (destination g.frame)
  pub agrees : (j : ℕ) → j < n → HeldAgrees w j

-- demand 3: for every n from 2 to 12, any caps from n to n * n, one for each node, and every list of fewer than 1,000,000,000 steps
abbrev pub Demand3 : Type 0
Demand3 = (n : ℕ) (caps : ℕ → ℕ) → EachInRange n caps → (steps : List Step) → BodiesOfBytes steps → length steps < 1000000000
    → Demand3For n caps (run n (start n caps) steps)
