-- What a step answers, and what it leaves: the whole answer, from which the list's log and history are read.
use Rattle.std.specs.Prelude.{ℕ, Bool, true, false, List, []}
use Rattle.std.proofs.Math.Option.{Option, none, some}
use Rattle.matrix.specs.Message.{Kind, Message, number}
use Rattle.protocol.specs.Node.{Node}

-- what a delivery's answer names of the message
pub record Label : Type 0 where
  pub kind : Kind
  pub from : ℕ
  pub number : ℕ

-- the label of a message
abbrev pub label : Message → Label
label m = record { kind = m.kind; from = m.from; number = number m }

-- the whole answer of a step
-- refused: the refusal's number
-- sent: what was issued, the user message first
-- taken: how many are held now, and whether the message was deliverable at that moment
-- nothing (document 01: none): how many were tried (document 01: looked)
-- delivered: what was delivered, how many were tried, the body, and the extra messages issued
pub data Answer : Type 0 where
  refused : ℕ → Answer
  sent : List Message → Answer
  taken : (now : ℕ) (ready : Bool) → Answer
  nothing : (tried : ℕ) → Answer
  delivered : Label → (tried : ℕ) (body : List ℕ) (extras : List Message) → Answer

-- a step is accepted when it is not refused
abbrev pub accepted : Answer → Bool
accepted (refused r) = false
accepted (sent l) = true
accepted (taken k b) = true
accepted (nothing k) = true
accepted (delivered a k b l) = true

-- the messages that a step issued, in issue order
abbrev pub issued : Answer → List Message
issued (refused r) = []
issued (sent l) = l
issued (taken k b) = []
issued (nothing k) = []
issued (delivered a k b l) = l

-- what a step delivered
abbrev pub delivery : Answer → Option Label
delivery (refused r) = none
delivery (sent l) = none
delivery (taken k b) = none
delivery (nothing k) = none
delivery (delivered a k b l) = some a

-- the answer of a step, and its node afterwards
pub record Outcome : Type 0 where
  pub answer : Answer
  pub node : Node

-- a refusal is its number; the node is unchanged
abbrev pub refuse : ℕ → Node → Outcome
refuse r d = record { answer = refused r; node = d }
