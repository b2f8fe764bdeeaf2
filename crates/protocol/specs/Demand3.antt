-- Demand 3 on messages: one statement about every list of steps.
use Rattle.std.specs.Prelude.{ℕ, ◌+◌, ◌-◌, ◌≤◌, ◌<◌, true, cond, List, [], ◌∷◌, ◌⊎◌, ◌≡◌, eqb, length}
use Rattle.std.proofs.Math.Option.{some}
use Rattle.std.proofs.Math.ListN.{get_elem?}
use Rattle.wire.specs.Limits.{max_held}
use Rattle.matrix.specs.Matrix.{count}
use Rattle.matrix.specs.Message.{user, Message, number, EachInRange}
use Rattle.protocol.specs.Answer.{label, Answer, refused, sent, taken, nothing, delivered, accepted, delivery}
use Rattle.protocol.specs.Offer.{offer}
use Rattle.protocol.specs.Deliver.{deliver}
use Rattle.protocol.specs.World.{Step, offers, Issue, Event, World, start, IssueAt, run}
use Rattle.protocol.specs.Order.{DeliveredAt, HappenedBefore}

-- some step delivered the message
abbrev pub Delivered : World → Message → Type 0
Delivered w m = (t : ℕ) × DeliveredAt w.history t m

-- issue p, the message m, is held: an offer at its destination accepted it, and it is not delivered
pub record Held (w : World) (p : ℕ) (m : Message) : Type 0 where
  pub place : ℕ
  pub event : Event
  pub at : get_elem? w.history place ≡ some event
  pub offered : event.step ≡ offers m.to p
  pub accepted : accepted event.answer ≡ true
  pub undelivered : ¬ Delivered w m

-- 1 for an accepted offer
abbrev pub offers_accepted : Answer → ℕ
offers_accepted (refused r) = 0
offers_accepted (sent l) = 0
offers_accepted (taken k b) = 1
offers_accepted (nothing k) = 0
offers_accepted (delivered a k b l) = 0

-- 1 for a delivery
abbrev pub deliveries : Answer → ℕ
deliveries (refused r) = 0
deliveries (sent l) = 0
deliveries (taken k b) = 0
deliveries (nothing k) = 0
deliveries (delivered a k b l) = 1

-- how many such answers node j has given
abbrev pub answers_at : (Answer → ℕ) → ℕ → List Event → ℕ
answers_at f j [] = 0
answers_at f j (e ∷ l) = cond (eqb e.node j) (f e.answer) 0 + answers_at f j l

-- how many are held at node j: the accepted offers there less the deliveries there
abbrev pub held_at : World → ℕ → ℕ
held_at w j = answers_at offers_accepted j w.history - answers_at deliveries j w.history

-- the queue of node j holds exactly what the history says is held there: as many, each of them, and each once
pub record QueueAgrees (w : World) (j : ℕ) : Type 0 where
  pub number : length (w.nodes j).held ≡ held_at w j
  pub each : (h : ℕ) (m : Message) → get_elem? (w.nodes j).held h ≡ some m
      → (p : ℕ) × (g : Issue) × IssueAt w p g × (g.message ≡ m) × (m.to ≡ j) × Held w p m
  pub all : (p : ℕ) (g : Issue) → IssueAt w p g → g.message.to ≡ j → Held w p g.message → (h : ℕ) × (get_elem? (w.nodes j).held h ≡ some g.message)
  pub apart : (h k : ℕ) (m : Message) → get_elem? (w.nodes j).held h ≡ some m → get_elem? (w.nodes j).held k ≡ some m → h ≡ k

-- issue p, which is g, is the earliest undelivered one
pub record Earliest (w : World) (p : ℕ) (g : Issue) : Type 0 where
  pub at : IssueAt w p g
  pub undelivered : ¬ Delivered w g.message
  pub earlier : (q : ℕ) (h : Issue) → q < p → IssueAt w q h → Delivered w h.message

-- a deliver at node j, made now, delivers an issued message to j that was not delivered before
pub record DeliversNew (w : World) (j : ℕ) : Type 0 where
  pub place : ℕ
  pub issue : Issue
  pub at : IssueAt w place issue
  pub here : issue.message.to ≡ j
  pub new : ¬ Delivered w issue.message
  pub answers : delivery (deliver (w.nodes j)).answer ≡ some (label issue.message)

-- what demand 3 says of the world that a list of steps of n nodes with these caps leads to
-- causal: of two user messages to one node, the first sent before the second, the second is delivered only after the first
-- once: no message is delivered twice; distinct: from, to and number name one issued message
-- kept, carried: a kept matrix has at most its node's cap of non-zero entries, a carried one at most its sender's
-- exists: where a message is undelivered, there is an earliest such message
-- accepts: where that one is not held, and fewer than 16 are held at its destination, an offer of it there is accepted
-- delivers: where it is held, or 16 are held there, a deliver there delivers a message that was not delivered before
-- queue: what is held by the history is what the node's own queue holds
pub record Demand3For (n : ℕ) (caps : ℕ → ℕ) (w : World) : Type 0 where
  pub causal : (p q u : ℕ) (g h : Issue) → IssueAt w p g → IssueAt w q h → g.message.kind ≡ user → h.message.kind ≡ user → g.message.to ≡ h.message.to
      → HappenedBefore w.log w.history g.step h.step → DeliveredAt w.history u h.message
      → (t : ℕ) × (t < u) × DeliveredAt w.history t g.message
  pub once : (p t u : ℕ) (g : Issue) → IssueAt w p g → DeliveredAt w.history t g.message → DeliveredAt w.history u g.message → t ≡ u
  pub distinct : (p q : ℕ) (g h : Issue) → IssueAt w p g → IssueAt w q h → g.message.from ≡ h.message.from → g.message.to ≡ h.message.to
      → number g.message ≡ number h.message → p ≡ q
  pub kept : (i : ℕ) → i < n → count (w.nodes i).matrix ≤ caps i
  pub carried : (p : ℕ) (g : Issue) → IssueAt w p g → count g.message.entries ≤ caps g.message.from
  pub exists : (p : ℕ) (g : Issue) → IssueAt w p g → ¬ Delivered w g.message → (q : ℕ) × (h : Issue) × Earliest w q h
  pub accepts : (p : ℕ) (g : Issue) → Earliest w p g → ¬ Held w p g.message → held_at w g.message.to < max_held
      → accepted (offer (w.nodes g.message.to) g.message).answer ≡ true
  pub delivers : (p : ℕ) (g : Issue) → Earliest w p g → Held w p g.message ⊎ (held_at w g.message.to ≡ max_held) → DeliversNew w g.message.to
  pub queue : (j : ℕ) → j < n → QueueAgrees w j

-- demand 3: for every n from 2 to 12, any caps from n to n * n, one for each node, and every list of fewer than 1,000,000,000 steps
abbrev pub Demand3 : Type 0
Demand3 = (n : ℕ) (caps : ℕ → ℕ) → EachInRange n caps → (steps : List Step) → length steps < 1000000000 → Demand3For n caps (run n (start n caps) steps)
