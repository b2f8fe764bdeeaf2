-- Delivered, and happened before, over the steps of a list: both are read off the history and the log.
use Rattle.std.specs.Prelude.{ℕ, ◌<◌, true, List, ◌≡◌}
use Rattle.std.proofs.Math.Option.{some}
use Rattle.std.proofs.Math.ListN.{get_elem?}
use Rattle.matrix.specs.Message.{user, Message}
use Rattle.protocol.specs.Answer.{label, accepted, delivery}
use Rattle.protocol.specs.World.{Issue, Event}

-- step t delivers message m: it is a deliver at m's to that answers with m's kind, from and number
pub record DeliveredAt (history : List Event) (t : ℕ) (m : Message) : Type 0 where
  pub event : Event
  pub at : get_elem? history t ≡ some event
  pub here : event.node ≡ m.to
  pub names : delivery event.answer ≡ some (label m)

-- step a happened before step b: both are accepted steps of one node, a earlier; or a sent the user message that b delivers; or a chain of these
pub data HappenedBefore (log : List Issue) (history : List Event) : ℕ → ℕ → Type 0 where
  same_node : (a b : ℕ) (e f : Event) → a < b → get_elem? history a ≡ some e → get_elem? history b ≡ some f → accepted e.answer ≡ true
      → accepted f.answer ≡ true → e.node ≡ f.node
      → HappenedBefore log history a b
  message : (a b p : ℕ) (g : Issue) → get_elem? log p ≡ some g → g.message.kind ≡ user → g.step ≡ a
      → DeliveredAt history b g.message → HappenedBefore log history a b
  chain : (a b c : ℕ) → HappenedBefore log history a b → HappenedBefore log history b c → HappenedBefore log history a c
