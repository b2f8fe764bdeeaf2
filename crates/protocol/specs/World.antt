-- A list of steps: n nodes with a cap for each, the log of issued messages with the step that issued each, and the history with the whole answer of each step.
use Rattle.std.specs.Prelude.{ℕ, cond, List, [], ◌∷◌, ◌++◌, map, ◌≡◌, ltb, length}
use Rattle.std.proofs.Math.Option.{Option, none, some}
use Rattle.std.proofs.Math.ListN.{get_elem?}
use Rattle.matrix.specs.Message.{Message}
use Rattle.protocol.specs.Node.{Node, update}
use Rattle.protocol.specs.Answer.{Answer, issued, Outcome}
use Rattle.protocol.specs.Send.{send}
use Rattle.protocol.specs.Offer.{offer}
use Rattle.protocol.specs.Deliver.{deliver}

-- a step of a list: a node sends a body to another, is offered an issue (counted from 0), or is to deliver
pub data Step : Type 0 where
  sends : (node to : ℕ) (body : List ℕ) → Step
  offers : (node issue : ℕ) → Step
  delivers : (node : ℕ) → Step

-- an issued message, and the place in the history of the step that issued it
pub record Issue : Type 0 where
  pub step : ℕ
  pub message : Message

-- a step that was made: its node, which step it was, and its whole answer
pub record Event : Type 0 where
  pub node : ℕ
  pub step : Step
  pub answer : Answer

-- the nodes as their last steps left them, the issued messages in issue order, and the steps made
pub record World : Type 0 where
  pub nodes : ℕ → Node
  pub log : List Issue
  pub history : List Event

-- a fresh record: all zero but for me, n and cap
abbrev pub fresh : ℕ → ℕ → ℕ → Node
fresh me n cap = record { me = me; n = n; cap = cap; matrix = λ x y. 0; deliv = λ x. 0; held = [] }

-- n nodes, each with its cap, all fresh
abbrev pub start : ℕ → (ℕ → ℕ) → World
start n caps = record { nodes = λ k. fresh k n (caps k); log = []; history = [] }

-- issue p is g
abbrev pub IssueAt : World → ℕ → Issue → Type 0
IssueAt w p g = get_elem? w.log p ≡ some g

-- the message m as the step t issued it
abbrev pub issued_by : ℕ → Message → Issue
issued_by t m = record { step = t; message = m }

-- the world after the step s of node i had the outcome r
abbrev pub after_step : World → ℕ → Step → Outcome → World
after_step w i s r =
    record {
      nodes = update w.nodes i r.node;
      log = w.log ++ map (issued_by (length w.history)) (issued r.answer);
      history = w.history ++ (record { node = i; step = s; answer = r.answer } ∷ []);
    }

-- an offer at node i of issue p, if it was issued earlier
abbrev pub offer_at : World → ℕ → ℕ → Option Issue → World
offer_at w i p none = w
offer_at w i p (some g) = after_step w i (offers i p) (offer (w.nodes i) g.message)

-- a step at no node of the list, or an offer of what was not issued earlier, is no step: the world stays as it is
unfoldable pub step : ℕ → World → Step → World
step n w (sends i to body) = cond (ltb i n) (after_step w i (sends i to body) (send (w.nodes i) to body)) w
step n w (offers i p) = cond (ltb i n) (offer_at w i p (get_elem? w.log p)) w
step n w (delivers i) = cond (ltb i n) (after_step w i (delivers i) (deliver (w.nodes i))) w

-- the steps of a list, one after the other
abbrev pub run : ℕ → World → List Step → World
run n w [] = w
run n w (s ∷ l) = run n (step n w s) l
