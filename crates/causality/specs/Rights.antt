-- Who may say what (document 02, (vii)), over the lists of demand 3, on what callers see: the steps in the history and the frames in the log.
use Rattle.std.specs.Prelude.{ℕ, ◌≤◌, ◌<◌, true, List, [], ◌⊎◌, ◌≡◌, length}
use Rattle.std.proofs.Math.Option.{some}
use Rattle.std.proofs.Math.ListN.{get_elem?}
use Rattle.wire.specs.Limits.{max_body}
use Rattle.matrix.specs.Message.{EachInRange}
use Rattle.frame.specs.Header.{header}
use Rattle.frame.specs.Frame.{decode}
use Rattle.rights.specs.Topics.{Group, motion, group_of}
use Rattle.rights.specs.Rights.{mover}
use Rattle.rights.specs.Ours.{MaySend}
use Rattle.node.specs.Answers.{send_number}
use Rattle.node.specs.Calls.{send_call}
use Rattle.node.specs.Sizes.{out_size}
use Rattle.causality.specs.Demand3.{Step, sends, BodiesOfBytes, Event, Issue, World, IssueAt, User, accepted, destination, start, run}

-- the body that a frame carries, and its group
abbrev pub body_carried : List ℕ → List ℕ
body_carried s = (decode s).body

abbrev pub group_carried : List ℕ → Group
group_carried s = group_of (body_carried s)

-- an extra frame
abbrev pub Extra : List ℕ → Type 0
Extra s = (header s).kind ≡ 2

-- the step that issued the frame is an accepted send by this class: at the frame's from, to its to, of its body
pub record SentBy (w : World) (g : Issue) (class : ℕ) : Type 0 where
  pub out : List ℕ
  pub event : Event
  pub at : get_elem? w.history g.step ≡ some event
  pub step : event.step ≡ sends (header g.frame).from (destination g.frame) class (body_carried g.frame) out
  pub accepted : accepted event.answer ≡ true

-- a send that meets none of 2 to 7: at node i, to another node, of a body of at most 64 bytes, lent an output of at least 2,048
pub record Sendable (n i to : ℕ) (body out : List ℕ) : Type 0 where
  pub node : i < n
  pub below : to < n
  pub other : ¬ (to ≡ i)
  pub short : length body ≤ max_body
  pub long : out_size ≤ length out

-- kinds: a frame is a user frame or an extra one
-- sent: each user frame was sent by some class
-- right: its class is one of those that may send the frame's group
-- motion: a user frame of the motion group was sent by a mover
-- accepts, refuses: now, such a class is not refused, and another class is, with 21; so the classes of a group are exactly those
-- bare: an extra frame carries no body
pub record RightsFor (n : ℕ) (w : World) : Type 0 where
  pub kinds : (p : ℕ) (g : Issue) → IssueAt w p g → User g.frame ⊎ Extra g.frame
  pub sent : (p : ℕ) (g : Issue) → IssueAt w p g → User g.frame → (class : ℕ) × SentBy w g class
  pub right : (p class : ℕ) (g : Issue) → IssueAt w p g → User g.frame → SentBy w g class → MaySend class (group_carried g.frame)
  pub motion : (p class : ℕ) (g : Issue) → IssueAt w p g → User g.frame → SentBy w g class → group_carried g.frame ≡ motion → class ≡ mover
  pub accepts : (i to class : ℕ) (body out : List ℕ) → Sendable n i to body out → MaySend class (group_of body)
      → send_number (send_call (w.records i) to class body out).result.answer ≡ 0
  pub refuses : (i to class : ℕ) (body out : List ℕ) → Sendable n i to body out → ¬ MaySend class (group_of body)
      → send_number (send_call (w.records i) to class body out).result.answer ≡ 21
  pub bare : (p : ℕ) (g : Issue) → IssueAt w p g → Extra g.frame → body_carried g.frame ≡ []

-- for the lists of demand 3
abbrev pub RightsKept : Type 0
RightsKept = (n : ℕ) (caps : ℕ → ℕ) → EachInRange n caps → (steps : List Step) → BodiesOfBytes steps → length steps < 1000000000
    → RightsFor n (run n (start n caps) steps)
