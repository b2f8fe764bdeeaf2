-- A ceiling on extras (document 02, (viii)): how many extra frames the lists of demand 3 issue at most, by what the calls answer.
use Rattle.std.specs.Prelude.{ℕ, ◌+◌, ◌*◌, ◌-◌, ◌≤◌, ◌<◌, cond, ◌&&◌, List, [], ◌∷◌, ◌≡◌, eqb, length}
use Rattle.std.proofs.Math.Option.{Option, none, some}
use Rattle.std.proofs.Math.ListN.{get_elem?}
use Rattle.matrix.specs.Message.{EachInRange}
use Rattle.frame.specs.Header.{header}
use Rattle.node.specs.SendAnswer as send
use Rattle.node.specs.DeliverAnswer as deliver
use Rattle.causality.specs.Demand3.{Step, BodiesOfBytes, Answer, sent, offered, delivered, Issue, Event, World, Label, delivery, start, run, sum_over}

-- the number of extra frames that an answer reports
abbrev pub extras : Answer → ℕ
extras (sent (send.Refused k)) = 0
extras (sent (send.Sent bytes count)) = count
extras (offered a) = 0
extras (delivered (deliver.Refused k)) = 0
extras (delivered (deliver.Nothing tried)) = 0
extras (delivered (deliver.Frame d)) = d.extras

-- user frames issued: 1 for an accepted send
abbrev pub users_issued : Answer → ℕ
users_issued (sent (send.Refused k)) = 0
users_issued (sent (send.Sent bytes count)) = 1
users_issued (offered a) = 0
users_issued (delivered a) = 0

-- 1 for what names a user frame, by its kind
abbrev pub user_named : Option Label → ℕ
user_named none = 0
user_named (some a) = cond (eqb a.kind 1) 1 0

-- user frames delivered: 1 for a delivery whose answer says kind 1
abbrev pub users_delivered : Answer → ℕ
users_delivered a = user_named (delivery a)

-- how many frames of this kind (1 user, 2 extra) the step t put into the log
abbrev pub frames_by : (t kind : ℕ) → List Issue → ℕ
frames_by t kind [] = 0
frames_by t kind (g ∷ l) = cond (eqb g.step t && eqb (header g.frame).kind kind) 1 0 + frames_by t kind l

-- how many frames of this kind the log has
abbrev pub frames_of_kind : (kind : ℕ) → List Issue → ℕ
frames_of_kind kind [] = 0
frames_of_kind kind (g ∷ l) = cond (eqb (header g.frame).kind kind) 1 0 + frames_of_kind kind l

-- what a step of n nodes, answered with a by a node with this cap, issues; t is its place in the history
-- most: a send at most one extra frame, the delivery of a user frame at most n - 1, and every other step none
-- none: a node whose cap is (n - 1) * (n - 1) or more none
-- reported: the answer's number is that of the extra frames which the step put into the log; users: so are its user frames
pub record StepIssues (n cap t : ℕ) (a : Answer) (log : List Issue) : Type 0 where
  pub most : extras a ≤ users_issued a + (n - 1) * users_delivered a
  pub none : (n - 1) * (n - 1) ≤ cap → extras a ≡ 0
  pub reported : extras a ≡ frames_by t 2 log
  pub users : users_issued a ≡ frames_by t 1 log

-- ceiling: over the whole history, the extra frames are at most the user frames issued plus (n - 1) times the user frames delivered
-- each: every step keeps its part
-- extra_frames, user_frames: the log has as many extra frames, and as many user frames, as the answers count together
pub record CeilingFor (n : ℕ) (caps : ℕ → ℕ) (w : World) : Type 0 where
  pub ceiling : sum_over extras w.history ≤ sum_over users_issued w.history + (n - 1) * sum_over users_delivered w.history
  pub each : (t : ℕ) (e : Event) → get_elem? w.history t ≡ some e → StepIssues n (caps e.node) t e.answer w.log
  pub extra_frames : frames_of_kind 2 w.log ≡ sum_over extras w.history
  pub user_frames : frames_of_kind 1 w.log ≡ sum_over users_issued w.history

-- for the lists of demand 3
abbrev pub Ceiling : Type 0
Ceiling = (n : ℕ) (caps : ℕ → ℕ) → EachInRange n caps → (steps : List Step) → BodiesOfBytes steps → length steps < 1000000000
    → CeilingFor n caps (run n (start n caps) steps)
