-- What every world of a list keeps: the causality argument's invariant, the rules of its nodes, queues and issued messages, and that queues and history agree.
use Prim.Native.Nat.{ℕ, ◌+◌, ◌≤◌, ◌<◌}
use mathlib.Core.Bool.{true}
use mathlib.Core.List.{List, []}
use mathlib.Core.Logic.{◌⊎◌, ◌≢◌}
use mathlib.Core.Option.{some}
use mathlib.Core.Path.{◌≡◌, subst, fun_ext}
use lib.ListN.{length, get_elem?}
use Rattle.matrix.proofs.Columns.{MatrixRules}
use Rattle.matrix.specs.Matrix.{Matrix, count}
use Rattle.matrix.specs.Message.{extra, Message, number, EachInRange}
use Rattle.protocol.proofs.Origins.{Apart}
use Rattle.protocol.proofs.State.{State, Invariant}
use Rattle.protocol.specs.Answer.{accepted}
use Rattle.protocol.specs.Demand3.{offers_accepted, deliveries, answers_at}
use Rattle.protocol.specs.Node.{Node}
use Rattle.protocol.specs.World.{offers, Issue, Event, World, IssueAt}
use Rattle.wire.specs.Limits.{max_body}

-- the causality argument's view of a world
abbrev pub state_of : World → State
state_of w = record { log = w.log; history = w.history; matrix = λ k. (w.nodes k).matrix; deliv = λ k. (w.nodes k).deliv }

-- the rules of an issued message
pub record SoundIssue (n : ℕ) (caps : ℕ → ℕ) (m : Message) : Type 0 where
  pub from : m.from < n
  pub to : m.to < n
  pub apart : m.from ≢ m.to
  pub sized : m.n ≡ n
  pub capped : m.cap ≡ caps m.from
  pub rules : MatrixRules n m.from m.entries
  pub few : count m.entries ≤ caps m.from
  pub short : length m.body ≤ max_body
  pub lone : m.kind ≡ extra → (x y : ℕ) → y ≢ m.to → m.entries x y ≡ 0
  pub bare : m.kind ≡ extra → m.body ≡ []

-- each message of a list keeps them
abbrev pub AllSound : ℕ → (ℕ → ℕ) → List Message → Type 0
AllSound n caps l = (p : ℕ) (m : Message) → get_elem? l p ≡ some m → SoundIssue n caps m

-- the accepted offer by which a message came into a queue
pub record Origin (log : List Issue) (history : List Event) (m : Message) : Type 0 where
  pub place : ℕ
  pub event : Event
  pub at : get_elem? history place ≡ some event
  pub issue : ℕ
  pub offered : event.step ≡ offers m.to issue
  pub accepted : accepted event.answer ≡ true
  pub g : Issue
  pub logged : get_elem? log issue ≡ some g
  pub message : g.message ≡ m

-- the queue s of node k, whose vector is v
-- from, to: each message came by an accepted offer, and is for this node; above: none is delivered; distinct: from and number name one of them
-- room, ready: at most 16 are held, and of 16 one is deliverable
pub record SoundQueue (log : List Issue) (history : List Event) (k : ℕ) (v : ℕ → ℕ) (s : List Message) : Type 0 where
  pub from : (h : ℕ) (m : Message) → get_elem? s h ≡ some m → Origin log history m
  pub to : (h : ℕ) (m : Message) → get_elem? s h ≡ some m → m.to ≡ k
  pub above : (h : ℕ) (m : Message) → get_elem? s h ≡ some m → v m.from < number m
  pub distinct : Apart s
  pub room : length s ≤ 16
  pub ready : length s ≡ 16 → (h : ℕ) × (m : Message) × (get_elem? s h ≡ some m) × ((x : ℕ) → x < 12 → m.entries x k ≤ v x)

-- node k of a list
-- few: at most cap entries; row: no entry of its own row exceeds the number of steps; number: accepted offers are deliveries and held messages
pub record SoundNode (n cap : ℕ) (log : List Issue) (history : List Event) (k : ℕ) (d : Node) : Type 0 where
  pub me : d.me ≡ k
  pub sized : d.n ≡ n
  pub capped : d.cap ≡ cap
  pub rules : MatrixRules n k d.matrix
  pub few : count d.matrix ≤ cap
  pub row : (y : ℕ) → d.matrix k y ≤ length history
  pub queue : SoundQueue log history k d.deliv d.held
  pub number : answers_at offers_accepted k history ≡ answers_at deliveries k history + length d.held

-- at a node, a message that was taken: delivered, or in the queue
abbrev pub Kept : Node → Message → Type 0
Kept d m = (number m ≤ d.deliv m.from) ⊎ ((h : ℕ) × (get_elem? d.held h ≡ some m))

-- a world of n nodes with these caps; taken: what an accepted offer took is delivered or in the queue
pub record Good (n : ℕ) (caps : ℕ → ℕ) (w : World) : Type 0 where
  pub range : EachInRange n caps
  pub invariant : Invariant (state_of w)
  pub node : (k : ℕ) → k < n → SoundNode n (caps k) w.log w.history k (w.nodes k)
  pub sound : (p : ℕ) (g : Issue) → IssueAt w p g → SoundIssue n caps g.message
  pub taken : (t j p : ℕ) (e : Event) → get_elem? w.history t ≡ some e → e.step ≡ offers j p → accepted e.answer ≡ true
      → (g : Issue) × IssueAt w p g × Kept (w.nodes g.message.to) g.message

-- states that agree place by place keep the same invariant
pub invariant_cong : (log log' : List Issue) (h : List Event) (M M' : ℕ → Matrix) (D D' : ℕ → ℕ → ℕ) → log ≡ log'
    → ((k x y : ℕ) → M k x y ≡ M' k x y) → ((k x : ℕ) → D k x ≡ D' k x)
    → Invariant (record { log = log; history = h; matrix = M; deliv = D }) → Invariant (record { log = log'; history = h; matrix = M'; deliv = D' })
invariant_cong log log' h M M' D D' l m d v =
    let m' : M ≡ M' = fun_ext (λ k. fun_ext (λ x. fun_ext (λ y. m k x y))) in
    let d' : D ≡ D' = fun_ext (λ k. fun_ext (λ x. d k x)) in
    subst (λ (z : ℕ → ℕ → ℕ). Invariant (record { log = log'; history = h; matrix = M'; deliv = z })) d'
    (subst (λ (z : ℕ → Matrix). Invariant (record { log = log'; history = h; matrix = z; deliv = D })) m'
    (subst (λ (z : List Issue). Invariant (record { log = z; history = h; matrix = M; deliv = D })) l v))
