-- The causality argument's state, without queues, limits or trim: functions of node, row and column, a log and a history.
-- The invariant, with *covered* at its heart, and the laws of covers and of happened before.
use Prim.Native.Nat.{ℕ, suc, ◌≤◌, ◌<◌}
use mathlib.Core.Bool.{true}
use mathlib.Core.List.{List, ◌++◌}
use mathlib.Core.Logic.{◌⊎◌}
use mathlib.Core.Option.{some}
use mathlib.Core.Path.{◌≡◌, sym, subst}
use native.Mathlib.Omega.{arith}
use lib.ListN.{get_elem?, length}
use Rattle.matrix.specs.Matrix.{Matrix}
use Rattle.matrix.specs.Message.{user, number}
use Rattle.protocol.proofs.Lists.{at_bound, at_left}
use Rattle.protocol.specs.Answer.{Label, accepted, delivery}
use Rattle.protocol.specs.Order.{DeliveredAt, HappenedBefore, same_node, message, chain}
use Rattle.protocol.specs.World.{Issue, Event}

-- a column c covers the message m: c counts m itself, or c counts a message to the same node whose own entries for that node cover m
pub data Covers (log : List Issue) (m : Issue) : (ℕ → ℕ) → Type 0 where
  counted : (c : ℕ → ℕ) → number m.message ≤ c m.message.from → Covers log m c
  through : (c : ℕ → ℕ) (q : ℕ) (g : Issue) → get_elem? log q ≡ some g → g.message.to ≡ m.message.to → number g.message ≤ c g.message.from
      → Covers log m (λ x. g.message.entries x m.message.to) → Covers log m c

-- matrix i x y is M[x,y] of node i, and deliv i x is its DELIV[x]
pub record State : Type 0 where
  pub log : List Issue
  pub history : List Event
  pub matrix : ℕ → Matrix
  pub deliv : ℕ → ℕ → ℕ

-- issue p of the state is g
abbrev pub At : State → ℕ → Issue → Type 0
At w p g = get_elem? w.log p ≡ some g

-- the message of the issue is a user message
abbrev pub IsUser : Issue → Type 0
IsUser g = g.message.kind ≡ user

-- step a happened before step b
abbrev pub Before : State → ℕ → ℕ → Type 0
Before w a b = HappenedBefore w.log w.history a b

-- step a is step b, or happened before it
abbrev pub UpTo : State → ℕ → ℕ → Type 0
UpTo w a b = (a ≡ b) ⊎ Before w a b

-- delivered, by the receiver's vector
abbrev pub Past : State → Issue → Type 0
Past w g = number g.message ≤ w.deliv g.message.to g.message.from

-- the message is delivered, or the column c covers it
abbrev pub Accounted : State → Issue → (ℕ → ℕ) → Type 0
Accounted w m c = Past w m ⊎ Covers w.log m c

-- an issued message from x to y with the number k, and its place in the log
pub record IssuedAs (log : List Issue) (x y k : ℕ) : Type 0 where
  pub place : ℕ
  pub issue : Issue
  pub at : get_elem? log place ≡ some issue
  pub from : issue.message.from ≡ x
  pub to : issue.message.to ≡ y
  pub number : number issue.message ≡ k

-- early: a user message was sent by a step of the history; one_each: a step sends one user message at most
-- distinct: from, to and number name one issue; numbered: its sender's own row counts each message
-- kept, carried: an entry counts an issued message, and a carried one an earlier issue
-- deliv_bound: no more is delivered than was issued; closed: with a message, what it waited for is delivered
-- seen, told: the vectors and the history agree on what is delivered; later: a message is delivered after its send
-- once: no two steps deliver the same; own: a node's own column is zero
-- node_covers: a user message in a node's past is delivered, or its column there covers it; message_covers: the same for what a user message carries
pub record Invariant (w : State) : Type 0 where
  pub early : (p : ℕ) (f : Issue) → At w p f → IsUser f → f.step < length w.history
  pub one_each : (p q : ℕ) (f g : Issue) → At w p f → At w q g → IsUser f → IsUser g → f.step ≡ g.step → p ≡ q
  pub distinct : (p q : ℕ) (f g : Issue) → At w p f → At w q g → f.message.from ≡ g.message.from → f.message.to ≡ g.message.to
      → number f.message ≡ number g.message → p ≡ q
  pub numbered : (p : ℕ) (f : Issue) → At w p f → number f.message ≤ w.matrix f.message.from f.message.from f.message.to
  pub kept : (i x y k : ℕ) → w.matrix i x y ≡ suc k → IssuedAs w.log x y (suc k)
  pub carried : (p : ℕ) (f : Issue) → At w p f → (x y k : ℕ) → f.message.entries x y ≡ suc k → (r : IssuedAs w.log x y (suc k)) × (r.place < p)
  pub deliv_bound : (j x : ℕ) → w.deliv j x ≤ w.matrix x x j
  pub closed : (p : ℕ) (f : Issue) → At w p f → Past w f → (x : ℕ) → f.message.entries x f.message.to ≤ w.deliv f.message.to x
  pub seen : (p : ℕ) (f : Issue) → At w p f → Past w f → (t : ℕ) × DeliveredAt w.history t f.message
  pub told : (t : ℕ) (e : Event) (k : Label) → get_elem? w.history t ≡ some e → delivery e.answer ≡ some k → k.number ≤ w.deliv e.node k.from
  pub later : (p b : ℕ) (f : Issue) → At w p f → IsUser f → DeliveredAt w.history b f.message → f.step < b
  pub once : (t u : ℕ) (e e' : Event) (k k' : Label) → get_elem? w.history t ≡ some e → get_elem? w.history u ≡ some e'
      → delivery e.answer ≡ some k → delivery e'.answer ≡ some k'
      → e.node ≡ e'.node → k.from ≡ k'.from → k.number ≡ k'.number → t ≡ u
  pub own : (i x : ℕ) → w.matrix i x i ≡ 0
  pub node_covers : (p b i : ℕ) (m : Issue) (e : Event) → At w p m → IsUser m → get_elem? w.history b ≡ some e → accepted e.answer ≡ true → e.node ≡ i
      → UpTo w m.step b → Accounted w m (λ x. w.matrix i x m.message.to)
  pub message_covers : (p q : ℕ) (m f : Issue) → At w p m → At w q f → IsUser m → IsUser f → Before w m.step f.step
      → Accounted w m (λ x. f.message.entries x m.message.to)
  pub causal : (p q u : ℕ) (m f : Issue) → At w p m → At w q f → IsUser m → IsUser f → m.message.to ≡ f.message.to → Before w m.step f.step
      → DeliveredAt w.history u f.message
      → (t : ℕ) × (t < u) × DeliveredAt w.history t m.message

-- a larger column covers as much
pub covers_more : (log : List Issue) (m : Issue) (c c' : ℕ → ℕ) → ((x : ℕ) → c x ≤ c' x) → Covers log m c → Covers log m c'
covers_more log m c c' le (counted _ h) = counted c' (omega (arith, le m.message.from))
covers_more log m c c' le (through _ q g at d h r) = through c' q g at d (omega (arith, le g.message.from)) r

-- a longer log keeps covers
pub covers_grow : (log r : List Issue) (m : Issue) (c : ℕ → ℕ) → Covers log m c → Covers (log ++ r) m c
covers_grow log r m c (counted _ h) = counted c h
covers_grow log r m c (through _ q g at d h v) = through c q g (at_left log r q g at) d h (covers_grow log r m (λ x. g.message.entries x m.message.to) v)

-- a column that the receiver's vector reaches covers only what is delivered
pub covers_delivered : (w : State) → Invariant w → (m : Issue) (c : ℕ → ℕ) → ((x : ℕ) → c x ≤ w.deliv m.message.to x) → Covers w.log m c → Past w m
covers_delivered w v m c le (counted _ h) = omega (arith, le m.message.from)
covers_delivered w v m c le (through _ q g at d h r) =
    covers_delivered w v m (λ x. g.message.entries x m.message.to)
    (λ x. rw (← d) (v.closed q g at
    (subst (λ (y : ℕ). number g.message ≤ w.deliv y g.message.from) (sym d) (omega (arith, le g.message.from))) x)) r

-- happened before goes forward, where deliveries come after their sends
pub before_forward : (log : List Issue) (h : List Event)
    → ((p b : ℕ) (f : Issue) → get_elem? log p ≡ some f → IsUser f → DeliveredAt h b f.message → f.step < b) → (a b : ℕ) → HappenedBefore log h a b → a < b
before_forward log h v a b (same_node _ _ e f l _ _ _ _ _) = l
before_forward log h v a b (message _ _ p f at u s d) = rw (← s) (v p b f at u d)
before_forward log h v a c (chain _ b _ l r) = omega (arith, before_forward log h v a b l, before_forward log h v b c r)

-- happened before goes forward
pub before-lt : (w : State) → Invariant w → (a b : ℕ) → Before w a b → a < b
before-lt w v a b h = before_forward w.log w.history v.later a b h

-- what something happened before is a step of the history
pub before_bound : (log : List Issue) (h : List Event) (a b : ℕ) → HappenedBefore log h a b → b < length h
before_bound log h a b (same_node _ _ e f _ _ at _ _ _) = at_bound h b f at
before_bound log h a b (message _ _ p f at u s d) = at_bound h b d.event d.at
before_bound log h a c (chain _ b _ l r) = before_bound log h b c r
