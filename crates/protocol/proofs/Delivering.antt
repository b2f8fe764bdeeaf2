-- A step delivers a message: every part of the invariant stays.
use Prim.Native.Nat.{ℕ, suc, ◌≤◌, ◌<◌}
use mathlib.Core.Bool.{true}
use mathlib.Core.List.{[], ◌∷◌, ◌++◌}
use mathlib.Core.Logic.{◌⊎◌, inl, inr, ◌≢◌}
use mathlib.Core.Option.{some}
use mathlib.Core.Path.{◌≡◌, sym, ap, subst, ◌∙◌}
use native.Mathlib.Decide.{ℕ_discrete}
use native.Mathlib.Omega.{arith}
use lib.ListN.{length, get_elem?}
use Rattle.matrix.specs.Matrix.{Matrix}
use Rattle.matrix.specs.Message.{number}
use Rattle.protocol.proofs.History.{delivered-grow, New, delivered-snoc, Last, by-node, by-message, early', later', before-old, before_last}
use Rattle.protocol.proofs.Lists.{at_bound, at_last, Snoc, at_snoc}
use Rattle.protocol.proofs.State.{State, At, IsUser, Before, UpTo, Past, Accounted, IssuedAs, Invariant, covers_more, covers_delivered}
use Rattle.protocol.specs.Answer.{Label, label, accepted, delivery}
use Rattle.protocol.specs.Order.{DeliveredAt}
use Rattle.protocol.specs.World.{Issue, Event}

-- the destination delivers f, issue `place`, by the step e: what is asked, and what the vectors D' and the matrices M' become
-- ready, fresh: f is deliverable and not delivered; counts, other_nodes, other_senders: the vector goes up by one at f's sender alone
-- grow, from, merged: entries only grow, to f's; a user message's entries are merged outside the destination's own column, which stays zero
pub record Delivering (w : State) (f : Issue) (e : Event) (M' : ℕ → Matrix) (D' : ℕ → ℕ → ℕ) : Type 0 where
  pub place : ℕ
  pub at : At w place f
  pub ready : (x : ℕ) → f.message.entries x f.message.to ≤ w.deliv f.message.to x
  pub fresh : w.deliv f.message.to f.message.from < number f.message
  pub node : e.node ≡ f.message.to
  pub names : delivery e.answer ≡ some (label f.message)
  pub counts : D' f.message.to f.message.from ≡ suc (w.deliv f.message.to f.message.from)
  pub other_nodes : (k x : ℕ) → k ≢ f.message.to → D' k x ≡ w.deliv k x
  pub other_senders : (x : ℕ) → x ≢ f.message.from → D' f.message.to x ≡ w.deliv f.message.to x
  pub grow : (k x y : ℕ) → w.matrix k x y ≤ M' k x y
  pub from : (k x y : ℕ) → (M' k x y ≡ w.matrix k x y) ⊎ (M' k x y ≡ f.message.entries x y)
  pub own : (k x : ℕ) → M' k x k ≡ 0
  pub merged : IsUser f → (x y : ℕ) → y ≢ f.message.to → f.message.entries x y ≤ M' f.message.to x y

-- the state after the delivery
abbrev pub after_delivery : State → Event → (ℕ → Matrix) → (ℕ → ℕ → ℕ) → State
after_delivery w e M' D' = record { log = w.log; history = w.history ++ (e ∷ []); matrix = M'; deliv = D' }

module _ (w : State) (v : Invariant w) (f : Issue) (e : Event) (M' : ℕ → Matrix) (D' : ℕ → ℕ → ℕ) (s : Delivering w f e M' D') where
  -- the sender of f
  abbrev sender : ℕ
  sender = f.message.from

  -- the node of the step
  abbrev here : ℕ
  here = f.message.to

  -- the state after the delivery
  abbrev w' : State
  w' = after_delivery w e M' D'

  -- f is the next message from its sender
  next : number f.message ≡ suc (w.deliv here sender)
  next = omega (arith, s.ready sender, s.fresh)

  -- the vectors stay but at f's destination and sender
  deliv-case : (k x : ℕ) → (D' k x ≡ w.deliv k x) ⊎ ((k ≡ here) × (x ≡ sender))
  deliv-case k x = go (ℕ_discrete k here) (ℕ_discrete x sender)
    where
      go : Dec (k ≡ here) → Dec (x ≡ sender) → (D' k x ≡ w.deliv k x) ⊎ ((k ≡ here) × (x ≡ sender))
      go (no a) b = inl (s.other_nodes k x a)
      go (yes a) (no b) = inl (rw a (s.other_senders x b))
      go (yes a) (yes b) = inr (a, b)

  -- no vector goes down
  deliv-grow : (k x : ℕ) → w.deliv k x ≤ D' k x
  deliv-grow k x = go (deliv-case k x)
    where
      go : (D' k x ≡ w.deliv k x) ⊎ ((k ≡ here) × (x ≡ sender)) → w.deliv k x ≤ D' k x
      go (inl a) = omega arith
      go (inr a) = rw (a.0, a.1) (omega (arith, s.counts))

  -- what was delivered stays delivered
  past-grow : (g : Issue) → Past w g → Past w' g
  past-grow g d = omega (arith, deliv-grow g.message.to g.message.from)

  -- f is the one message with its from, to and number
  itself : (p : ℕ) (g : Issue) → At w p g → g.message.to ≡ here → g.message.from ≡ sender → number g.message ≡ number f.message → g ≡ f
  itself p g a b c d = let q : p ≡ s.place = v.distinct p s.place g f a s.at c b d in let h : At w p f = rw q s.at in cc

  -- what the step names is f
  named : (p : ℕ) (g : Issue) → At w p g → e.node ≡ g.message.to → delivery e.answer ≡ some (label g.message) → g ≡ f
  named p g a b c =
      let k : label g.message ≡ label f.message = cc s.names in
      itself p g a (sym b ∙ s.node) (ap (λ (z : Label). z.from) k) (ap (λ (z : Label). z.number) k)

  -- delivered now: delivered before, or f
  split : (p : ℕ) (g : Issue) → At w p g → Past w' g → Past w g ⊎ (g ≡ f)
  split p g a d = go (deliv-case g.message.to g.message.from) (ℕ_discrete (number g.message) (number f.message))
    where
      go : (D' g.message.to g.message.from ≡ w.deliv g.message.to g.message.from) ⊎ ((g.message.to ≡ here) × (g.message.from ≡ sender))
          → Dec (number g.message ≡ number f.message) → Past w g ⊎ (g ≡ f)
      go (inl x) y = inl (omega arith)
      go (inr x) (yes y) = inr (itself p g a x.0 x.1 y)
      go (inr x) (no y) =
          let q : D' g.message.to g.message.from ≡ suc (w.deliv g.message.to g.message.from) = rw (x.0, x.1) s.counts in
          let r : number f.message ≡ suc (w.deliv g.message.to g.message.from) = rw (x.0, x.1) next in
          inl (omega arith)

  -- the parts of the invariant, one by one: senders count their messages
  numbered' : (p : ℕ) (g : Issue) → At w p g → number g.message ≤ M' g.message.from g.message.from g.message.to
  numbered' p g a = omega (arith, v.numbered p g a, s.grow g.message.from g.message.from g.message.to)

  -- kept entries count issued messages
  kept' : (i x y k : ℕ) → M' i x y ≡ suc k → IssuedAs w.log x y (suc k)
  kept' i x y k q = go (s.from i x y)
    where
      go : (M' i x y ≡ w.matrix i x y) ⊎ (M' i x y ≡ f.message.entries x y) → IssuedAs w.log x y (suc k)
      go (inl a) = v.kept i x y k (cc)
      go (inr a) = (v.carried s.place f s.at x y k (cc)).0

  -- no more is delivered than was issued
  deliv_bound' : (j x : ℕ) → D' j x ≤ M' x x j
  deliv_bound' j x = go (deliv-case j x)
    where
      go : (D' j x ≡ w.deliv j x) ⊎ ((j ≡ here) × (x ≡ sender)) → D' j x ≤ M' x x j
      go (inl a) = omega (arith, v.deliv_bound j x, s.grow x x j)
      go (inr a) = rw (a.0, a.1) (omega (arith, s.counts, next, numbered' s.place f s.at))

  -- with a message, what it waited for is delivered
  closed' : (p : ℕ) (g : Issue) → At w p g → Past w' g → (x : ℕ) → g.message.entries x g.message.to ≤ D' g.message.to x
  closed' p g a d x = go (split p g a d)
    where
      go : Past w g ⊎ (g ≡ f) → g.message.entries x g.message.to ≤ D' g.message.to x
      go (inl h) = omega (arith, v.closed p g a h x, deliv-grow g.message.to x)
      go (inr h) = rw h (omega (arith, s.ready x, deliv-grow here x))

  -- the new step delivers f
  now : DeliveredAt w'.history (length w.history) f.message
  now = record { event = e; at = at_last w.history e; here = s.node; names = s.names }

  -- what the vectors say is delivered, the history says too
  seen' : (p : ℕ) (g : Issue) → At w p g → Past w' g → (t : ℕ) × DeliveredAt w'.history t g.message
  seen' p g a d = go (split p g a d)
    where
      go : Past w g ⊎ (g ≡ f) → (t : ℕ) × DeliveredAt w'.history t g.message
      go (inl h) = let r = v.seen p g a h in (r.0, delivered-grow w.history e r.0 g r.1)
      go (inr h) = (length w.history, rw h now)

  -- and the other way
  told' : (t : ℕ) (x : Event) (k : Label) → get_elem? w'.history t ≡ some x → delivery x.answer ≡ some k → k.number ≤ D' x.node k.from
  told' t x k a g = go (at_snoc w.history e t x a)
    where
      go : Snoc w.history e t x → k.number ≤ D' x.node k.from
      go (inl h) = omega (arith, v.told t x k h g, deliv-grow x.node k.from)
      go (inr h) =
          let q : k ≡ label f.message = cc s.names in
          let n : x.node ≡ here = cc s.node in
          rw (q, n) (omega (arith, s.counts, next))

  -- no two steps deliver the same
  once' : (t u : ℕ) (x y : Event) (k l : Label) → get_elem? w'.history t ≡ some x → get_elem? w'.history u ≡ some y
      → delivery x.answer ≡ some k → delivery y.answer ≡ some l
      → x.node ≡ y.node → k.from ≡ l.from → k.number ≡ l.number → t ≡ u
  once' t u x y k l a b g h n i j = go (at_snoc w.history e t x a) (at_snoc w.history e u y b)
    where
      -- an old delivery is none of f
      clash : (t : ℕ) (x : Event) (k l : Label) (y : Event) → get_elem? w.history t ≡ some x → delivery x.answer ≡ some k → y ≡ e
          → delivery y.answer ≡ some l → x.node ≡ y.node → k.from ≡ l.from → k.number ≡ l.number → ⊥
      clash t x k l y a g c h n i j =
          let q : l ≡ label f.message = cc s.names in
          let m : x.node ≡ here = cc s.node in
          let o : k.from ≡ sender = i ∙ ap (λ (z : Label). z.from) q in
          let r : k.number ≤ w.deliv here sender
          = subst (λ (z : ℕ). k.number ≤ w.deliv here z) o (subst (λ (z : ℕ). k.number ≤ w.deliv z k.from) m (v.told t x k a g)) in
          let z : k.number ≡ number f.message = j ∙ ap (λ (z : Label). z.number) q in
          omega (arith, next)

      go : Snoc w.history e t x → Snoc w.history e u y → t ≡ u
      go (inl c) (inl d) = v.once t u x y k l c d g h n i j
      go (inl c) (inr d) = absurd (clash t x k l y c g d.1 h n i j)
      go (inr c) (inl d) = absurd (clash u y l k x d h c.1 g (sym n) (sym i) (sym j))
      go (inr c) (inr d) = cc

  -- a message sent before f, to f's destination, is delivered
  past-delivered : (p : ℕ) (m : Issue) → At w p m → IsUser m → IsUser f → m.message.to ≡ here → Before w m.step f.step → Past w m
  past-delivered p m a u uf d before = go (v.message_covers p s.place m f a s.at u uf before)
    where
      go : Accounted w m (λ x. f.message.entries x m.message.to) → Past w m
      go (inl h) = h
      go (inr c) = covers_delivered w v m (λ x. f.message.entries x m.message.to) (λ x. rw d (s.ready x)) c

  -- the past of a node is delivered or covered: at the receiver by its own past, or by what f carries
  node_covers' : (p b i : ℕ) (m : Issue) (x : Event) → At w p m → IsUser m → get_elem? w'.history b ≡ some x → accepted x.answer ≡ true → x.node ≡ i
      → UpTo w' m.step b → Accounted w' m (λ y. M' i y m.message.to)
  node_covers' p b i m x a u at ok nd upto = go (at_snoc w.history e b x at) upto
    where
      pass : (i : ℕ) → Accounted w m (λ y. w.matrix i y m.message.to) → Accounted w' m (λ y. M' i y m.message.to)
      pass i (inl d) = inl (past-grow m d)
      pass i (inr c) = inr (covers_more w.log m (λ y. w.matrix i y m.message.to) (λ y. M' i y m.message.to) (λ y. s.grow i y m.message.to) c)

      away : (i ≡ here) → IsUser f → Before w m.step f.step → Dec (m.message.to ≡ here) → Accounted w m (λ y. f.message.entries y m.message.to)
          → Accounted w' m (λ y. M' i y m.message.to)
      away q uf before (yes d) c = inl (past-grow m (past-delivered p m a u uf d before))
      away q uf before (no d) (inl h) = inl (past-grow m h)
      away q uf before (no d) (inr c) =
          inr (covers_more w.log m (λ y. f.message.entries y m.message.to) (λ y. M' i y m.message.to)
          (λ y. rw q (s.merged uf y m.message.to d)) c)

      msg : (i ≡ here) → IsUser f → UpTo w m.step f.step → Accounted w' m (λ y. M' i y m.message.to)
      msg q uf (inl h) =
          let r : p ≡ s.place = v.one_each p s.place m f a s.at u uf h in
          let r' : At w p f = rw r s.at in
          let z : m ≡ f = cc in
          inl (rw z (omega (arith, s.counts, next)))
      msg q uf (inr h) = away q uf h (ℕ_discrete m.message.to here) (v.message_covers p s.place m f a s.at u uf h)

      last : (x ≡ e) → Last w e m.step → Accounted w' m (λ y. M' i y m.message.to)
      last q (by-node c y at' ok' nd' r) = pass i (v.node_covers p c i m y a u at' ok' (cc) r)
      last q (by-message p' g at' u' nd' k r) =
          let z : g ≡ f = named p' g at' nd' k in
          msg (cc s.node) (cc) (subst (λ (h : Issue). UpTo w m.step h.step) z r)

      go : Snoc w.history e b x → UpTo w' m.step b → Accounted w' m (λ y. M' i y m.message.to)
      go (inl h) (inl q) = pass i (v.node_covers p b i m x a u h ok nd (inl q))
      go (inl h) (inr q) = pass i (v.node_covers p b i m x a u h ok nd (inr (before-old w v e m.step b q (at_bound w.history b x h))))
      go (inr h) (inl q) = absurd (omega (arith, v.early p m a u))
      go (inr h) (inr q) = last h.1 (before_last w v e m.step b q h.0)

  -- what a message carries covers its past still
  message_covers' : (p q : ℕ) (m g : Issue) → At w p m → At w q g → IsUser m → IsUser g → Before w' m.step g.step
      → Accounted w' m (λ x. g.message.entries x m.message.to)
  message_covers' p q m g a b um ug before = go (v.message_covers p q m g a b um ug (before-old w v e m.step g.step before (v.early q g b ug)))
    where
      go : Accounted w m (λ x. g.message.entries x m.message.to) → Accounted w' m (λ x. g.message.entries x m.message.to)
      go (inl h) = inl (past-grow m h)
      go (inr h) = inr h

  -- f is delivered after every earlier message in its past
  causal' : (p q u : ℕ) (m g : Issue) → At w p m → At w q g → IsUser m → IsUser g → m.message.to ≡ g.message.to
      → Before w' m.step g.step → DeliveredAt w'.history u g.message → (t : ℕ) × (t < u) × DeliveredAt w'.history t m.message
  causal' p q u m g a b um ug d before dl = go (delivered-snoc w.history e u g dl)
    where
      old : Before w m.step g.step
      old = before-old w v e m.step g.step before (v.early q g b ug)

      go : DeliveredAt w.history u g.message ⊎ New w.history e u g → (t : ℕ) × (t < u) × DeliveredAt w'.history t m.message
      go (inl h) = let r = v.causal p q u m g a b um ug d old h in (r.0, r.1, delivered-grow w.history e r.0 m r.2)
      go (inr h) =
          let z : g ≡ f = named q g b h.here h.names in
          let r = v.seen p m a (past-delivered p m a um (cc) (cc) (subst (λ (y : Issue). Before w m.step y.step) z old)) in
          (r.0, omega (arith, h.at, at_bound w.history r.0 r.1.event r.1.at), delivered-grow w.history e r.0 m r.1)

  -- all parts together
  pub deliver-invariant : Invariant (after_delivery w e M' D')
  deliver-invariant = record {
    early = early' w v e;
    one_each = v.one_each;
    distinct = v.distinct;
    numbered = numbered';
    kept = kept';
    carried = v.carried;
    deliv_bound = deliv_bound';
    closed = closed';
    seen = seen';
    told = told';
    later = later' w v e;
    once = once';
    own = s.own;
    node_covers = node_covers';
    message_covers = message_covers';
    causal = causal';
  }
