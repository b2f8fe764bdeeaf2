-- A message is issued, by a send or by a round of trim: every part of the invariant stays.
use Prim.Native.Nat.{ℕ, suc, ◌≤◌, ◌<◌}
use mathlib.Core.Bool.{true}
use mathlib.Core.List.{List, [], ◌∷◌, ◌++◌}
use mathlib.Core.Logic.{◌⊎◌, inl, inr, ◌≢◌}
use mathlib.Core.Option.{some}
use mathlib.Core.Path.{◌≡◌, sym, ap, subst, ◌∙◌}
use native.Mathlib.Decide.{ℕ_discrete}
use native.Mathlib.Omega.{arith}
use lib.ListN.{length, get_elem?}
use Rattle.matrix.specs.Matrix.{Matrix}
use Rattle.matrix.specs.Message.{number}
use Rattle.protocol.proofs.Lists.{at_bound, at_left, at_last, Snoc, at_snoc}
use Rattle.protocol.proofs.State.{Covers, counted, through, State, At, IsUser, Before, UpTo, Past, Accounted, IssuedAs}
use Rattle.protocol.proofs.State.{Invariant, covers_more, covers_grow, before-lt, before_bound}
use Rattle.protocol.specs.Answer.{label, accepted}
use Rattle.protocol.specs.Order.{DeliveredAt, same_node, message, chain}
use Rattle.protocol.specs.World.{Issue, Event}

-- the sender issues f: what f carries, and what the matrices M become
-- column: f carries the sender's column for its destination; part: other entries are the sender's or zero; whole: a user message carries all
-- raised, cleared: in that column the sender's own entry becomes f's number and the others zero; same, others: all other entries stay
pub record Issuing (M M' : ℕ → Matrix) (f : Issue) : Type 0 where
  pub apart : f.message.from ≢ f.message.to
  pub column : (x : ℕ) → f.message.entries x f.message.to ≡ M f.message.from x f.message.to
  pub part : (x y : ℕ) → (f.message.entries x y ≡ M f.message.from x y) ⊎ (f.message.entries x y ≡ 0)
  pub whole : IsUser f → (x y : ℕ) → f.message.entries x y ≡ M f.message.from x y
  pub raised : M' f.message.from f.message.from f.message.to ≡ number f.message
  pub cleared : (x : ℕ) → x ≢ f.message.from → M' f.message.from x f.message.to ≡ 0
  pub same : (x y : ℕ) → y ≢ f.message.to → M' f.message.from x y ≡ M f.message.from x y
  pub others : (k x y : ℕ) → k ≢ f.message.from → M' k x y ≡ M k x y

-- the state after the issue
abbrev pub after_issue : State → (ℕ → Matrix) → Issue → State
after_issue w M' f = record { log = w.log ++ (f ∷ []); history = w.history; matrix = M'; deliv = w.deliv }

-- a longer log keeps what was issued
abbrev pub issued-grow : (l r : List Issue) (x y k : ℕ) → IssuedAs l x y k → IssuedAs (l ++ r) x y k
issued-grow l r x y k s =
    record { place = s.place; issue = s.issue; at = at_left l r s.place s.issue s.at; from = s.from; to = s.to; number = s.number }

-- an entry of the new matrices: the old one, zero, or f's number in f's place
pub data Entry (M M' : ℕ → Matrix) (f : Issue) (k x y : ℕ) : Type 0 where
  stays : M' k x y ≡ M k x y → Entry M M' f k x y
  gone : k ≡ f.message.from → x ≢ f.message.from → y ≡ f.message.to → M' k x y ≡ 0 → Entry M M' f k x y
  mine : k ≡ f.message.from → x ≡ f.message.from → y ≡ f.message.to → M' k x y ≡ suc (M k x y) → M' k x y ≡ number f.message → Entry M M' f k x y

-- of a user message: its step is the last one, was accepted at its sender, and has issued no other user message
pub record UserStep (w : State) (f : Issue) : Type 0 where
  pub last : IsUser f → suc f.step ≡ length w.history
  pub event : IsUser f → (e : Event) × (get_elem? w.history f.step ≡ some e) × (accepted e.answer ≡ true) × (e.node ≡ f.message.from)
  pub free : IsUser f → (p : ℕ) (g : Issue) → At w p g → IsUser g → g.step < f.step

module _ (w : State) (v : Invariant w) (M' : ℕ → Matrix) (f : Issue) (s : Issuing w.matrix M' f) where
  -- the sender of f
  abbrev sender : ℕ
  sender = f.message.from

  -- its destination
  abbrev target : ℕ
  target = f.message.to

  -- the state after the issue
  abbrev w' : State
  w' = after_issue w M' f

  -- each entry is of one of the three kinds
  entry : (k x y : ℕ) → Entry w.matrix M' f k x y
  entry k x y = go (ℕ_discrete k sender) (ℕ_discrete y target) (ℕ_discrete x sender)
    where
      go : Dec (k ≡ sender) → Dec (y ≡ target) → Dec (x ≡ sender) → Entry w.matrix M' f k x y
      go (no a) b c = stays (s.others k x y a)
      go (yes a) (no b) c = stays (rw a (s.same x y b))
      go (yes a) (yes b) (no c) = gone a c b (rw (a, b) (s.cleared x c))
      go (yes a) (yes b) (yes c) = mine a c b (rw (a, b, c) (s.raised ∙ ap suc (s.column sender))) (rw (a, b, c) s.raised)

  -- a node's own row only grows
  row : (x y : ℕ) → w.matrix x x y ≤ M' x x y
  row x y = go (entry x x y)
    where
      go : Entry w.matrix M' f x x y → w.matrix x x y ≤ M' x x y
      go (stays e) = omega arith
      go (gone a b c e) = absurd (b a)
      go (mine a b c d e) = omega arith

  -- the old log's numbers of this pair are below f's
  below : (p : ℕ) (g : Issue) → At w p g → g.message.from ≡ sender → g.message.to ≡ target → number g.message < number f.message
  below p g at a b =
      let h : number g.message ≤ w.matrix sender sender target = subst (λ (y : ℕ). number g.message ≤ w.matrix sender sender y) b
      (subst (λ (x : ℕ). number g.message ≤ w.matrix x x g.message.to) a (v.numbered p g at)) in
      omega (arith, s.column sender)

  -- f is not delivered
  not-delivered : (b : ℕ) → DeliveredAt w.history b f.message → ⊥
  not-delivered b d =
      let h : number f.message ≤ w.deliv target sender = rw d.here at (v.told b d.event (label f.message) d.at d.names) in
      omega (arith, v.deliv_bound target sender, s.column sender)

  -- nor by the vectors
  not-past : Past w f → ⊥
  not-past h = omega (arith, v.deliv_bound target sender, s.column sender)

  -- happened before is as it was
  before-old : (a b : ℕ) → Before w' a b → Before w a b
  before-old a b (same_node _ _ e g l p q r t u) = same_node a b e g l p q r t u
  before-old a b (message _ _ p g at u t d) = go (at_snoc w.log f p g at)
    where
      go : Snoc w.log f p g → Before w a b
      go (inl h) = message a b p g h u t d
      go (inr h) = absurd (not-delivered b (subst (λ (x : Issue). DeliveredAt w.history b x.message) h.1 d))
  before-old a c (chain _ b _ l r) = chain a b c (before-old a b l) (before-old b c r)

  -- the parts of the invariant, one by one: from, to and number name one issue
  distinct' : (p q : ℕ) (g h : Issue) → At w' p g → At w' q h → g.message.from ≡ h.message.from → g.message.to ≡ h.message.to
      → number g.message ≡ number h.message → p ≡ q
  distinct' p q g h a b c d e = go (at_snoc w.log f p g a) (at_snoc w.log f q h b)
    where
      go : Snoc w.log f p g → Snoc w.log f q h → p ≡ q
      go (inl x) (inl y) = v.distinct p q g h x y c d e
      go (inl x) (inr y) = absurd (omega (arith, below p g x (cc) (cc), ap (λ (z : Issue). number z.message) y.1))
      go (inr x) (inl y) = absurd (omega (arith, below q h y (cc) (cc), ap (λ (z : Issue). number z.message) x.1))
      go (inr x) (inr y) = cc

  -- senders count their messages
  numbered' : (p : ℕ) (g : Issue) → At w' p g → number g.message ≤ M' g.message.from g.message.from g.message.to
  numbered' p g a = go (at_snoc w.log f p g a)
    where
      go : Snoc w.log f p g → number g.message ≤ M' g.message.from g.message.from g.message.to
      go (inl x) = omega (arith, row g.message.from g.message.to, v.numbered p g x)
      go (inr x) =
          subst (λ (z : Issue). number z.message ≤ M' z.message.from z.message.from z.message.to) (sym x.1) (omega (arith, s.raised))

  -- kept entries count issued messages
  kept' : (i x y k : ℕ) → M' i x y ≡ suc k → IssuedAs w'.log x y (suc k)
  kept' i x y k e = go (entry i x y)
    where
      go : Entry w.matrix M' f i x y → IssuedAs w'.log x y (suc k)
      go (stays a) = issued-grow w.log (f ∷ []) x y (suc k) (v.kept i x y k (cc))
      go (gone a b c d) = absurd (omega arith)
      go (mine a b c d g) = record { place = length w.log; issue = f; at = at_last w.log f; from = sym b; to = sym c; number = cc }

  -- carried entries count earlier issues
  carried' : (p : ℕ) (g : Issue) → At w' p g → (x y k : ℕ) → g.message.entries x y ≡ suc k → (r : IssuedAs w'.log x y (suc k)) × (r.place < p)
  carried' p g a x y k e = go (at_snoc w.log f p g a)
    where
      part : (f.message.entries x y ≡ suc k) → (f.message.entries x y ≡ w.matrix sender x y) ⊎ (f.message.entries x y ≡ 0) → w.matrix sender x y ≡ suc k
      part e (inl h) = cc
      part e (inr h) = absurd (omega arith)

      go : Snoc w.log f p g → (r : IssuedAs w'.log x y (suc k)) × (r.place < p)
      go (inl h) = let r = v.carried p g h x y k e in (issued-grow w.log (f ∷ []) x y (suc k) r.0, r.1)
      go (inr h) =
          let e' : f.message.entries x y ≡ suc k = ap (λ (z : Issue). z.message.entries x y) (sym h.1) ∙ e in
          let r = v.kept sender x y k (part e' (s.part x y)) in
          (issued-grow w.log (f ∷ []) x y (suc k) r, omega (arith, at_bound w.log r.place r.issue r.at))

  -- no more is delivered than was issued
  deliv_bound' : (j x : ℕ) → w.deliv j x ≤ M' x x j
  deliv_bound' j x = omega (arith, v.deliv_bound j x, row x j)

  -- own columns are zero
  own' : (i x : ℕ) → M' i x i ≡ 0
  own' i x = go (entry i x i)
    where
      go : Entry w.matrix M' f i x i → M' i x i ≡ 0
      go (stays a) = a ∙ v.own i x
      go (gone a b c d) = d
      go (mine a b c d e) = absurd (s.apart (cc))

  -- what is delivered was issued before f
  past-old : (p : ℕ) (g : Issue) → At w' p g → Past w g → At w p g
  past-old p g a d = go (at_snoc w.log f p g a)
    where
      go : Snoc w.log f p g → At w p g
      go (inl h) = h
      go (inr h) = absurd (not-past (subst (λ (z : Issue). Past w z) h.1 d))

  -- the same, by the history
  delivered-old : (p b : ℕ) (g : Issue) → At w' p g → DeliveredAt w.history b g.message → At w p g
  delivered-old p b g a d = go (at_snoc w.log f p g a)
    where
      go : Snoc w.log f p g → At w p g
      go (inl h) = h
      go (inr h) = absurd (not-delivered b (subst (λ (z : Issue). DeliveredAt w.history b z.message) h.1 d))

  module _ (t : UserStep w f) where
    -- user messages were sent by a step of the history
    early' : (p : ℕ) (g : Issue) → At w' p g → IsUser g → g.step < length w.history
    early' p g a u = go (at_snoc w.log f p g a)
      where
        go : Snoc w.log f p g → g.step < length w.history
        go (inl h) = v.early p g h u
        go (inr h) =
            let e : g.step ≡ f.step = ap (λ (z : Issue). z.step) h.1 in
            omega (arith, t.last (ap (λ (z : Issue). z.message.kind) (sym h.1) ∙ u))

    -- a step sends one user message at most
    one_each' : (p q : ℕ) (g h : Issue) → At w' p g → At w' q h → IsUser g → IsUser h → g.step ≡ h.step → p ≡ q
    one_each' p q g h a b c d e = go (at_snoc w.log f p g a) (at_snoc w.log f q h b)
      where
        go : Snoc w.log f p g → Snoc w.log f q h → p ≡ q
        go (inl x) (inl y) = v.one_each p q g h x y c d e
        go (inl x) (inr y) = absurd (omega (arith, t.free (cc) p g x c, ap (λ (z : Issue). z.step) y.1))
        go (inr x) (inl y) = absurd (omega (arith, t.free (cc) q h y d, ap (λ (z : Issue). z.step) x.1))
        go (inr x) (inr y) = cc

    -- nothing comes after the step of f
    final : (b : ℕ) → IsUser f → Before w f.step b → ⊥
    final b u h = omega (arith, t.last u, before-lt w v f.step b h, before_bound w.log w.history f.step b h)

    -- what a node's column covered, it covers still: a cleared column by way of f
    covers-step : (i : ℕ) (m : Issue) → Covers w.log m (λ x. w.matrix i x m.message.to) → Covers w'.log m (λ x. M' i x m.message.to)
    covers-step i m c = go (ℕ_discrete i sender) (ℕ_discrete m.message.to target)
      where
        c' : Covers w'.log m (λ x. w.matrix i x m.message.to)
        c' = covers_grow w.log (f ∷ []) m (λ x. w.matrix i x m.message.to) c

        go : Dec (i ≡ sender) → Dec (m.message.to ≡ target) → Covers w'.log m (λ x. M' i x m.message.to)
        go (no a) b =
            covers_more w'.log m (λ x. w.matrix i x m.message.to) (λ x. M' i x m.message.to)
            (λ x. omega (arith, s.others i x m.message.to a)) c'
        go (yes a) (no b) =
            covers_more w'.log m (λ x. w.matrix i x m.message.to) (λ x. M' i x m.message.to)
            (λ x. rw a (omega (arith, s.same x m.message.to b))) c'
        go (yes a) (yes b) =
            through (λ x. M' i x m.message.to) (length w.log) f (at_last w.log f) (sym b) (rw (a, b) (omega (arith, s.raised)))
            (covers_more w'.log m (λ x. w.matrix i x m.message.to) (λ x. f.message.entries x m.message.to)
            (λ x. rw (a, b) (omega (arith, s.column x))) c')

    -- the past of a node is delivered or covered
    node_covers' : (p b i : ℕ) (m : Issue) (e : Event) → At w' p m → IsUser m → get_elem? w.history b ≡ some e → accepted e.answer ≡ true → e.node ≡ i
        → UpTo w' m.step b → Accounted w' m (λ x. M' i x m.message.to)
    node_covers' p b i m e a u at ok nd upto = go (at_snoc w.log f p m a)
      where
        upto' : UpTo w' m.step b → UpTo w m.step b
        upto' (inl h) = inl h
        upto' (inr h) = inr (before-old m.step b h)

        pass : Accounted w m (λ x. w.matrix i x m.message.to) → Accounted w' m (λ x. M' i x m.message.to)
        pass (inl d) = inl d
        pass (inr c) = inr (covers-step i m c)

        new : (m ≡ f) → (IsUser f) → UpTo w m.step b → i ≡ sender
        new q u' (inl h) = let r = t.event u' in let z : e ≡ r.0 = cc in cc
        new q u' (inr h) = absurd (final b u' (subst (λ (z : Issue). Before w z.step b) q h))

        go : Snoc w.log f p m → Accounted w' m (λ x. M' i x m.message.to)
        go (inl h) = pass (v.node_covers p b i m e h u at ok nd (upto' upto))
        go (inr h) =
            let r : i ≡ sender = new h.1 (cc) (upto' upto) in
            inr (counted (λ x. M' i x m.message.to) (rw (h.1, r) (omega (arith, s.raised))))

    -- what f carries covers its past, since its sender's columns did
    message_covers' : (p q : ℕ) (m g : Issue) → At w' p m → At w' q g → IsUser m → IsUser g → Before w' m.step g.step
        → Accounted w' m (λ x. g.message.entries x m.message.to)
    message_covers' p q m g a b u u' before = go (at_snoc w.log f p m a) (at_snoc w.log f q g b)
      where
        old : Before w m.step g.step
        old = before-old m.step g.step before

        pass : (c c' : ℕ → ℕ) → ((x : ℕ) → c x ≤ c' x) → Accounted w m c → Accounted w' m c'
        pass c c' l (inl d) = inl d
        pass c c' l (inr h) = inr (covers_more w'.log m c c' l (covers_grow w.log (f ∷ []) m c h))

        go : Snoc w.log f p m → Snoc w.log f q g → Accounted w' m (λ x. g.message.entries x m.message.to)
        go (inr h) k = absurd (final g.step (cc) (subst (λ (z : Issue). Before w z.step g.step) h.1 old))
        go (inl h) (inl k) =
            pass (λ x. g.message.entries x m.message.to) (λ x. g.message.entries x m.message.to)
            (λ x. omega arith) (v.message_covers p q m g h k u u' old)
        go (inl h) (inr k) =
            let uf : IsUser f = cc in
            let r = t.event uf in
            pass (λ x. w.matrix sender x m.message.to) (λ x. g.message.entries x m.message.to)
            (λ x. rw k.1 (omega (arith, s.whole uf x m.message.to)))
            (v.node_covers p f.step sender m r.0 h u r.1 r.2 r.3 (inr (subst (λ (z : Issue). Before w m.step z.step) k.1 old)))

    -- deliveries are as they were
    causal' : (p q u : ℕ) (m g : Issue) → At w' p m → At w' q g → IsUser m → IsUser g → m.message.to ≡ g.message.to
        → Before w' m.step g.step → DeliveredAt w.history u g.message → (t : ℕ) × (t < u) × DeliveredAt w.history t m.message
    causal' p q u m g a b um ug d before dl = go (at_snoc w.log f p m a)
      where
        old : Before w m.step g.step
        old = before-old m.step g.step before

        go : Snoc w.log f p m → (t : ℕ) × (t < u) × DeliveredAt w.history t m.message
        go (inr h) = absurd (final g.step (cc) (subst (λ (z : Issue). Before w z.step g.step) h.1 old))
        go (inl h) = v.causal p q u m g h (delivered-old q u g b dl) um ug d old dl

    -- all parts together
    pub issue-invariant : Invariant (after_issue w M' f)
    issue-invariant = record {
      early = early';
      one_each = one_each';
      distinct = distinct';
      numbered = numbered';
      kept = kept';
      carried = carried';
      deliv_bound = deliv_bound';
      closed = λ p g a d. v.closed p g (past-old p g a d) d;
      seen = λ p g a d. v.seen p g (past-old p g a d) d;
      told = v.told;
      later = λ p b g a u d. v.later p b g (delivered-old p b g a d) u d;
      once = v.once;
      own = own';
      node_covers = node_covers';
      message_covers = message_covers';
      causal = causal';
    }
