-- A deliver keeps a world good.
use Prim.Native.Nat.{ℕ, suc, ◌≤◌, ◌<◌, max}
use mathlib.Core.List.{List, [], ◌∷◌, ◌++◌, map}
use mathlib.Core.Logic.{◌⊎◌, inl, inr, ◌≢◌}
use mathlib.Core.Option.{some}
use mathlib.Core.Path.{◌≡◌, refl, sym, ap, subst, ◌∙◌}
use native.Mathlib.Decide.{ℕ_discrete, dec_le}
use native.Mathlib.Omega.{arith}
use lib.ListN.{length, get_elem?}
use Rattle.matrix.specs.Matrix.{Matrix}
use Rattle.matrix.specs.Message.{Message, number, InRange}
use Rattle.protocol.proofs.Below.{update_same, update_other, count_up-same, count_up-other, count_up-le, answers-here}
use Rattle.protocol.proofs.Bounds.{entry_bound}
use Rattle.protocol.proofs.Delivering.{Delivering, deliver-invariant}
use Rattle.protocol.proofs.Good.{state_of, SoundIssue, SoundQueue, SoundNode, Kept, Good, invariant_cong}
use Rattle.protocol.proofs.Grown.{grown, queue-grow, Keeping, good-grown, still-good, refuse-good, node_at, node-eq}
use Rattle.protocol.proofs.Learning.{learned, learned-rules, learned-case, learned-le, learned-from, learned-user, learn-rounds, learn-few}
use Rattle.protocol.proofs.Lists.{length-snoc}
use Rattle.protocol.proofs.Offering.{deliverable-le}
use Rattle.protocol.proofs.Rounds.{put_matrix, put_matrix-same, put_matrix-other, rounds-invariant, rounds-sound}
use Rattle.protocol.proofs.Origins.{above_removed, apart_removed, removed_at}
use Rattle.protocol.proofs.Searching.{skip, unskip, Removed, search-found}
use Rattle.protocol.proofs.State.{Invariant}
use Rattle.protocol.proofs.Trim.{Rounds, rounds-rules, rounds-row}
use Rattle.protocol.specs.Answer.{label, nothing, delivered, Outcome, refuse}
use Rattle.protocol.specs.Deliver.{Search, absent, found, search, count_up, learn, conclude, deliver}
use Rattle.protocol.specs.Demand3.{offers_accepted, deliveries}
use Rattle.protocol.specs.Node.{Node, at_limit, update}
use Rattle.protocol.specs.Offer.{deliverable}
use Rattle.protocol.specs.Trim.{Trimmed}
use Rattle.protocol.specs.World.{delivers, Issue, Event, World, IssueAt, issued_by, after_step}
use Rattle.wire.proofs.Tests.{cond_elim}

-- a deliver by its check and its search: what holds of the refusal, and of what any search leads to, holds of its outcome
pub deliver_checks_lem : (d : Node) (P : Outcome → Type 0) → P (refuse 5 d) → ((r : Search) → search (deliverable d) d.held ≡ r → P (conclude d r)) → P (deliver d)
unfolding deliver
deliver_checks_lem d P r₅ searched =
    cond_elim P (at_limit d) (refuse 5 d) (conclude d (search (deliverable d) d.held)) (λ _. r₅) (λ _. searched (search (deliverable d) d.held) refl)

-- the delivery of the held message of issue p, at place h of its destination's queue
module _ (n : ℕ) (caps : ℕ → ℕ) (w : World) (g : Good n caps w) (p : ℕ) (G : Issue) (at : IssueAt w p G) (k h : ℕ) (l : List Message)
    (removed : Removed (w.nodes G.message.to).held h G.message l)
    (deliverable : (x : ℕ) → x < 12 → G.message.entries x G.message.to ≤ (w.nodes G.message.to).deliv x) where
  -- the message
  abbrev f : Message
  f = G.message

  -- its destination
  abbrev i : ℕ
  i = G.message.to

  -- the node
  abbrev d : Node
  d = node_at n caps w G.message.to

  -- its matrix
  abbrev m : Matrix
  m = (w.nodes G.message.to).matrix

  -- the place of the step in the history
  abbrev t : ℕ
  t = length w.history

  -- the matrix before the trim, and what trim makes of it
  abbrev m₁ : Matrix
  m₁ = learned G.message.kind G.message.to (w.nodes G.message.to).matrix G.message.entries

  -- what trim makes of it
  abbrev r : Trimmed
  r = learn G.message.kind (node_at n caps w G.message.to) G.message.entries

  -- the event
  abbrev e : Event
  e = record { node = i; step = delivers i; answer = delivered (label f) k f.body r.extras }

  -- the node afterwards
  abbrev d' : Node
  d' = record { me = i; n = n; cap = caps i; matrix = r.matrix; deliv = count_up f.from (w.nodes i).deliv; held = l }

  -- all matrices before the delivery
  abbrev M₀ : ℕ → Matrix
  M₀ = λ k. (w.nodes k).matrix

  -- the message is sound
  sound : SoundIssue n caps f
  sound = g.sound p G at

  -- the destination is a node
  hi : i < n
  hi = sound.to

  -- n and its cap are in range
  range : InRange n (caps i)
  range = g.range i hi

  -- the node keeps its rules
  ok : SoundNode n (caps i) w.log w.history i (w.nodes i)
  ok = g.node i hi

  -- trim is a run of rounds
  rounds : Rounds n (caps i) i m₁ r.extras r.matrix
  rounds = learn-rounds f.kind d f.from f.entries hi range.cap_from ok.rules sound.rules

  -- the vector afterwards
  deliv-here : (x : ℕ) → (update w.nodes i d' i).deliv x ≡ count_up f.from (w.nodes i).deliv x
  deliv-here x = rw (update_same w.nodes i d')

  -- the causality argument's delivery
  delivering : Delivering (state_of w) G e (put_matrix M₀ i m₁) (λ k. (update w.nodes i d' k).deliv)
  delivering = record {
    place = p;
    at = at;
    ready = λ x. ready x (dec_le 12 x);
    fresh = ok.queue.above h f removed.at;
    node = refl;
    names = refl;
    counts = deliv-here f.from ∙ count_up-same f.from (w.nodes i).deliv;
    other_nodes = λ k x ne. ap (λ (z : Node). z.deliv x) (update_other w.nodes i d' k ne);
    other_senders = λ x ne. deliv-here x ∙ count_up-other f.from (w.nodes i).deliv x ne;
    grow = λ k x y. grow k x y (ℕ_discrete k i);
    from = λ k x y. from k x y (ℕ_discrete k i);
    own = λ k x. own k x (ℕ_discrete k i);
    merged = λ u x y ne. rw (put_matrix-same M₀ i m₁ x y) (learned-user f.kind i m f.entries x y u ne);
  }
    where
      ready : (x : ℕ) → Dec (12 ≤ x) → f.entries x i ≤ (w.nodes i).deliv x
      ready x (yes q) = omega (arith, sound.rules.rows x i (omega (arith, range.at_most12)))
      ready x (no q) = deliverable x (omega arith)

      grow : (k x y : ℕ) → Dec (k ≡ i) → (w.nodes k).matrix x y ≤ put_matrix M₀ i m₁ k x y
      grow k x y (yes q) = rw (q, put_matrix-same M₀ i m₁ x y) (learned-le f.kind i m f.entries x y)
      grow k x y (no q) = omega (arith, put_matrix-other M₀ i m₁ k x y q)

      from : (k x y : ℕ) → Dec (k ≡ i) → (put_matrix M₀ i m₁ k x y ≡ (w.nodes k).matrix x y) ⊎ (put_matrix M₀ i m₁ k x y ≡ f.entries x y)
      from k x y (yes q) = rw (q, put_matrix-same M₀ i m₁ x y) (learned-from f.kind i m f.entries x y)
      from k x y (no q) = inl (put_matrix-other M₀ i m₁ k x y q)

      own : (k x : ℕ) → Dec (k ≡ i) → put_matrix M₀ i m₁ k x k ≡ 0
      own k x (yes q) = rw q (put_matrix-same M₀ i m₁ x i ∙ (learned-rules f.kind n i f.from m f.entries ok.rules sound.rules).own x)
      own k x (no q) = put_matrix-other M₀ i m₁ k x k q ∙ g.invariant.own k x

  -- the delivery, then the extras
  taking_invariant : Invariant (state_of (grown w i d' r.extras e))
  taking_invariant =
      invariant_cong (w.log ++ map (issued_by t) r.extras) (w.log ++ map (issued_by t) r.extras) (w.history ++ (e ∷ []))
      (put_matrix (put_matrix M₀ i m₁) i r.matrix) (λ k. (update w.nodes i d' k).matrix)
      (λ k. (update w.nodes i d' k).deliv) (λ k. (update w.nodes i d' k).deliv)
      refl (λ k x y. same k x y (ℕ_discrete k i)) (λ k x. refl)
      (rounds-invariant n (caps i) i t m₁ r.extras r.matrix rounds w.log (w.history ++ (e ∷ []))
      (put_matrix M₀ i m₁) (λ k. (update w.nodes i d' k).deliv)
      (λ x y. put_matrix-same M₀ i m₁ x y)
      (deliver-invariant (state_of w) g.invariant G e (put_matrix M₀ i m₁) (λ k. (update w.nodes i d' k).deliv) delivering))
    where
      same : (k x y : ℕ) → Dec (k ≡ i) → put_matrix (put_matrix M₀ i m₁) i r.matrix k x y ≡ (update w.nodes i d' k).matrix x y
      same k x y (yes q) = rw (q, update_same w.nodes i d') (put_matrix-same (put_matrix M₀ i m₁) i r.matrix x y)
      same k x y (no q) = rw (update_other w.nodes i d' k q) (put_matrix-other (put_matrix M₀ i m₁) i r.matrix k x y q ∙ put_matrix-other M₀ i m₁ k x y q)

  -- row i grows by one at most
  row' : (y : ℕ) → r.matrix i y ≤ suc t
  row' y = go (learned-case f.kind i m f.entries i y)
    where
      go : (m₁ i y ≡ m i y) ⊎ ((y ≢ i) × (m₁ i y ≡ max (m i y) (f.entries i y))) → r.matrix i y ≤ suc t
      go (inl a) = omega (arith, (rounds-row n (caps i) i m₁ r.extras r.matrix hi range.at_most12 rounds y).0, ok.row y)
      go (inr a) =
          omega (
            arith,
            (rounds-row n (caps i) i m₁ r.extras r.matrix hi range.at_most12 rounds y).0,
            ok.row y,
            a.1,
            entry_bound (state_of w) g.invariant p G at i y,
          )

  -- what is left of the queue was in it
  held : (q : ℕ) (a : Message) → get_elem? l q ≡ some a → get_elem? (w.nodes i).held (skip h q) ≡ some a
  held q a z = removed_at (w.nodes i).held h f l removed ok.queue.distinct q a z

  -- the message is the next from its sender
  next : number f ≡ suc ((w.nodes i).deliv f.from)
  next = omega (arith, delivering.ready f.from, delivering.fresh)

  -- the queue keeps its rules
  queue' : SoundQueue w.log w.history i (count_up f.from (w.nodes i).deliv) l
  queue' = record {
    from = λ q a z. ok.queue.from (skip h q) a (held q a z);
    to = λ q a z. ok.queue.to (skip h q) a (held q a z);
    above = above_removed (w.nodes i).held h f l removed ok.queue.distinct (w.nodes i).deliv next ok.queue.above;
    distinct = apart_removed (w.nodes i).held h f l removed ok.queue.distinct;
    room = omega (arith, removed.fewer, ok.queue.room);
    ready = λ z. absurd (omega (arith, removed.fewer, ok.queue.room));
  }

  -- the node keeps its rules
  taking_node : SoundNode n (caps i) (w.log ++ map (issued_by t) r.extras) (w.history ++ (e ∷ [])) i d'
  taking_node = record {
    me = refl;
    sized = refl;
    capped = refl;
    rules = rounds-rules n (caps i) i m₁ r.extras r.matrix hi (learned-rules f.kind n i f.from m f.entries ok.rules sound.rules) rounds;
    few = learn-few f.kind d f.from f.entries hi range.at_most12 range.cap_from ok.rules sound.rules ok.few;
    row = λ y. omega (arith, row' y, length-snoc w.history e);
    queue = queue-grow w.log (map (issued_by t) r.extras) w.history e i (count_up f.from (w.nodes i).deliv) l queue';
    number = omega (arith, ok.number, removed.fewer, answers-here offers_accepted i w.history e refl, answers-here deliveries i w.history e refl);
  }

  -- what was taken is delivered or in the queue
  taking_keeps : Keeping w i d' e
  taking_keeps = record { old = old; new = λ j q z. let z : ◌≡◌ {A = ℕ} 0 1 = cc in absurd (omega arith) }
    where
      old : (a : Message) → Kept (w.nodes i) a → Kept d' a
      old a (inl q) = inl (omega (arith, count_up-le f.from (w.nodes i).deliv a.from))
      old a (inr q) = go (ℕ_discrete q.0 h)
        where
          go : Dec (q.0 ≡ h) → Kept d' a
          go (yes z) =
              let b : get_elem? (w.nodes i).held h ≡ some a = rw z at q.1 in
              let c : a ≡ f = cc removed.at in
              inl (rw (c, count_up-same f.from (w.nodes i).deliv) (omega (arith, next)))
          go (no z) = let u = unskip h q.0 z in inr (u.0, removed.rest u.0 ∙ rw u.1 q.1)

  -- a delivery
  pub taking_good : Good n caps
      (after_step w G.message.to (delivers G.message.to) (conclude (node_at n caps w G.message.to) (found k G.message l)))
  taking_good =
      good-grown n caps w g i d' r.extras e refl taking_invariant taking_node
      (rounds-sound n caps i m₁ r.extras r.matrix hi range.cap_from rounds) taking_keeps

-- whatever the search found
conclude-good : (n : ℕ) (caps : ℕ → ℕ) (w : World) → Good n caps w → (i : ℕ) → i < n → (r : Search)
    → search (deliverable (node_at n caps w i)) (w.nodes i).held ≡ r
    → Good n caps (after_step w i (delivers i) (conclude (node_at n caps w i) r))
conclude-good n caps w g i hi absent e =
    subst (λ (z : Node). Good n caps
    (grown w i z [] (record { node = i; step = delivers i; answer = nothing (length (w.nodes i).held) }))) (node-eq n caps w g i hi)
    (still-good n caps w g i hi (delivers i) (nothing (length (w.nodes i).held)) refl refl refl (λ j p q t. let z : ◌≡◌ {A = ℕ} 0 1 = cc in omega arith))
conclude-good n caps w g i hi (found k f l) e =
    let a = search-found (deliverable (node_at n caps w i)) (w.nodes i).held k f l e in
    let b = (g.node i hi).queue.from a.0 f a.2.at in
    go b.issue b.g b.logged i f b.message ((g.node i hi).queue.to a.0 f a.2.at) a.0 a.2 (deliverable-le (node_at n caps w i) f a.1)
  where
    go : (p : ℕ) (G : Issue) → IssueAt w p G → (i : ℕ) (f : Message) → G.message ≡ f → f.to ≡ i → (h : ℕ) → Removed (w.nodes i).held h f l
        → ((x : ℕ) → x < 12 → f.entries x i ≤ (w.nodes i).deliv x)
        → Good n caps (after_step w i (delivers i) (conclude (node_at n caps w i) (found k f l)))
    go p G at i f q d h out ready =
        let c : G.message.to ≡ i = ap (λ (z : Message). z.to) q ∙ d in
        subst (λ (z : Message). Good n caps (after_step w i (delivers i) (conclude (node_at n caps w i) (found k z l)))) q
        (subst (λ (z : ℕ). Good n caps (after_step w z (delivers z) (conclude (node_at n caps w z) (found k G.message l)))) c
        (taking_good n caps w g p G at k h l
        (subst (λ (z : ℕ). Removed (w.nodes z).held h G.message l) (sym c) (subst (λ (z : Message). Removed (w.nodes i).held h z l) (sym q) out))
        (subst (λ (z : ℕ). (x : ℕ) → x < 12 → G.message.entries x z ≤ (w.nodes z).deliv x) (sym c)
        (subst (λ (z : Message). (x : ℕ) → x < 12 → z.entries x i ≤ (w.nodes i).deliv x) (sym q) ready))))

-- any deliver
pub deliver-good : (n : ℕ) (caps : ℕ → ℕ) (w : World) → Good n caps w → (i : ℕ) → i < n → Good n caps (after_step w i (delivers i) (deliver (w.nodes i)))
deliver-good n caps w g i hi =
    subst (λ (z : Node). Good n caps (after_step w i (delivers i) (deliver z))) (sym (node-eq n caps w g i hi))
    (deliver_checks_lem (node_at n caps w i) (λ (r : Outcome). Good n caps (after_step w i (delivers i) r))
    (subst (λ (z : Node). Good n caps (after_step w i (delivers i) (refuse 5 z))) (node-eq n caps w g i hi) (refuse-good n caps w g i hi (delivers i) 5))
    (conclude-good n caps w g i hi))
