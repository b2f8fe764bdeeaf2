-- In a good world: delivered is decided, the queues hold what the history says, and an earliest undelivered message exists.
-- With fewer than 1,000,000,000 steps an offer of it is accepted, or a deliver at its destination delivers a message.
use Prim.Native.Nat.{ℕ, zero, suc, ◌≤◌, ◌<◌}
use mathlib.Core.Bool.{true, not, ◌&&◌}
use mathlib.Core.Logic.{◌⊎◌, inl, inr}
use mathlib.Core.Option.{Option, none, some}
use mathlib.Core.Path.{◌≡◌, refl, sym, ap, subst, ◌∙◌}
use native.Mathlib.Decide.{ℕ_discrete, dec_le}
use native.Mathlib.Omega.{arith}
use lib.Dec.{T, eqb, T_not, not_T, eqb_refl}
use lib.ListN.{length, get_elem?}
use Rattle.matrix.specs.Message.{Message, number}
use Rattle.protocol.proofs.Bounds.{below-limit, claims_little}
use Rattle.protocol.proofs.Good.{Origin, SoundNode, Kept, Good}
use Rattle.protocol.proofs.Grown.{node_at, node-eq}
use Rattle.protocol.proofs.Offering.{le-deliverable, offer_checks_lem}
use Rattle.protocol.proofs.Origins.{origin_at}
use Rattle.protocol.proofs.Searching.{search-found, search-absent}
use Rattle.protocol.specs.Answer.{label, accepted, delivery, Outcome, refuse}
use Rattle.protocol.specs.Deliver.{Search, absent, found, search, conclude, deliver}
use Rattle.protocol.specs.Demand3.{Delivered, Held, held_at, QueueAgrees, Earliest, DeliversNew}
use Rattle.protocol.specs.Node.{Node, at_limit}
use Rattle.protocol.specs.Offer.{deliverable, not_for_me, claims_too_much, delivered_before, no_room, offer}
use Rattle.protocol.specs.World.{Issue, World, IssueAt}
use Rattle.wire.proofs.Tests.{T_not-not, and_T, cond_no, lt→nleb, ne→neqb, not-or}
use Rattle.wire.specs.Limits.{max_held}

module _ (n : ℕ) (caps : ℕ → ℕ) (w : World) (g : Good n caps w) where
  -- delivered, by the vector and by the history
  pub told : (p : ℕ) (l : Issue) → IssueAt w p l → Delivered w l.message → number l.message ≤ (w.nodes l.message.to).deliv l.message.from
  told p l a d =
      let b : number l.message ≤ (w.nodes d.1.event.node).deliv l.message.from
      = g.invariant.told d.0 d.1.event (label l.message) d.1.at d.1.names in
      rw d.1.here at b

  -- so delivered is decided
  pub delivered? : (p : ℕ) (l : Issue) → IssueAt w p l → Delivered w l.message ⊎ (¬ Delivered w l.message)
  delivered? p l a = go (dec_le (number l.message) ((w.nodes l.message.to).deliv l.message.from))
    where
      go : Dec (number l.message ≤ (w.nodes l.message.to).deliv l.message.from) → Delivered w l.message ⊎ (¬ Delivered w l.message)
      go (yes q) = inl (g.invariant.seen p l a q)
      go (no q) = inr (λ d. q (told p l a d))

  -- there is an earliest
  earlier : (k : ℕ) → ((q : ℕ) (h : Issue) → q < k → IssueAt w q h → Delivered w h.message) ⊎ ((q : ℕ) × (h : Issue) × Earliest w q h)
  earlier zero = inl (λ q h l a. absurd (omega arith))
  earlier (suc k) = go (earlier k) (get_elem? w.log k) refl
    where
      -- below k and at k
      both : ((q : ℕ) (h : Issue) → q < k → IssueAt w q h → Delivered w h.message) → ((h : Issue) → IssueAt w k h → Delivered w h.message)
          → (q : ℕ) (h : Issue) → q < suc k → IssueAt w q h
          → Dec (q ≡ k) → Delivered w h.message
      both f here q h l a (yes s) = here h (rw s at a)
      both f here q h l a (no s) = f q h (omega arith) a

      go : ((q : ℕ) (h : Issue) → q < k → IssueAt w q h → Delivered w h.message) ⊎ ((q : ℕ) × (h : Issue) × Earliest w q h)
          → (o : Option Issue) → get_elem? w.log k ≡ o
          → ((q : ℕ) (h : Issue) → q < suc k → IssueAt w q h → Delivered w h.message) ⊎ ((q : ℕ) × (h : Issue) × Earliest w q h)
      go (inr r) o e = inr r
      go (inl f) none e = inl (λ q h l a. both f (λ x b. let z : ◌≡◌ {A = ℕ} 0 1 = cc in absurd (omega arith)) q h l a (ℕ_discrete q k))
      go (inl f) (some x) e = decided (delivered? k x e)
        where
          decided : Delivered w x.message ⊎ (¬ Delivered w x.message)
              → ((q : ℕ) (h : Issue) → q < suc k → IssueAt w q h → Delivered w h.message) ⊎ ((q : ℕ) × (h : Issue) × Earliest w q h)
          decided (inl d) = inl (λ q h l a. both f (λ y b. let z : x ≡ y = cc in rw z at d) q h l a (ℕ_discrete q k))
          decided (inr d) = inr (k, x, record { at = e; undelivered = d; earlier = f })

  -- where a message is undelivered, there is an earliest
  pub exists : (p : ℕ) (f : Issue) → IssueAt w p f → ¬ Delivered w f.message → (q : ℕ) × (h : Issue) × Earliest w q h
  exists p f a open' = go (earlier (suc p))
    where
      go : ((q : ℕ) (h : Issue) → q < suc p → IssueAt w q h → Delivered w h.message) ⊎ ((q : ℕ) × (h : Issue) × Earliest w q h)
          → (q : ℕ) × (h : Issue) × Earliest w q h
      go (inl r) = absurd (open' (r p f (omega arith) a))
      go (inr r) = r

  -- the queue of node j and the history agree
  module _ (j : ℕ) (hj : j < n) where
    -- node j keeps its rules
    ok : SoundNode n (caps j) w.log w.history j (w.nodes j)
    ok = g.node j hj

    -- a message in the queue is held
    pub queued-held : (h : ℕ) (m : Message) → get_elem? (w.nodes j).held h ≡ some m
        → (p : ℕ) × (l : Issue) × IssueAt w p l × (l.message ≡ m) × (m.to ≡ j) × Held w p m
    queued-held h m a =
        let o = ok.queue.from h m a in
        let to : m.to ≡ j = ok.queue.to h m a in (
          o.issue,
          o.g,
          o.logged,
          o.message,
          to,
          record { place = o.place; event = o.event; at = o.at; offered = o.offered; accepted = o.accepted; undelivered = λ d. above o to d },
        )
      where
        above : Origin w.log w.history m → m.to ≡ j → Delivered w m → ⊥
        above o to d =
            let d' : Delivered w o.g.message = subst (λ (z : Message). Delivered w z) (sym o.message) d in
            let b : number m ≤ (w.nodes m.to).deliv m.from
            = subst (λ (z : Message). number z ≤ (w.nodes z.to).deliv z.from) o.message (told o.issue o.g o.logged d') in
            let b' : number m ≤ (w.nodes j).deliv m.from = subst (λ (z : ℕ). number m ≤ (w.nodes z).deliv m.from) to b in
            omega (arith, ok.queue.above h m a)

    -- a held message is in the queue
    pub held-queued : (p : ℕ) (l : Issue) → IssueAt w p l → l.message.to ≡ j → Held w p l.message
        → (h : ℕ) × (get_elem? (w.nodes j).held h ≡ some l.message)
    held-queued p l a to h =
        let r = g.taken h.place l.message.to p h.event h.at h.offered h.accepted in
        let z : r.0 ≡ l = cc (r.1, a) in
        go (subst (λ (k : ℕ). Kept (w.nodes k) l.message) to (subst (λ (x : Issue). Kept (w.nodes x.message.to) x.message) z r.2))
      where
        go : Kept (w.nodes j) l.message → (h : ℕ) × (get_elem? (w.nodes j).held h ≡ some l.message)
        go (inl q) =
            absurd (h.undelivered (g.invariant.seen p l a (subst (λ (k : ℕ). number l.message ≤ (w.nodes k).deliv l.message.from) (sym to) q)))
        go (inr q) = q

    -- both, and how many
    pub queue-agrees : QueueAgrees w j
    queue-agrees = record {
      number = omega (arith, ok.number);
      each = queued-held;
      all = held-queued;
      apart = λ h k m a b. ok.queue.distinct h k m m a b refl refl;
    }

  module _ (few : length w.history < 1000000000) where
    -- the earliest undelivered message to its destination
    module _ (p : ℕ) (f : Issue) (at : IssueAt w p f) (open' : ¬ Delivered w f.message)
        (first : (q : ℕ) (h : Issue) → q < p → IssueAt w q h → h.message.to ≡ f.message.to → Delivered w h.message) where
      abbrev i : ℕ
      i = f.message.to

      abbrev d : Node
      d = node_at n caps w i

      hi : i < n
      hi = (g.sound p f at).to

      above : (w.nodes i).deliv f.message.from < number f.message
      above = go (dec_le (number f.message) ((w.nodes i).deliv f.message.from))
        where
          go : Dec (number f.message ≤ (w.nodes i).deliv f.message.from) → (w.nodes i).deliv f.message.from < number f.message
          go (yes q) = absurd (open' (g.invariant.seen p f at q))
          go (no q) = omega arith

      -- what it waits for was issued earlier to the same destination, so it is delivered
      entries-delivered : (x : ℕ) → f.message.entries x i ≤ (w.nodes i).deliv x
      entries-delivered x = go (f.message.entries x i) refl
        where
          go : (k : ℕ) → f.message.entries x i ≡ k → f.message.entries x i ≤ (w.nodes i).deliv x
          go zero q = omega arith
          go (suc k) q =
              let c = g.invariant.carried p f at x i k q in
              let s = c.0 in
              let b : number s.issue.message ≤ (w.nodes s.issue.message.to).deliv s.issue.message.from
              = told s.place s.issue s.at (first s.place s.issue c.1 s.at s.to) in
              let b' : suc k ≤ (w.nodes i).deliv x =
              subst (λ (z : ℕ). suc k ≤ (w.nodes i).deliv z) s.from
              (subst (λ (z : ℕ). suc k ≤ (w.nodes z).deliv s.issue.message.from) s.to (rw s.number at b)) in
              omega arith

      ready : T (deliverable d f.message)
      ready = le-deliverable d f.message (λ x h. entries-delivered x)

      -- a message in the queue with its from and number is it
      same-held : (h : ℕ) (a : Message) → get_elem? (w.nodes i).held h ≡ some a → a.from ≡ f.message.from
          → number a ≡ number f.message → Held w p f.message
      same-held h a b s k =
          let o = queued-held i hi h a b in
          let q : o.0 ≡ p = g.invariant.distinct o.0 p o.1 f o.2 at (ap (λ (z : Message). z.from) o.3 ∙ s)
          (ap (λ (z : Message). z.to) o.3 ∙ o.4) (ap number o.3 ∙ k) in
          let l : IssueAt w p o.1 = rw q at o.2 in
          let z : o.1 ≡ f = cc in
          let m : a ≡ f.message = sym o.3 ∙ ap (λ (z : Issue). z.message) z in
          subst (λ (z : Message). Held w p z) m (subst (λ (z : ℕ). Held w z a) q o.5)

      -- an offer of it is accepted
      pub accepts-first : ¬ Held w p f.message → held_at w i < max_held → accepted (offer (w.nodes i) f.message).answer ≡ true
      accepts-first free room =
          subst (λ (z : Node). P (offer z f.message)) (sym (node-eq n caps w g i hi))
          (offer_checks_lem d f.message P (λ t. absurd (T_not (not_for_me d f.message) (T_not-not (eqb i i) (eqb_refl i)) t))
          (λ t. absurd (T_not (claims_too_much d f.message) (claims_little n caps w g p f at i) t))
          (λ t. absurd (T_not (delivered_before d f.message) (lt→nleb (number f.message) ((w.nodes i).deliv f.message.from) above) t))
          (λ t. let r = origin_at (w.nodes i).held f.message t in absurd (free (same-held r.0 r.1 r.2 r.3 r.4)))
          (λ t. absurd (T_not (no_room d f.message) has_room t)) (λ _ _ _ _. refl))
        where
          P : Outcome → Type 0
          P r = accepted r.answer ≡ true

          has_room : T (not (no_room d f.message))
          has_room =
              not-or (eqb (length (w.nodes i).held) 16) (eqb (length (w.nodes i).held) 15 && not (deliverable d f.message))
              (ne→neqb (length (w.nodes i).held) 16 (omega (arith, (queue-agrees i hi).number)))
              (not_T (eqb (length (w.nodes i).held) 15 && not (deliverable d f.message))
              (λ t. T_not (deliverable d f.message) (and_T (eqb (length (w.nodes i).held) 15) (not (deliverable d f.message)) t).1 ready))

      -- a deliver delivers a message: it, or another
      pub delivers-first : Held w p f.message ⊎ (held_at w i ≡ max_held) → DeliversNew w i
      unfolding deliver
      delivers-first c = go (search (deliverable d) (w.nodes i).held) refl
        where
          some-ready : Held w p f.message ⊎ (held_at w i ≡ max_held) → (h : ℕ) × (a : Message) × (get_elem? (w.nodes i).held h ≡ some a) × T (deliverable d a)
          some-ready (inl q) = let r = held-queued i hi p f at refl q in (r.0, f.message, r.1, ready)
          some-ready (inr q) =
              let r = (g.node i hi).queue.ready (omega (arith, (queue-agrees i hi).number)) in
              (r.0, r.1, r.2, le-deliverable d r.1 r.3)

          answer-is : (r : Search) → search (deliverable d) (w.nodes i).held ≡ r → (deliver (w.nodes i)) ≡ conclude d r
          answer-is r q =
              ap deliver (node-eq n caps w g i hi)
              ∙ cond_no (at_limit d) (refuse 5 d) (conclude d (search (deliverable d) (w.nodes i).held)) (below-limit n caps w g few i) ∙ ap (conclude d) q

          go : (r : Search) → search (deliverable d) (w.nodes i).held ≡ r → DeliversNew w i
          go absent q =
              let a = some-ready c in
              absurd (T_not (deliverable d a.1) (search-absent (deliverable d) (w.nodes i).held q a.0 a.1 a.2) a.3)
          go (found k a l) q =
              let r = search-found (deliverable d) (w.nodes i).held k a l q in
              let o = queued-held i hi r.0 a r.2.at in
              record {
                place = o.0;
                issue = o.1;
                at = o.2;
                here = ap (λ (z : Message). z.to) o.3 ∙ o.4;
                new = subst (λ (z : Message). ¬ Delivered w z) (sym o.3) o.5.undelivered;
                answers = ap (λ (z : Outcome). delivery z.answer) (answer-is (found k a l) q) ∙ ap (λ (z : Message). some (label z)) (sym o.3);
              }
