-- A world grows by one step of one node: what the other nodes keep, and what the step must show so that the world stays good. Steps that change no matrix do.
use Prim.Native.Nat.{ℕ, ◌<◌}
use mathlib.Core.Bool.{true}
use mathlib.Core.List.{List, [], ◌∷◌, ◌++◌, append-nil, map}
use mathlib.Core.Logic.{◌⊎◌, inl, inr, ◌≢◌}
use mathlib.Core.Option.{none, some}
use mathlib.Core.Path.{◌≡◌, refl, sym, ap, subst, ◌∙◌}
use native.Mathlib.Decide.{ℕ_discrete}
use native.Mathlib.Omega.{arith}
use lib.ListN.{get_elem?, length}
use Rattle.matrix.specs.Message.{Message}
use Rattle.protocol.proofs.Below.{update_same, update_other, answers-here, answers-other}
use Rattle.protocol.proofs.Good.{state_of, SoundIssue, AllSound, Origin, SoundQueue, SoundNode, Kept, Good, invariant_cong}
use Rattle.protocol.proofs.Lists.{at_none, at_left, Snoc, at_snoc, at_append, length-snoc, map_at}
use Rattle.protocol.proofs.Quiet.{quiet_invariant}
use Rattle.protocol.proofs.State.{Invariant}
use Rattle.protocol.specs.Answer.{Answer, refused, accepted, delivery, refuse}
use Rattle.protocol.specs.Demand3.{offers_accepted, deliveries}
use Rattle.protocol.specs.Node.{Node, update}
use Rattle.protocol.specs.World.{Step, offers, Issue, Event, World, IssueAt, issued_by, after_step}

-- the world after a step of node i that leaves it as d, issues out, and is told of as e
abbrev pub grown : World → ℕ → Node → List Message → Event → World
grown w i d out e = record { nodes = update w.nodes i d; log = w.log ++ map (issued_by (length w.history)) out; history = w.history ++ (e ∷ []) }

-- a longer log and history keep the offer by which a message came
origin_grow : (log r : List Issue) (history : List Event) (e : Event) (m : Message) → Origin log history m → Origin (log ++ r) (history ++ (e ∷ [])) m
origin_grow log r history e m o = record {
  place = o.place;
  event = o.event;
  at = at_left history (e ∷ []) o.place o.event o.at;
  issue = o.issue;
  offered = o.offered;
  accepted = o.accepted;
  g = o.g;
  logged = at_left log r o.issue o.g o.logged;
  message = o.message;
}

-- a longer log and history keep a queue
pub queue-grow : (log r : List Issue) (history : List Event) (e : Event) (k : ℕ) (v : ℕ → ℕ) (s : List Message) → SoundQueue log history k v s
    → SoundQueue (log ++ r) (history ++ (e ∷ [])) k v s
queue-grow log r history e k v s q =
    record {
      from = λ h m a. origin_grow log r history e m (q.from h m a);
      to = q.to;
      above = q.above;
      distinct = q.distinct;
      room = q.room;
      ready = q.ready;
    }

-- a step of another node keeps a node
node-grow : (n cap : ℕ) (log r : List Issue) (history : List Event) (e : Event) (k : ℕ) (d : Node) → e.node ≢ k → SoundNode n cap log history k d
    → SoundNode n cap (log ++ r) (history ++ (e ∷ [])) k d
node-grow n cap log r history e k d ne v = record {
  me = v.me;
  sized = v.sized;
  capped = v.capped;
  rules = v.rules;
  few = v.few;
  row = λ y. omega (arith, v.row y, length-snoc history e);
  queue = queue-grow log r history e k d.deliv d.held v.queue;
  number = omega (arith, v.number, answers-other offers_accepted k history e ne, answers-other deliveries k history e ne);
}

-- what node i, now d, keeps of the messages taken so far, and what the step e took
pub record Keeping (w : World) (i : ℕ) (d : Node) (e : Event) : Type 0 where
  pub old : (m : Message) → Kept (w.nodes i) m → Kept d m
  pub new : (j p : ℕ) → e.step ≡ offers j p → accepted e.answer ≡ true → (g : Issue) × IssueAt w p g × (g.message.to ≡ i) × Kept d g.message

module _ (n : ℕ) (caps : ℕ → ℕ) (w : World) (g : Good n caps w) (i : ℕ) (d : Node) (out : List Message) (e : Event) where
  -- the world after the step
  abbrev w' : World
  w' = grown w i d out e

  -- the one lemma for every step: node i and what it issued must be shown sound
  pub good-grown : e.node ≡ i → Invariant (state_of w') → SoundNode n (caps i) w'.log w'.history i d
      → AllSound n caps out → Keeping w i d e → Good n caps w'
  good-grown here v ok sound keep = record { range = g.range; invariant = v; node = node; sound = sound'; taken = taken' }
    where
      node : (k : ℕ) → k < n → SoundNode n (caps k) w'.log w'.history k (w'.nodes k)
      node k h = go (ℕ_discrete k i)
        where
          go : Dec (k ≡ i) → SoundNode n (caps k) w'.log w'.history k (w'.nodes k)
          go (yes q) = rw (q, update_same w.nodes i d) ok
          go (no q) =
              rw (update_other w.nodes i d k q)
              (node-grow n (caps k) w.log (map (issued_by (length w.history)) out) w.history e k (w.nodes k) (λ z. q (sym z ∙ here)) (g.node k h))

      sound' : (p : ℕ) (l : Issue) → IssueAt w' p l → SoundIssue n caps l.message
      sound' p l a = go (at_append w.log (map (issued_by (length w.history)) out) p l a)
        where
          go : IssueAt w p l ⊎ ((q : ℕ) × (get_elem? (map (issued_by (length w.history)) out) q ≡ some l)) → SoundIssue n caps l.message
          go (inl h) = g.sound p l h
          go (inr h) =
              let r = map_at (issued_by (length w.history)) out h.0 l h.1 in
              subst (λ (z : Issue). SoundIssue n caps z.message) r.2 (sound h.0 r.0 r.1)

      kept : (m : Message) → Kept (w.nodes m.to) m → Dec (m.to ≡ i) → Kept (w'.nodes m.to) m
      kept m h (yes q) =
          subst (λ (k : ℕ). Kept (w'.nodes k) m) (sym q) (rw (update_same w.nodes i d) (keep.old m (subst (λ (k : ℕ). Kept (w.nodes k) m) q h)))
      kept m h (no q) = rw (update_other w.nodes i d m.to q) h

      taken' : (t j p : ℕ) (x : Event) → get_elem? w'.history t ≡ some x → x.step ≡ offers j p → accepted x.answer ≡ true
          → (l : Issue) × IssueAt w' p l × Kept (w'.nodes l.message.to) l.message
      taken' t j p x a b c = go (at_snoc w.history e t x a)
        where
          go : Snoc w.history e t x → (l : Issue) × IssueAt w' p l × Kept (w'.nodes l.message.to) l.message
          go (inl h) =
              let r = g.taken t j p x h b c in (
                r.0,
                at_left w.log (map (issued_by (length w.history)) out) p r.0 r.1,
                kept r.0.message r.2 (ℕ_discrete r.0.message.to i),
              )
          go (inr h) =
              let r = keep.new j p (ap (λ (z : Event). z.step) (sym h.1) ∙ b) (ap (λ (z : Event). accepted z.answer) (sym h.1) ∙ c) in (
                r.0,
                at_left w.log (map (issued_by (length w.history)) out) p r.0 r.1,
                subst (λ (k : ℕ). Kept (w'.nodes k) r.0.message) (sym r.2) (rw (update_same w.nodes i d) r.3),
              )

-- a step that takes nothing, at a node whose vector and queue stay
pub keeps_all : (w : World) (i : ℕ) (d : Node) (e : Event) → ((j p : ℕ) → e.step ≡ offers j p → accepted e.answer ≡ true → ⊥) → d.deliv ≡ (w.nodes i).deliv
    → d.held ≡ (w.nodes i).held → Keeping w i d e
keeps_all w i d e quiet a b = record { old = λ m h. rw (a, b) h; new = λ j p s t. absurd (quiet j p s t) }

-- a step that issues and delivers nothing, and changes no matrix and no vector
pub quiet_grown : (n : ℕ) (caps : ℕ → ℕ) (w : World) → Good n caps w → (i : ℕ) (d : Node) (e : Event) → delivery e.answer ≡ none
    → d.matrix ≡ (w.nodes i).matrix → d.deliv ≡ (w.nodes i).deliv
    → Invariant (state_of (grown w i d [] e))
quiet_grown n caps w g i d e q m v =
    invariant_cong w.log (w.log ++ []) (w.history ++ (e ∷ [])) (λ k. (w.nodes k).matrix) (λ k. (update w.nodes i d k).matrix)
    (λ k. (w.nodes k).deliv) (λ k. (update w.nodes i d k).deliv)
    (sym (append-nil w.log)) (λ k x y. same k x y (ℕ_discrete k i)) (λ k x. same-deliv k x (ℕ_discrete k i)) (quiet_invariant (state_of w) g.invariant e q)
  where
    same : (k x y : ℕ) → Dec (k ≡ i) → (w.nodes k).matrix x y ≡ (update w.nodes i d k).matrix x y
    same k x y (yes r) = rw (r, update_same w.nodes i d, m)
    same k x y (no r) = rw (update_other w.nodes i d k r)

    same-deliv : (k x : ℕ) → Dec (k ≡ i) → (w.nodes k).deliv x ≡ (update w.nodes i d k).deliv x
    same-deliv k x (yes r) = rw (r, update_same w.nodes i d, v)
    same-deliv k x (no r) = rw (update_other w.nodes i d k r)

-- nothing was issued
pub none-sound : (n : ℕ) (caps : ℕ → ℕ) → AllSound n caps []
none-sound n caps p f e = absurd (at_none p f e)

-- a step that leaves its node as it was: a refused one, and a deliver that delivers nothing
pub still-good : (n : ℕ) (caps : ℕ → ℕ) (w : World) → Good n caps w → (i : ℕ) → i < n → (s : Step) (a : Answer) → delivery a ≡ none
    → offers_accepted a ≡ 0 → deliveries a ≡ 0
    → ((j p : ℕ) → s ≡ offers j p → accepted a ≡ true → ⊥) → Good n caps (grown w i (w.nodes i) [] (record { node = i; step = s; answer = a }))
still-good n caps w g i h s a q o c quiet =
    good-grown n caps w g i (w.nodes i) [] e refl (quiet_grown n caps w g i (w.nodes i) e q refl refl)
    (record {
      me = v.me;
      sized = v.sized;
      capped = v.capped;
      rules = v.rules;
      few = v.few;
      row = λ y. omega (arith, v.row y, length-snoc w.history e);
      queue = queue-grow w.log [] w.history e i (w.nodes i).deliv (w.nodes i).held v.queue;
      number = omega (arith, v.number, answers-here offers_accepted i w.history e refl, answers-here deliveries i w.history e refl);
    })
    (none-sound n caps) (keeps_all w i (w.nodes i) e quiet refl refl)
  where
    e : Event
    e = record { node = i; step = s; answer = a }

    v : SoundNode n (caps i) w.log w.history i (w.nodes i)
    v = g.node i h

-- a refused step
pub refuse-good : (n : ℕ) (caps : ℕ → ℕ) (w : World) → Good n caps w → (i : ℕ) → i < n → (s : Step) (r : ℕ)
    → Good n caps (after_step w i s (refuse r (w.nodes i)))
refuse-good n caps w g i h s r = still-good n caps w g i h s (refused r) refl refl refl (λ j p q t. let z : ◌≡◌ {A = ℕ} 0 1 = cc in omega arith)

-- node i as its place says
abbrev pub node_at : ℕ → (ℕ → ℕ) → World → ℕ → Node
node_at n caps w i = record { me = i; n = n; cap = caps i; matrix = (w.nodes i).matrix; deliv = (w.nodes i).deliv; held = (w.nodes i).held }

-- it is that node
pub node-eq : (n : ℕ) (caps : ℕ → ℕ) (w : World) → Good n caps w → (i : ℕ) → i < n → w.nodes i ≡ node_at n caps w i
node-eq n caps w g i h =
    let k = g.node i h in
    λ z. record { me = k.me z; n = k.sized z; cap = k.capped z; matrix = (w.nodes i).matrix; deliv = (w.nodes i).deliv; held = (w.nodes i).held }
