-- An offer keeps a world good.
use Prim.Native.Nat.{ℕ, suc, ◌≤◌, ◌<◌}
use mathlib.Core.Bool.{true, not, cond, ◌&&◌}
use mathlib.Core.List.{List, [], ◌∷◌, ◌++◌}
use mathlib.Core.Logic.{◌⊎◌, inl, inr}
use mathlib.Core.Path.{◌≡◌, refl, sym, ap, subst}
use native.Mathlib.Omega.{arith}
use lib.Dec.{eqb, T, le→leb, leb→le, nleb→lt, leb, eqb→eq, T_not}
use lib.ListN.{length}
use Rattle.matrix.specs.Message.{Message, number}
use Rattle.protocol.proofs.Below.{each_all, all-each, answers-here}
use Rattle.protocol.proofs.Good.{Origin, SoundQueue, SoundNode, Kept, Good}
use Rattle.protocol.proofs.Grown.{queue-grow, good-grown, quiet_grown, none-sound, refuse-good, node_at, node-eq}
use Rattle.protocol.proofs.Lists.{at_left, at_last, each_snoc, length-snoc}
use Rattle.protocol.proofs.Origins.{apart_snoc}
use Rattle.protocol.specs.Answer.{taken, Outcome, refuse}
use Rattle.protocol.specs.Demand3.{offers_accepted, deliveries}
use Rattle.protocol.specs.Node.{Node}
use Rattle.protocol.specs.Offer.{deliverable, not_for_me, claims_too_much, delivered_before, some_same_origin, held_already, no_room, holding, offer}
use Rattle.protocol.specs.World.{offers, Issue, Event, World, IssueAt, after_step}
use Rattle.wire.proofs.Tests.{not-not, decide, cond_elim, neqb→ne, eq→eqb, T_and, or-not}

-- deliverable, as a test and as a fact
pub deliverable-le : (d : Node) (m : Message) → T (deliverable d m) → (x : ℕ) → x < 12 → m.entries x d.me ≤ d.deliv x
unfolding deliverable
deliverable-le d m t x h = leb→le (m.entries x d.me) (d.deliv x) (each_all 12 (λ x. leb (m.entries x d.me) (d.deliv x)) t x h)

-- and back
pub le-deliverable : (d : Node) (m : Message) → ((x : ℕ) → x < 12 → m.entries x d.me ≤ d.deliv x) → T (deliverable d m)
unfolding deliverable
le-deliverable d m f = all-each 12 (λ x. leb (m.entries x d.me) (d.deliv x)) (λ x h. le→leb (m.entries x d.me) (d.deliv x) (f x h))

-- an offer by its checks: what holds of each refusal, and of a message that is held, holds of its outcome
pub offer_checks_lem : (d : Node) (m : Message) (P : Outcome → Type 0) → (T (not_for_me d m) → P (refuse 12 d)) → (T (claims_too_much d m) → P (refuse 13 d))
    → (T (delivered_before d m) → P (refuse 14 d)) → (T (held_already d m) → P (refuse 15 d)) → (T (no_room d m) → P (refuse 16 d))
    → (T (not (not_for_me d m)) → T (not (delivered_before d m)) → T (not (held_already d m)) → T (not (no_room d m)) → P (holding d m))
    → P (offer d m)
unfolding offer
offer_checks_lem d m P r₁₂ r₁₃ r₁₄ r₁₅ r₁₆ held =
    cond_elim P (not_for_me d m) (refuse 12 d) t₂ r₁₂
    (λ a. cond_elim P (claims_too_much d m) (refuse 13 d) t₃ r₁₃
    (λ _. cond_elim P (delivered_before d m) (refuse 14 d) t₄ r₁₄
    (λ b. cond_elim P (held_already d m) (refuse 15 d) t₅ r₁₅
    (λ c. cond_elim P (no_room d m) (refuse 16 d) (holding d m) r₁₆ (λ e. held a b c e)))))
  where
    t₅ : Outcome
    t₅ = cond (no_room d m) (refuse 16 d) (holding d m)

    t₄ : Outcome
    t₄ = cond (held_already d m) (refuse 15 d) t₅

    t₃ : Outcome
    t₃ = cond (delivered_before d m) (refuse 14 d) t₄

    t₂ : Outcome
    t₂ = cond (claims_too_much d m) (refuse 13 d) t₃

-- one more message in the queue
queue-snoc : (log : List Issue) (history : List Event) (k : ℕ) (v : ℕ → ℕ) (s : List Message) (f : Message) → SoundQueue log history k v s
    → Origin log history f → f.to ≡ k → v f.from < number f
    → T (not (some_same_origin s f)) → length s < 16 → (length s ≡ 15 → (x : ℕ) → x < 12 → f.entries x k ≤ v x) → SoundQueue log history k v (s ++ (f ∷ []))
queue-snoc log history k v s f q from to above free room ready =
    record {
      from = each_snoc (λ (a : Message). Origin log history a) s f q.from from;
      to = each_snoc (λ (a : Message). a.to ≡ k) s f q.to to;
      above = each_snoc (λ (a : Message). v a.from < number a) s f q.above above;
      distinct = apart_snoc s f q.distinct free;
      room = rw length-snoc (omega arith);
      ready = λ e. (length s, f, at_last s f, ready (omega (arith, length-snoc s f)));
    }

-- an offer that is not refused, at node i, of issue p
module _ (n : ℕ) (caps : ℕ → ℕ) (w : World) (g : Good n caps w) (i : ℕ) (hi : i < n) (p : ℕ) (l : Issue) (at : IssueAt w p l) where
  -- the node
  abbrev d : Node
  d = node_at n caps w i

  -- the message
  abbrev f : Message
  f = l.message

  -- the event
  abbrev e : Event
  e = record { node = i; step = offers i p; answer = taken (suc (length (w.nodes i).held)) (deliverable d f) }

  -- the node afterwards
  abbrev d' : Node
  d' = record { me = i; n = n; cap = caps i; matrix = (w.nodes i).matrix; deliv = (w.nodes i).deliv; held = (w.nodes i).held ++ (f ∷ []) }

  -- the node keeps its rules
  ok : SoundNode n (caps i) w.log w.history i (w.nodes i)
  ok = g.node i hi

  -- the message is held, last
  holding-good : f.to ≡ i → (w.nodes i).deliv f.from < number f → T (not (some_same_origin (w.nodes i).held f)) → length (w.nodes i).held < 16
      → (length (w.nodes i).held ≡ 15 → (x : ℕ) → x < 12 → f.entries x i ≤ (w.nodes i).deliv x) → Good n caps (after_step w i (offers i p) (holding d f))
  holding-good to above free room ready =
      good-grown n caps w g i d' [] e refl (quiet_grown n caps w g i d' e refl refl refl) node (none-sound n caps) (record { old = old; new = new })
    where
      origin : Origin (w.log ++ []) (w.history ++ (e ∷ [])) f
      origin = record {
        place = length w.history;
        event = e;
        at = at_last w.history e;
        issue = p;
        offered = ap (λ (z : ℕ). offers z p) (sym to);
        accepted = refl;
        g = l;
        logged = at_left w.log [] p l at;
        message = refl;
      }

      node : SoundNode n (caps i) (w.log ++ []) (w.history ++ (e ∷ [])) i d'
      node = record {
        me = refl;
        sized = refl;
        capped = refl;
        rules = ok.rules;
        few = ok.few;
        row = λ y. omega (arith, ok.row y, length-snoc w.history e);
        queue = queue-snoc (w.log ++ []) (w.history ++ (e ∷ [])) i (w.nodes i).deliv (w.nodes i).held f
            (queue-grow w.log [] w.history e i (w.nodes i).deliv (w.nodes i).held ok.queue) origin to above free room ready;
        number = omega (
          arith,
          ok.number,
          length-snoc (w.nodes i).held f,
          answers-here offers_accepted i w.history e refl,
          answers-here deliveries i w.history e refl,
        );
      }

      old : (m : Message) → Kept (w.nodes i) m → Kept d' m
      old m (inl h) = inl h
      old m (inr h) = inr (h.0, at_left (w.nodes i).held (f ∷ []) h.0 m h.1)

      new : (j q : ℕ) → offers i p ≡ offers j q → true ≡ true → (k : Issue) × IssueAt w q k × (k.message.to ≡ i) × Kept d' k.message
      new j q z _ = let z' : p ≡ q = cc in (l, rw z' at at, to, inr (length (w.nodes i).held, at_last (w.nodes i).held f))

  -- each check, then the message is held
  pub offer-good : Good n caps (after_step w i (offers i p) (offer (w.nodes i) l.message))
  offer-good =
      subst (λ (z : Node). P (offer z f)) (sym (node-eq n caps w g i hi))
      (offer_checks_lem d f P (λ _. refused-good 12) (λ _. refused-good 13) (λ _. refused-good 14) (λ _. refused-good 15) (λ _. refused-good 16) held)
    where
      P : Outcome → Type 0
      P r = Good n caps (after_step w i (offers i p) r)

      refused-good : (r : ℕ) → P (refuse r d)
      refused-good r = subst (λ (z : Node). P (refuse r z)) (node-eq n caps w g i hi) (refuse-good n caps w g i hi (offers i p) r)

      held : T (not (not_for_me d f)) → T (not (delivered_before d f)) → T (not (held_already d f)) → T (not (no_room d f)) → P (holding d f)
      held a b c e =
          let r = or-not (eqb (length d.held) 16) (eqb (length d.held) 15 && not (deliverable d f)) e in
          holding-good (eqb→eq f.to i (not-not (eqb f.to i) a)) (nleb→lt (number f) (d.deliv f.from) b) c
          (omega (arith, neqb→ne (length d.held) 16 r.0, ok.queue.room)) (λ q. deliverable-le d f (ready q (decide (deliverable d f)) r.1))
        where
          -- into the sixteenth place goes a deliverable one
          ready : length d.held ≡ 15 → T (deliverable d f) ⊎ T (not (deliverable d f))
              → T (not (eqb (length d.held) 15 && not (deliverable d f))) → T (deliverable d f)
          ready q (inl t) h = t
          ready q (inr t) h =
              absurd (T_not (eqb (length d.held) 15 && not (deliverable d f)) h
              (T_and (eqb (length d.held) 15) (not (deliverable d f)) (eq→eqb (length d.held) 15 q) t))
