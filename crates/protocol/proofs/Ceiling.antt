-- What the steps of a list report and issue: each keeps the bounds on extra messages, and the log has for each step what its answer says. Assumes nothing.
use Prim.Native.Nat.{ℕ, zero, suc, ◌+◌, ◌*◌, ◌-◌, ◌≤◌, ◌<◌}
use mathlib.Core.Bool.{cond}
use mathlib.Core.List.{List, [], ◌∷◌, ◌++◌, map, map-append, map-id, map-map}
use mathlib.Core.Logic.{inl, inr, ◌≢◌}
use mathlib.Core.Option.{some}
use mathlib.Core.Path.{◌≡◌, ◌∙◌, ap, refl, subst, sym}
use native.Mathlib.Nat.{mul-suc}
use native.Mathlib.Omega.{arith}
use lib.Dec.{eqb, leb}
use lib.ListN.{get_elem?, length}
use Rattle.matrix.specs.Matrix.{Matrix, clear, count, fullest, merge}
use Rattle.matrix.specs.Message.{Kind, Message, extra, extra_message, user}
use Rattle.protocol.proofs.Extras.{delivery-most, delivery-none, one_user, send-none, send-one}
use Rattle.protocol.proofs.Good.{Good, SoundIssue}
use Rattle.protocol.proofs.Grown.{node_at, node-eq}
use Rattle.protocol.proofs.Lists.{Snoc, at_bound, at_none, at_snoc, each_snoc, length-snoc}
use Rattle.protocol.proofs.Offering.{offer_checks_lem}
use Rattle.protocol.proofs.Runs.{step-cases, step-good}
use Rattle.protocol.proofs.Searching.{search-found}
use Rattle.protocol.proofs.Sending.{send_checks_lem}
use Rattle.protocol.proofs.Taking.{deliver_checks_lem}
use Rattle.protocol.specs.Answer.{Answer, Outcome, delivered, issued, nothing, refuse, refused, sent, taken}
use Rattle.protocol.specs.Deliver.{Search, absent, conclude, deliver, found, learn, search}
use Rattle.protocol.specs.Node.{Node}
use Rattle.protocol.specs.Offer.{deliverable, offer}
use Rattle.protocol.specs.Send.{send, sending, sent_matrix, sent_message}
use Rattle.protocol.specs.Trim.{Trimmed, issuing, trim_for, untouched}
use Rattle.protocol.specs.World.{Event, Issue, Step, World, after_step, delivers, issued_by, offers, run, sends, start, step}
use Rattle.wire.proofs.Tests.{cond_elim, cond-other, cond_same}

-- ---- what an answer counts

-- the extra messages issued
abbrev pub extras : Answer → ℕ
extras (refused r) = 0
extras (sent l) = length l - 1
extras (taken k b) = 0
extras (nothing k) = 0
extras (delivered a k b l) = length l

-- the user messages issued
abbrev pub users : Answer → ℕ
users (refused r) = 0
users (sent l) = 1
users (taken k b) = 0
users (nothing k) = 0
users (delivered a k b l) = 0

-- the user messages delivered
abbrev pub received : Answer → ℕ
received (refused r) = 0
received (sent l) = 0
received (taken k b) = 0
received (nothing k) = 0
received (delivered a k b l) = one_user a.kind

-- the sum of a number of each message
abbrev pub sum_of : (Message → ℕ) → List Message → ℕ
sum_of p [] = 0
sum_of p (m ∷ l) = p m + sum_of p l

-- of each that the step t issued
abbrev pub sum_by : (Message → ℕ) → ℕ → List Issue → ℕ
sum_by p t [] = 0
sum_by p t (g ∷ l) = cond (eqb g.step t) (p g.message) 0 + sum_by p t l

-- the messages of a log
abbrev pub messages_of : List Issue → List Message
messages_of l = map (λ (g : Issue). g.message) l

-- the sum, over a history, of a number of each answer
abbrev pub sum_over : (Answer → ℕ) → List Event → ℕ
sum_over f [] = 0
sum_over f (e ∷ l) = f e.answer + sum_over f l

-- a number that each user message and each extra message has
pub record ByKind (p : Message → ℕ) (u x : ℕ) : Type 0 where
  pub user : (m : Message) → m.kind ≡ user → p m ≡ u
  pub extra : (m : Message) → m.kind ≡ extra → p m ≡ x

-- the answer of a step of a node with this cap
-- most: a send issues at most one extra message, a delivery of a user message n - 1, and another step none; none: at a large cap no step does
-- kinds: it issued so many user and extra messages
pub record Within (n cap : ℕ) (a : Answer) : Type 0 where
  pub most : extras a ≤ users a + (n - 1) * received a
  pub none : (n - 1) * (n - 1) ≤ cap → extras a ≡ 0
  pub kinds : (p : Message → ℕ) (u x : ℕ) → ByKind p u x → sum_of p (issued a) ≡ u * users a + x * extras a

-- ---- each step

-- an answer that issues nothing
silent : (n cap : ℕ) (a : Answer) → extras a ≡ 0 → users a ≡ 0 → issued a ≡ [] → Within n cap a
silent n cap a e u i = record {
  most = omega arith;
  none = λ _. e;
  kinds = λ p v x _. ap (sum_of p) i ∙ rw (e, u) (omega arith);
}

-- what a trim issues is extra
trim-sum : (p : Message → ℕ) (u x : ℕ) → ByKind p u x → (k me n cap : ℕ) (m : Matrix)
    → sum_of p (trim_for k me n cap m).extras ≡ x * length (trim_for k me n cap m).extras
unfolding trim_for
trim-sum p u x b zero me n cap m = omega arith
trim-sum p u x b (suc k) me n cap m =
    cond_elim (λ (t : Trimmed). sum_of p t.extras ≡ x * length t.extras) (leb (count m) cap) (untouched m)
    (issuing (extra_message me (fullest m) n cap m) rest) (λ _. omega arith)
    (λ _. omega (
      arith,
      b.extra (extra_message me (fullest m) n cap m) refl,
      trim-sum p u x b k me n cap (clear me (fullest m) m),
      mul-suc x (length rest.extras),
    ))
  where
    rest : Trimmed
    rest = trim_for k me n cap (clear me (fullest m) m)

learn-sum : (p : Message → ℕ) (u x : ℕ) → ByKind p u x → (k : Kind) (d : Node) (e : Matrix) → sum_of p (learn k d e).extras ≡ x * length (learn k d e).extras
learn-sum p u x b user d e = trim-sum p u x b 12 d.me d.n d.cap (merge d.me d.matrix e)
learn-sum p u x b extra d e = omega arith

module _ (n : ℕ) (caps : ℕ → ℕ) (w : World) (g : Good n caps w) (i : ℕ) (hi : i < n) where
  abbrev Kept : Outcome → Type 0
  Kept r = Within n (caps i) r.answer

  -- the node
  abbrev d : Node
  d = node_at n caps w i

  refused-within : (k : ℕ) → Kept (refuse k d)
  refused-within k = silent n (caps i) (refused k) refl refl refl

  sending-within : (to : ℕ) (body : List ℕ) → to < n → to ≢ i → Kept (sending d to body)
  sending-within to body below other = record {
    most = omega (arith, send-one d hi (g.range i hi).at_most12 (g.range i hi).cap_from (g.node i hi).rules to below other (g.node i hi).few);
    none = λ large. omega (arith, send-none d hi (g.range i hi).at_most12 (g.range i hi).cap_from (g.node i hi).rules to below other large);
    kinds = λ p u x b. let l : List Message = (sent_matrix d to).extras in
        let t : sum_of p l ≡ x * length l = trim-sum p u x b 12 i n (caps i) (clear i to (w.nodes i).matrix) in
        let e : extras (sending d to body).answer ≡ length l = omega arith in
        omega (arith, b.user (sent_message d to body) refl, t, ap (λ (k : ℕ). x * k) e);
  }

  send-within : (to : ℕ) (body : List ℕ) → Kept (send d to body)
  send-within to body =
      send_checks_lem d to body Kept (refused-within 5) (refused-within 6) (refused-within 7) (λ below other _. sending-within to body below other)

  offer-within : (m : Message) → Kept (offer d m)
  offer-within m =
      offer_checks_lem d m Kept (λ _. refused-within 12) (λ _. refused-within 13) (λ _. refused-within 14) (λ _. refused-within 15)
      (λ _. refused-within 16) (λ _ _ _ _. silent n (caps i) _ refl refl refl)

  concluded : (f : Search) → search (deliverable d) (w.nodes i).held ≡ f → Kept (conclude d f)
  concluded absent e = silent n (caps i) (nothing (length (w.nodes i).held)) refl refl refl
  concluded (found k m others) e =
      let a = search-found (deliverable d) (w.nodes i).held k m others e in
      let o = (g.node i hi).queue.from a.0 m a.2.at in
      let s = subst (λ (z : Message). SoundIssue n caps z) o.message (g.sound o.issue o.g o.logged) in
      record {
        most = omega (arith, delivery-most d hi (g.range i hi).at_most12 (g.range i hi).cap_from (g.node i hi).rules m.entries m.from s.rules m.kind);
        none = delivery-none d hi (g.range i hi).at_most12 (g.range i hi).cap_from (g.node i hi).rules m.entries m.from s.rules m.kind;
        kinds = λ p u x b. omega (arith, learn-sum p u x b m.kind d m.entries);
      }

  deliver-within : Kept (deliver d)
  deliver-within = deliver_checks_lem d Kept (refused-within 5) concluded

-- ---- the log

sum_by_append : (p : Message → ℕ) (t : ℕ) (l k : List Issue) → sum_by p t (l ++ k) ≡ sum_by p t l + sum_by p t k
sum_by_append p t [] k = omega arith
sum_by_append p t (g ∷ l) k = omega (arith, sum_by_append p t l k)

-- what one step issued, and what another did
sum_by-same : (p : Message → ℕ) (t : ℕ) (l : List Message) → sum_by p t (map (issued_by t) l) ≡ sum_of p l
sum_by-same p t [] = refl
sum_by-same p t (m ∷ l) = omega (arith, cond_same t (p m) 0, sum_by-same p t l)

sum_by-other : (p : Message → ℕ) (t u : ℕ) (l : List Message) → u ≢ t → sum_by p t (map (issued_by u) l) ≡ 0
sum_by-other p t u [] ne = refl
sum_by-other p t u (m ∷ l) ne = omega (arith, cond-other u t (p m) 0 ne, sum_by-other p t u l ne)

-- ---- the whole log

sum_of_append : (p : Message → ℕ) (l k : List Message) → sum_of p (l ++ k) ≡ sum_of p l + sum_of p k
sum_of_append p [] k = omega arith
sum_of_append p (m ∷ l) k = omega (arith, sum_of_append p l k)

messages_grown : (l : List Issue) (t : ℕ) (k : List Message) → messages_of (l ++ map (issued_by t) k) ≡ messages_of l ++ k
messages_grown l t k =
    map-append (λ (g : Issue). g.message) l (map (issued_by t) k)
    ∙ ap (λ (x : List Message). messages_of l ++ x) (map-map (λ (g : Issue). g.message) (issued_by t) k ∙ map-id k)

sum_over-snoc : (f : Answer → ℕ) (l : List Event) (e : Event) → sum_over f (l ++ (e ∷ [])) ≡ sum_over f l + f e.answer
sum_over-snoc f [] e = omega arith
sum_over-snoc f (x ∷ l) e = omega (arith, sum_over-snoc f l e)

-- a world's log has for each step what its answer says, and nothing of a later step; all of it is what the answers say; each answer is within the bounds
pub record Reported (n : ℕ) (caps : ℕ → ℕ) (w : World) : Type 0 where
  pub each : (t : ℕ) (e : Event) → get_elem? w.history t ≡ some e → Within n (caps e.node) e.answer
  pub logged : (p : Message → ℕ) (t : ℕ) (e : Event) → get_elem? w.history t ≡ some e → sum_by p t w.log ≡ sum_of p (issued e.answer)
  pub later : (p : Message → ℕ) (t : ℕ) → length w.history ≤ t → sum_by p t w.log ≡ 0
  pub whole : (p : Message → ℕ) → sum_of p (messages_of w.log) ≡ sum_over (λ a. sum_of p (issued a)) w.history

-- one step more
module _ (n : ℕ) (caps : ℕ → ℕ) (w : World) (before : Reported n caps w) (i : ℕ) (s : Step) (r : Outcome) (within : Within n (caps i) r.answer) where
  abbrev last : Event
  last = record { node = i; step = s; answer = r.answer }

  -- what is new in the log
  abbrev new : List Issue
  new = map (issued_by (length w.history)) (issued r.answer)

  after-reported : Reported n caps (after_step w i s r)
  after-reported = record {
    each = each_snoc (λ (e : Event). Within n (caps e.node) e.answer) w.history last before.each within;
    logged = λ p t e at. logged p t e (at_snoc w.history last t e at);
    later = λ p t h. omega (
      arith,
      sum_by_append p t w.log new,
      before.later p t (omega (arith, length-snoc w.history last)),
      sum_by-other p t (length w.history) (issued r.answer) (λ q. omega (arith, length-snoc w.history last)),
    );
    whole = λ p. omega (
      arith,
      ap (sum_of p) (messages_grown w.log (length w.history) (issued r.answer)),
      sum_of_append p (messages_of w.log) (issued r.answer),
      before.whole p,
      sum_over-snoc (λ a. sum_of p (issued a)) w.history last,
    );
  }
    where
      logged : (p : Message → ℕ) (t : ℕ) (e : Event) → Snoc w.history last t e → sum_by p t (w.log ++ new) ≡ sum_of p (issued e.answer)
      logged p t e (inl h) =
          omega (
            arith,
            sum_by_append p t w.log new,
            before.logged p t e h,
            sum_by-other p t (length w.history) (issued r.answer) (λ q. omega (arith, at_bound w.history t e h)),
          )
      logged p t e (inr h) =
          rw (h.0, h.1) (omega (
            arith,
            sum_by_append p (length w.history) w.log new,
            before.later p (length w.history) (omega arith),
            sum_by-same p (length w.history) (issued r.answer),
          ))

-- ---- a list of steps

step-reported : (n : ℕ) (caps : ℕ → ℕ) (w : World) → Good n caps w → Reported n caps w → (s : Step) → Reported n caps (step n w s)
step-reported n caps w g before =
    step-cases n w (Reported n caps) before
    (λ i to body hi. after i hi (sends i to body) (λ z. send z to body) (send-within n caps w g i hi to body))
    (λ i p l hi _. after i hi (offers i p) (λ z. offer z l.message) (offer-within n caps w g i hi l.message))
    (λ i hi. after i hi (delivers i) deliver (deliver-within n caps w g i hi))
  where
    after : (i : ℕ) → i < n → (s : Step) (f : Node → Outcome) → Within n (caps i) (f (node_at n caps w i)).answer
        → Reported n caps (after_step w i s (f (w.nodes i)))
    after i hi s f h =
        after-reported n caps w before i s (f (w.nodes i)) (subst (λ (z : Node). Within n (caps i) (f z).answer) (sym (node-eq n caps w g i hi)) h)

pub run-reported : (n : ℕ) (caps : ℕ → ℕ) (w : World) (l : List Step) → Good n caps w → Reported n caps w → Reported n caps (run n w l)
run-reported n caps w [] g before = before
run-reported n caps w (s ∷ l) g before = run-reported n caps (step n w s) l (step-good n caps w s g) (step-reported n caps w g before s)

-- from fresh nodes
pub start-reported : (n : ℕ) (caps : ℕ → ℕ) → Reported n caps (start n caps)
start-reported n caps = record { each = λ t e at. absurd (at_none t e at); logged = λ p t e at. absurd (at_none t e at); later = λ p t h. refl; whole = λ p. refl }
