-- Every user message of a log was issued by an accepted send, from its from to its to, of its body. Assumes nothing.
use Prim.Native.Nat.{ℕ, zero, suc}
use mathlib.Core.Bool.{true}
use mathlib.Core.List.{List, [], ◌∷◌, ◌++◌, map}
use mathlib.Core.Logic.{◌⊎◌, inl, inr}
use mathlib.Core.Option.{some}
use mathlib.Core.Path.{◌≡◌, ◌∙◌, ap, refl, subst, sym}
use lib.ListN.{get_elem?, length}
use Rattle.matrix.specs.Matrix.{clear, merge, Matrix}
use Rattle.matrix.specs.Message.{Kind, Message, extra, user}
use Rattle.protocol.proofs.Good.{Good}
use Rattle.protocol.proofs.Lists.{at_append, at_last, at_left, at_none, map_at}
use Rattle.protocol.proofs.Offering.{offer_checks_lem}
use Rattle.protocol.proofs.Rounds.{extra-user}
use Rattle.protocol.proofs.Runs.{step-cases, step-good}
use Rattle.protocol.proofs.Sending.{send_checks_lem}
use Rattle.protocol.proofs.Taking.{deliver_checks_lem}
use Rattle.protocol.proofs.Trim.{trim-kind}
use Rattle.protocol.specs.Answer.{Outcome, accepted, issued, refuse}
use Rattle.protocol.specs.Deliver.{Search, absent, conclude, deliver, found, learn}
use Rattle.protocol.specs.Node.{Node}
use Rattle.protocol.specs.Offer.{offer}
use Rattle.protocol.specs.Send.{send, sending, sent_message}
use Rattle.protocol.specs.World.{Event, Issue, IssueAt, Step, World, after_step, delivers, issued_by, offers, run, sends, start, step}

-- step t of a history is the accepted send of the message m
pub record SentAt (history : List Event) (t : ℕ) (m : Message) : Type 0 where
  pub event : Event
  pub at : get_elem? history t ≡ some event
  pub sent : event.step ≡ sends m.from m.to m.body
  pub accepted : accepted event.answer ≡ true

-- each user message of the log was sent by the step that issued it
abbrev pub Senders : World → Type 0
Senders w = (p : ℕ) (g : Issue) → IssueAt w p g → g.message.kind ≡ user → SentAt w.history g.step g.message

-- the user messages of an outcome of the step s are what s sends
abbrev Sends : Step → Outcome → Type 0
Sends s r = (k : ℕ) (m : Message) → get_elem? (issued r.answer) k ≡ some m → m.kind ≡ user → (s ≡ sends m.from m.to m.body) × (accepted r.answer ≡ true)

-- one step more
module _ (w : World) (before : Senders w) (i : ℕ) (s : Step) (r : Outcome) (sent : Sends s r) where
  abbrev last : Event
  last = record { node = i; step = s; answer = r.answer }

  after-senders : Senders (after_step w i s r)
  after-senders p g at u = go (at_append w.log (map (issued_by (length w.history)) (issued r.answer)) p g at)
    where
      go : IssueAt w p g ⊎ ((k : ℕ) × (get_elem? (map (issued_by (length w.history)) (issued r.answer)) k ≡ some g))
          → SentAt (w.history ++ (last ∷ [])) g.step g.message
      go (inl h) =
          let x = before p g h u in
          record { event = x.event; at = at_left w.history (last ∷ []) g.step x.event x.at; sent = x.sent; accepted = x.accepted }
      go (inr h) =
          let x = map_at (issued_by (length w.history)) (issued r.answer) h.0 g h.1 in
          let y = sent h.0 x.0 x.1 (ap (λ (z : Issue). z.message.kind) x.2 ∙ u) in
          subst (λ (z : Issue). SentAt (w.history ++ (last ∷ [])) z.step z.message) x.2
          (record { event = last; at = at_last w.history last; sent = y.0; accepted = y.1 })

-- a refusal issues nothing
refused-sends : (s : Step) (k : ℕ) (d : Node) → Sends s (refuse k d)
refused-sends s k d p m e = absurd (at_none p m e)

-- a send of a node that is i: its own message alone is a user's
module _ (i : ℕ) (d : Node) (me : d.me ≡ i) (to : ℕ) (body : List ℕ) where
  sending-sends : Sends (sends i to body) (sending d to body)
  sending-sends zero m e u =
      let z : sent_message d to body ≡ m = cc in (subst (λ (x : Message). sends i to body ≡ sends x.from x.to x.body) z (rw me refl), refl)
  sending-sends (suc k) m e u =
      absurd (extra-user (sym (trim-kind 12 d.me d.n d.cap (clear d.me to d.matrix) k m e) ∙ u))

  send-sends : Sends (sends i to body) (send d to body)
  send-sends = send_checks_lem d to body (Sends s) (refused-sends s 5 d) (refused-sends s 6 d) (refused-sends s 7 d) (λ _ _ _. sending-sends)
    where
      s : Step
      s = sends i to body

-- an offer issues nothing
offer-sends : (s : Step) (d : Node) (m : Message) → Sends s (offer d m)
offer-sends s d m =
    offer_checks_lem d m (Sends s) (λ _. refused-sends s 12 d) (λ _. refused-sends s 13 d) (λ _. refused-sends s 14 d) (λ _. refused-sends s 15 d)
    (λ _. refused-sends s 16 d) (λ _ _ _ _ p f e. absurd (at_none p f e))

-- a deliver issues extra messages alone
learn-kind : (k : Kind) (d : Node) (e : Matrix) (p : ℕ) (f : Message) → get_elem? (learn k d e).extras p ≡ some f → f.kind ≡ extra
learn-kind user d e p f a = trim-kind 12 d.me d.n d.cap (merge d.me d.matrix e) p f a
learn-kind extra d e p f a = absurd (at_none p f a)

deliver-sends : (s : Step) (d : Node) → Sends s (deliver d)
deliver-sends s d = deliver_checks_lem d (Sends s) (refused-sends s 5 d) (λ f _. concluded f)
  where
    concluded : (f : Search) → Sends s (conclude d f)
    concluded absent p m e u = absurd (at_none p m e)
    concluded (found k g others) p m e u = absurd (extra-user (sym (learn-kind g.kind d g.entries p m e) ∙ u))

step-senders : (n : ℕ) (caps : ℕ → ℕ) (w : World) → Good n caps w → Senders w → (s : Step) → Senders (step n w s)
step-senders n caps w g before =
    step-cases n w Senders before
    (λ i to body hi. after-senders w before i (sends i to body) (send (w.nodes i) to body) (send-sends i (w.nodes i) (g.node i hi).me to body))
    (λ i p l _ _. after-senders w before i (offers i p) (offer (w.nodes i) l.message) (offer-sends (offers i p) (w.nodes i) l.message))
    (λ i _. after-senders w before i (delivers i) (deliver (w.nodes i)) (deliver-sends (delivers i) (w.nodes i)))

-- a list of steps
pub run-senders : (n : ℕ) (caps : ℕ → ℕ) (w : World) (l : List Step) → Good n caps w → Senders w → Senders (run n w l)
run-senders n caps w [] g before = before
run-senders n caps w (s ∷ l) g before = run-senders n caps (step n w s) l (step-good n caps w s g) (step-senders n caps w g before s)

-- from fresh nodes
pub start-senders : (n : ℕ) (caps : ℕ → ℕ) → Senders (start n caps)
start-senders n caps p g at = absurd (at_none p g at)
