-- A world of messages and a world of bytes match: records and queues are those of the nodes,
-- the log is of the messages' frames, and the histories say the same. Assumes nothing.
use Prim.Native.Nat.{◌+◌, ◌<◌, suc, zero, ℕ}
use mathlib.Core.Bool.{cond, false, true}
use mathlib.Core.List.{List, [], ◌++◌, ◌∷◌, map, map-append, map-map}
use mathlib.Core.Logic.{◌⊎◌, inl, inr}
use mathlib.Core.Option.{Option, none, some}
use mathlib.Core.Path.{◌∙◌, ◌≡◌, ap, ap₂, refl, subst, sym}
use native.Mathlib.Decide.{ℕ_discrete}
use lib.Dec.{eqb}
use lib.ListN.{get_elem?, length}
use Rattle.causality.proofs.Queues.{Bodies}
use Rattle.causality.specs.Demand3.{Answer, Event, Issue, Label, Step, World, accepted, after_call, answers_at}
use Rattle.causality.specs.Demand3.{deliveries, delivery, issued_by, issued_frames, offers, offers_accepted, sends}
use Rattle.causality.specs.Ceiling.{extras, users_issued}
use Rattle.causality.specs.ListRefusals.{Expected}
use Rattle.frame.specs.Frame.{encode}
use Rattle.frame.specs.Header.{kind_byte}
use Rattle.holdback.specs.Slots.{laid}
use Rattle.matrix.specs.Message.{Message}
use Rattle.causality.proofs.Records.{record_of}
use Rattle.protocol.proofs.Below.{update_other, update_same}
use Rattle.protocol.proofs.Lists.{at_append, at_none, map_at}
use Rattle.protocol.specs.Node.{update, Node as MessageNode}
use Rattle.rights.specs.Ours.{ours}
use Rattle.rights.specs.Rights.{lacks_right}
use Rattle.wire.specs.Bytes.{AllBytes}
use Rattle.protocol.specs.World as messages
use Rattle.protocol.specs.Answer as protocol
use Rattle.protocol.specs.Demand3 as stated
use Rattle.protocol.proofs.Ceiling as counted
use Rattle.node.specs.declared.Node.{Node as Record}

-- an issued message as an issued frame
abbrev pub encode_issue : messages.Issue → Issue
encode_issue g = record { step = g.step; frame = encode g.message }

-- what a delivery's answer names, in bytes
abbrev pub label_of : protocol.Label → Label
label_of a = record { kind = kind_byte a.kind; from = a.from; number = a.number }

abbrev pub named : Option protocol.Label → Option Label
named none = none
named (some a) = some (label_of a)

-- answers that say the same; expected: where it is a refusal, it is one that a list can meet
pub record SameAnswer (a : protocol.Answer) (b : Answer) : Type 0 where
  pub acceptance : accepted b ≡ protocol.accepted a
  pub names : delivery b ≡ named (protocol.delivery a)
  pub taken : offers_accepted b ≡ stated.offers_accepted a
  pub given : deliveries b ≡ stated.deliveries a
  pub extras : extras b ≡ counted.extras a
  pub users : users_issued b ≡ counted.users a
  pub expected : Expected b

-- steps that offer the same issue at the same node, or none
pub record SameStep (s : messages.Step) (t : Step) : Type 0 where
  pub there : (j p : ℕ) → s ≡ messages.offers j p → t ≡ offers j p
  pub back : (j p : ℕ) → t ≡ offers j p → s ≡ messages.offers j p

-- a send from i to `to` of this body, by a class that has the right to it
pub record SentBy (i to : ℕ) (body : List ℕ) (t : Step) : Type 0 where
  pub class : ℕ
  pub out : List ℕ
  pub same : t ≡ sends i to class body out
  pub allowed : lacks_right ours class body ≡ false

-- where the step s, answered with a, is an accepted send of a message, the step t is the send of its body
abbrev pub SameSend : messages.Step → protocol.Answer → Step → Type 0
SameSend s a t = (i to : ℕ) (body : List ℕ) → s ≡ messages.sends i to body → protocol.accepted a ≡ true → SentBy i to body t

-- events that say the same
pub record SameEvent (e : messages.Event) (f : Event) : Type 0 where
  pub node : f.node ≡ e.node
  pub step : SameStep e.step f.step
  pub answer : SameAnswer e.answer f.answer
  pub sent : SameSend e.step e.answer f.step

-- histories that say the same, event by event
pub data SameHistory : List messages.Event → List Event → Type 0 where
  empty : SameHistory [] []
  next : (e : messages.Event) (f : Event) (l : List messages.Event) (k : List Event) → SameEvent e f → SameHistory l k → SameHistory (e ∷ l) (f ∷ k)

pub same_length : (l : List messages.Event) (k : List Event) → SameHistory l k → length k ≡ length l
same_length _ _ empty = refl
same_length _ _ (next e f l k s r) = ap suc (same_length l k r)

same-snoc : (l : List messages.Event) (k : List Event) (e : messages.Event) (f : Event) → SameHistory l k → SameEvent e f
    → SameHistory (l ++ (e ∷ [])) (k ++ (f ∷ []))
same-snoc _ _ e f empty s = next e f [] [] s empty
same-snoc _ _ e f (next e' f' l k s' r) s = next e' f' (l ++ (e ∷ [])) (k ++ (f ∷ [])) s' (same-snoc l k e f r s)

-- the event at a place, there and back
pub same-there : (l : List messages.Event) (k : List Event) → SameHistory l k → (t : ℕ) (e : messages.Event) → get_elem? l t ≡ some e
    → (f : Event) × (get_elem? k t ≡ some f) × SameEvent e f
same-there _ _ empty t e a = absurd (at_none t e a)
same-there _ _ (next e' f l k s r) zero e a = let z : e' ≡ e = cc in (f, refl, subst (λ (x : messages.Event). SameEvent x f) z s)
same-there _ _ (next e' f l k s r) (suc t) e a = same-there l k r t e a

pub same_back : (l : List messages.Event) (k : List Event) → SameHistory l k → (t : ℕ) (f : Event) → get_elem? k t ≡ some f
    → (e : messages.Event) × (get_elem? l t ≡ some e) × SameEvent e f
same_back _ _ empty t f a = absurd (at_none t f a)
same_back _ _ (next e f' l k s r) zero f a = let z : f' ≡ f = cc in (e, refl, subst (λ (x : Event). SameEvent e x) z s)
same_back _ _ (next e f' l k s r) (suc t) f a = same_back l k r t f a

-- how often a node has answered so
pub same-answers : (p : protocol.Answer → ℕ) (q : Answer → ℕ) → ((a : protocol.Answer) (b : Answer) → SameAnswer a b → q b ≡ p a)
    → (j : ℕ) (l : List messages.Event) (k : List Event) → SameHistory l k
    → answers_at q j k ≡ stated.answers_at p j l
same-answers p q h j _ _ empty = refl
same-answers p q h j _ _ (next e f l k s r) =
    ap₂ ◌+◌ (ap₂ (λ (i v : ℕ). cond (eqb i j) v 0) s.node (h e.answer f.answer s.answer)) (same-answers p q h j l k r)

-- the worlds
pub record Matches (n : ℕ) (w : messages.World) (b : World) : Type 0 where
  pub records : (k : ℕ) → k < n → b.records k ≡ record_of (w.nodes k)
  pub queues : (k : ℕ) → k < n → b.queues k ≡ laid (map encode (w.nodes k).held)
  pub log : b.log ≡ map encode_issue w.log
  pub history : SameHistory w.history b.history
  pub bodies : Bodies w

-- what a call leaves is what a step on messages leaves
pub record Agrees (o : protocol.Outcome) (r : Record) (q : List ℕ) (a : Answer) (out : List ℕ) : Type 0 where
  pub node : r ≡ record_of o.node
  pub queue : q ≡ laid (map encode o.node.held)
  pub answer : SameAnswer o.answer a
  pub frames : issued_frames a out ≡ map encode (protocol.issued o.answer)
  pub bodies : (p : ℕ) (m : Message) → get_elem? (protocol.issued o.answer) p ≡ some m → AllBytes m.body

-- a call that agrees keeps the match
module _ (n : ℕ) (w : messages.World) (b : World) (m : Matches n w b) (i : ℕ) (s : messages.Step) (t : Step) (same : SameStep s t)
    (o : protocol.Outcome) (sent : SameSend s o.answer t) (r : Record) (q : List ℕ) (a : Answer) (out : List ℕ) (g : Agrees o r q a out) where
  -- the node of one function and of the other, where one value is put
  update-both : {A B : Type 0} (f : A → B) (u : ℕ → A) (v : ℕ → B) (x : A) (y : B) → y ≡ f x → (k : ℕ) → v k ≡ f (u k) → update v i y k ≡ f (update u i x k)
  update-both f u v x y e k h = go (ℕ_discrete k i)
    where
      go : Dec (k ≡ i) → update v i y k ≡ f (update u i x k)
      go (yes z) = rw z (update_same v i y ∙ e ∙ ap f (sym (update_same u i x)))
      go (no z) = update_other v i y k z ∙ h ∙ ap f (sym (update_other u i x k z))

  same_log : b.log ++ map (issued_by (length b.history)) (issued_frames a out)
      ≡ map encode_issue (w.log ++ map (messages.issued_by (length w.history)) (protocol.issued o.answer))
  same_log =
      ap₂ (λ (x : List Issue) (y : List (List ℕ)). x ++ map (issued_by (length b.history)) y) m.log g.frames
      ∙ ap (λ (x : ℕ). map encode_issue w.log ++ map (issued_by x) (map encode l)) (same_length w.history b.history m.history)
      ∙ ap (λ (x : List Issue). map encode_issue w.log ++ x) (map-map (issued_by u) encode l ∙ sym (map-map encode_issue (messages.issued_by u) l))
      ∙ sym (map-append encode_issue w.log (map (messages.issued_by u) l))
    where
      l : List Message
      l = protocol.issued o.answer

      u : ℕ
      u = length w.history

  pub matches_after : Matches n (messages.after_step w i s o) (after_call b i t r q a out)
  matches_after = record {
    records = λ k h. update-both record_of w.nodes b.records o.node r g.node k (m.records k h);
    queues = λ k h. update-both (λ (d : MessageNode). laid (map encode d.held)) w.nodes b.queues o.node q g.queue k (m.queues k h);
    log = same_log;
    history = same-snoc w.history b.history (record { node = i; step = s; answer = o.answer }) (record { node = i; step = t; answer = a }) m.history
        (record { node = refl; step = same; answer = g.answer; sent = sent });
    bodies = λ p f at. body p f (at_append w.log (map (messages.issued_by (length w.history)) (protocol.issued o.answer)) p f at);
  }
    where
      body : (p : ℕ) (f : messages.Issue) → messages.IssueAt w p f
          ⊎ ((k : ℕ) × (get_elem? (map (messages.issued_by (length w.history)) (protocol.issued o.answer)) k ≡ some f)) → AllBytes f.message.body
      body p f (inl h) = m.bodies p f h
      body p f (inr h) =
          let x = map_at (messages.issued_by (length w.history)) (protocol.issued o.answer) h.0 f h.1 in
          subst (λ (z : messages.Issue). AllBytes z.message.body) x.2 (g.bodies h.0 x.0 x.1)
