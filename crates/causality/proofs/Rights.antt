-- Who may say what: what two matched worlds say of the send of each frame. Assumes nothing.
use Prim.Native.Nat.{ℕ, ◌<◌}
use mathlib.Core.Bool.{Bool, cond, false}
use mathlib.Core.List.{List, []}
use mathlib.Core.Logic.{◌⊎◌}
use mathlib.Core.Option.{some}
use mathlib.Core.Path.{◌∙◌, ◌≡◌, ap, refl, subst, sym}
use lib.ListN.{length}
use Rattle.causality.proofs.Matches.{Matches, encode_issue, same-there}
use Rattle.causality.proofs.Queues.{sound-issue}
use Rattle.causality.proofs.Reading.{either_kind, extra-kind, from-encode, issue-back, to-encode, user-kind}
use Rattle.causality.proofs.Records.{node-back, record_kept, record_of}
use Rattle.causality.proofs.Sends.{free}
use Rattle.causality.specs.Demand3.{Event, Issue, IssueAt, User, World}
use Rattle.causality.specs.Rights.{Extra, RightsFor, Sendable, SentBy, body_carried, group_carried}
use Rattle.frame.proofs.Written.{decode-encode}
use Rattle.matrix.specs.Message.{Message}
use Rattle.node.proofs.Sending.{send-last, send-number, to-other}
use Rattle.node.specs.Answers.{send_number}
use Rattle.node.specs.Calls.{send_call}
use Rattle.node.specs.Record.{broken_record, node_of}
use Rattle.node.specs.declared.Node.{Node as Record}
use Rattle.protocol.proofs.Good.{Good}
use Rattle.protocol.proofs.Grown.{node-eq, node_at}
use Rattle.protocol.proofs.Senders.{Senders}
use Rattle.protocol.specs.Node.{Node as MessageNode, at_limit}
use Rattle.protocol.specs.Send.{bad_destination}
use Rattle.protocol.specs.World as messages
use Rattle.rights.proofs.OursMeans.{ours_means}
use Rattle.rights.specs.Ours.{MaySend, ours}
use Rattle.rights.specs.Rights.{lacks_right}
use Rattle.rights.specs.Topics.{group_of}
use Rattle.wire.proofs.Tests.{cond_elim, is_false}

module _ (n : ℕ) (caps : ℕ → ℕ) (w : messages.World) (b : World) (g : Good n caps w) (few : length w.history < 1000000000)
    (m : Matches n w b) (senders : Senders w) where
  -- a message of the log and its frame
  body-encode : (p : ℕ) (f : messages.Issue) → messages.IssueAt w p f → body_carried (encode_issue f).frame ≡ f.message.body
  body-encode p f at = ap (λ (x : Message). x.body) (decode-encode f.message (sound-issue n caps w g few m.bodies p f at))

  -- the send of a user frame, by a class that has the right to its body
  pub record Sender (h : Issue) : Type 0 where
    pub class : ℕ
    pub sent : SentBy b h class
    pub allowed : lacks_right ours class (body_carried h.frame) ≡ false

  sender_of : (p : ℕ) (f : messages.Issue) → messages.IssueAt w p f → User (encode_issue f).frame → Sender (encode_issue f)
  sender_of p f at u =
      let s = senders p f at (user-kind f.message u) in
      let x = same-there w.history b.history m.history f.step s.event s.at in
      let y = x.2.sent f.message.from f.message.to f.message.body s.sent s.accepted in
      let body : f.message.body ≡ body_carried (encode_issue f).frame = sym (body-encode p f at) in
      record {
        class = y.class;
        sent = record {
          out = y.out;
          event = x.0;
          at = x.1;
          step = y.same ∙ rw (from-encode f.message, to-encode f.message, ← body) refl;
          accepted = x.2.answer.acceptance ∙ s.accepted;
        };
        allowed = subst (λ (v : List ℕ). lacks_right ours y.class v ≡ false) body y.allowed;
      }

  sender : (p : ℕ) (h : Issue) → IssueAt b p h → User h.frame → Sender h
  sender p h at u =
      let x = issue-back n w b m (sound-issue n caps w g few m.bodies) p h at in
      subst Sender x.2 (sender_of p x.0 x.1 (subst (λ (z : Issue). User z.frame) (sym x.2) u))

  -- the step that issued a frame has one class
  one_class : (h : Issue) (c k : ℕ) → SentBy b h c → SentBy b h k → c ≡ k
  one_class h c k x y =
      let e : x.event ≡ y.event = let z : some x.event ≡ some y.event = sym x.at ∙ y.at in cc in
      let z = sym x.step ∙ ap (λ (v : Event). v.step) e ∙ y.step in
      cc

  right : (p class : ℕ) (h : Issue) → IssueAt b p h → User h.frame → SentBy b h class → MaySend class (group_carried h.frame)
  right p class h at u s =
      let x = sender p h at u in
      subst (λ (c : ℕ). MaySend c (group_carried h.frame)) (one_class h x.class class x.sent s) (ours_means.only x.class (body_carried h.frame) x.allowed)

  -- the number of a send that meets none of 2 to 7
  number : (i to class : ℕ) (body out : List ℕ) → Sendable n i to body out
      → send_number (send_call (b.records i) to class body out).result.answer ≡ cond (lacks_right ours class body) 21 0
  number i to class body out s =
      let r : Record = record_of (node_at n caps w i) in
      let back : node_of r [] ≡ record { me = i; n = n; cap = caps i; matrix = (w.nodes i).matrix; deliv = (w.nodes i).deliv; held = [] }
      = node-back n caps w g few i s.node [] in
      ap (λ (x : Record). send_number (send_call x to class body out).result.answer) (m.records i s.node ∙ ap record_of (node-eq n caps w g i s.node))
      ∙ send-number r to class body out
      ∙ send-last r to class body (length out) (is_false (broken_record r) (record_kept n caps w g few i s.node)) s.long
      (ap at_limit back ∙ is_false (at_limit _) (free n caps w g few m.bodies i s.node []))
      (ap (λ (d : MessageNode). bad_destination d to) back ∙ to-other i n to s.other s.below) s.short

  pub rights_for : RightsFor n b
  rights_for =
      record {
        kinds = kinds;
        sent = λ p h at u. let x = sender p h at u in (x.class, x.sent);
        right = right;
        motion = λ p class h at u s e. subst (MaySend class) e (right p class h at u s);
        accepts = λ i to class body out s may. number i to class body out s ∙ ap (λ (t : Bool). cond {A = ℕ} t 21 0) (ours_means.each class body may);
        refuses = λ i to class body out s bar. number i to class body out s ∙ lacking class body bar;
        bare = bare;
      }
    where
      lacking : (class : ℕ) (body : List ℕ) → ¬ MaySend class (group_of body) → ◌≡◌ {A = ℕ} (cond (lacks_right ours class body) 21 0) 21
      lacking class body bar =
          cond_elim (λ (k : ℕ). ◌≡◌ {A = ℕ} k 21) (lacks_right ours class body) 21 0 (λ _. refl)
          (λ t. absurd (bar (ours_means.only class body (is_false (lacks_right ours class body) t))))

      kinds : (p : ℕ) (h : Issue) → IssueAt b p h → User h.frame ⊎ Extra h.frame
      kinds p h at =
          let x = issue-back n w b m (sound-issue n caps w g few m.bodies) p h at in
          subst (λ (z : Issue). User z.frame ⊎ Extra z.frame) x.2 (either_kind x.0.message)

      bare : (p : ℕ) (h : Issue) → IssueAt b p h → Extra h.frame → body_carried h.frame ≡ []
      bare p h at e =
          let x = issue-back n w b m (sound-issue n caps w g few m.bodies) p h at in
          let f = x.0 in
          let k = extra-kind f.message (subst (λ (z : Issue). Extra z.frame) (sym x.2) e) in
          subst (λ (z : Issue). body_carried z.frame ≡ []) x.2 (body-encode p f x.1 ∙ (g.sound p f x.1).bare k)
