-- An earliest undelivered frame, an offer of it that is accepted, a deliver that delivers,
-- and what is held: parts of demand 3 in a world of bytes. Assumes nothing.
use Prim.Native.Nat.{◌<◌, ℕ}
use mathlib.Core.Bool.{true}
use mathlib.Core.List.{List, map}
use mathlib.Core.Logic.{◌⊎◌, inl, inr}
use mathlib.Core.Option.{some}
use mathlib.Core.Path.{◌∙◌, ◌≡◌, ap, ap₂, subst, sym}
use lib.Dec.{eqb, eqb→eq}
use lib.ListN.{get_elem?, length}
use Rattle.causality.proofs.Matches.{Matches, encode_issue, named}
use Rattle.causality.proofs.Queues.{frames-back, held-sound, sound-issue}
use Rattle.causality.proofs.Reading.{earliest_there, held_back, held-there, issue-back, issue-there}
use Rattle.causality.proofs.Reading.{label-encode, same-held, some_back, some-there, to-encode}
use Rattle.causality.proofs.Steps.{given-here, offered-here}
use Rattle.causality.specs.Demand3.{DeliversNew, Earliest, Held, HeldAgrees, Issue, IssueAt, Label, World, destination, held_at, queued, Delivered}
use Rattle.causality.specs.EachDestination.{EarliestThere}
use Rattle.frame.proofs.Written.{decode-encode}
use Rattle.frame.specs.Frame.{decode, encode}
use Rattle.holdback.specs.Slots.{held_frames}
use Rattle.matrix.specs.Message.{Message, Sound}
use Rattle.node.specs.Answers.{offer_number}
use Rattle.node.specs.Calls.{offer_call}
use Rattle.protocol.proofs.Good.{Good}
use Rattle.protocol.proofs.Grown.{node-eq, node_at}
use Rattle.protocol.proofs.Lists.{at_map, map_at}
use Rattle.protocol.proofs.Liveness.{accepts-first, delivers-first}
use Rattle.protocol.specs.Offer.{offer}
use Rattle.wire.proofs.Tests.{of_true}
use Rattle.wire.specs.Limits.{max_held}
use Rattle.protocol.specs.World as messages
use Rattle.protocol.specs.Answer as protocol
use Rattle.protocol.specs.Demand3 as stated
use Rattle.protocol.specs.Deliver.{deliver}
use Rattle.protocol.specs.Node.{Node as MessageNode}
use Rattle.node.specs.declared.Node.{Node as Record}

module _ (n : ℕ) (caps : ℕ → ℕ) (w : messages.World) (b : World) (g : Good n caps w) (few : length w.history < 1000000000) (m : Matches n w b)
    (t : stated.Demand3For n caps w) where
  -- issued messages are sound
  sound : (p : ℕ) (f : messages.Issue) → messages.IssueAt w p f → Sound f.message
  sound p f at = sound-issue n caps w g few m.bodies p f at

  pub exists : (p : ℕ) (x : Issue) → IssueAt b p x → ¬ Delivered b x.frame → (q : ℕ) × (h : Issue) × Earliest b q h
  exists p x a =
      let f = issue-back n w b m sound p x a in
      subst (λ (z : Issue). ¬ Delivered b z.frame → (q : ℕ) × (h : Issue) × Earliest b q h) f.2
      (λ waiting. let r = t.exists p f.0 f.1 (λ d. waiting (some-there n w b m sound f.0.message (sound p f.0 f.1) d)) in
      (r.0, encode_issue r.1, earliest_there n w b m sound r.0 r.1 r.2))

  -- the node that a message goes to
  same-node : (i : ℕ) → i < n → w.nodes i ≡ node_at n caps w i
  same-node i h = node-eq n caps w g i h

  -- the earliest undelivered frame to its destination is that of the earliest such message
  module _ (p : ℕ) (f : messages.Issue) (at : messages.IssueAt w p f) (e : EarliestThere b p (encode_issue f)) where
    undelivered : ¬ stated.Delivered w f.message
    undelivered d = e.undelivered (some-there n w b m sound f.message (sound p f at) d)

    first : (q : ℕ) (h : messages.Issue) → q < p → messages.IssueAt w q h → h.message.to ≡ f.message.to → stated.Delivered w h.message
    first q h l a to =
        some_back n w b m sound h.message (sound q h a)
        (e.earlier q (encode_issue h) l (issue-there n w b m sound q h a) (to-encode h.message ∙ to ∙ sym (to-encode f.message)))

  -- the answer of an offer of x at node j, made now
  abbrev offering : Issue → ℕ → ℕ
  offering x j = offer_number (offer_call (b.records j) x.frame (b.queues j)).result.answer

  pub accepts : (p : ℕ) (x : Issue) → EarliestThere b p x → ¬ Held b p x.frame → held_at b (destination x.frame) < max_held
      → offering x (destination x.frame) ≡ 0
  accepts p x e = go (issue-back n w b m sound p x e.at) e
    where
      Goal : Issue → Type 0
      Goal x = EarliestThere b p x → ¬ Held b p x.frame → held_at b (destination x.frame) < max_held → offering x (destination x.frame) ≡ 0

      here : (f : messages.Issue) → messages.IssueAt w p f → Goal (encode_issue f)
      here f at e away room =
          let i : ℕ = f.message.to in
          let hi : i < n = (g.sound p f at).to in
          let r : held_at b i < max_held = subst (λ (j : ℕ). held_at b j < max_held) (to-encode f.message) room in
          let r' : stated.held_at w i < max_held = subst (λ (k : ℕ). k < max_held) (same-held n w b m sound i) r in
          let a : protocol.accepted (offer (w.nodes i) f.message).answer ≡ true = accepts-first n caps w g few p f at (undelivered p f at e)
          (first p f at e) (λ h. away (held-there n w b m sound p f.message (sound p f at) h)) r' in
          let a' : protocol.accepted (offer (node_at n caps w i) f.message).answer ≡ true
          = subst (λ (d : MessageNode). protocol.accepted (offer d f.message).answer ≡ true) (same-node i hi) a in
          let k : eqb (offering (encode_issue f) i) 0 ≡ true = (offered-here n caps w b g few m i hi p f at).answer.acceptance ∙ a' in
          subst (λ (j : ℕ). offering (encode_issue f) j ≡ 0) (sym (to-encode f.message))
          (eqb→eq (offering (encode_issue f) i) 0 (of_true (eqb (offering (encode_issue f) i) 0) k))

      go : (f : messages.Issue) × messages.IssueAt w p f × (encode_issue f ≡ x) → Goal x
      go f = subst Goal f.2 (here f.0 f.1)

  pub delivers-new : (p : ℕ) (x : Issue) → EarliestThere b p x → Held b p x.frame ⊎ (held_at b (destination x.frame) ≡ max_held)
      → DeliversNew b (destination x.frame)
  delivers-new p x e = go (issue-back n w b m sound p x e.at) e
    where
      Goal : Issue → Type 0
      Goal x = EarliestThere b p x → Held b p x.frame ⊎ (held_at b (destination x.frame) ≡ max_held) → DeliversNew b (destination x.frame)

      here : (f : messages.Issue) → messages.IssueAt w p f → Goal (encode_issue f)
      here f at e c =
          let i : ℕ = f.message.to in
          let hi : i < n = (g.sound p f at).to in
          let r = delivers-first n caps w g few p f at (undelivered p f at e) (first p f at e) (turn c) in
          let s : Sound r.issue.message = sound r.place r.issue r.at in
          subst (DeliversNew b) (sym (to-encode f.message))
          (record {
            place = r.place;
            issue = encode_issue r.issue;
            at = issue-there n w b m sound r.place r.issue r.at;
            here = to-encode r.issue.message ∙ r.here;
            new = λ d. r.new (some_back n w b m sound r.issue.message s d);
            answers = λ out body h k. (given-here n caps w b g few m i hi out body h k).answer.names
                ∙ ap named (subst (λ (d : MessageNode). protocol.delivery (deliver d).answer ≡ some (protocol.label r.issue.message))
                (same-node i hi) r.answers)
                ∙ ap (λ (z : Label). some z) (sym (label-encode r.issue.message s));
          })
        where
          turn : Held b p (encode f.message) ⊎ (held_at b (destination (encode f.message)) ≡ max_held)
              → stated.Held w p f.message ⊎ (stated.held_at w f.message.to ≡ max_held)
          turn (inl h) = inl (held_back n w b m sound p f.message (sound p f at) h)
          turn (inr h) = inr (sym (same-held n w b m sound f.message.to) ∙ subst (λ (j : ℕ). held_at b j ≡ max_held) (to-encode f.message) h)

      go : (f : messages.Issue) × messages.IssueAt w p f × (encode_issue f ≡ x) → Goal x
      go f = subst Goal f.2 (here f.0 f.1)

  -- record and queue of node j agree with the history
  module _ (j : ℕ) (hj : j < n) where
    -- the messages held
    abbrev held_there : List Message
    held_there = (w.nodes j).held

    queued-frames : queued b j ≡ map encode held_there
    queued-frames =
        ap₂ (λ (r : Record) (q : List ℕ). held_frames r.held q) (m.records j hj) (m.queues j hj) ∙ frames-back n caps w g few m.bodies j hj

    held-message : (h : ℕ) (s : List ℕ) → get_elem? (queued b j) h ≡ some s → (f : Message) × (get_elem? held_there h ≡ some f) × (encode f ≡ s)
    held-message h s a = map_at encode held_there h s (ap (λ (l : List (List ℕ)). get_elem? l h) (sym queued-frames) ∙ a)

    pub held-agrees : HeldAgrees b j
    held-agrees = record {
      number = ap (λ (r : Record). r.held) (m.records j hj) ∙ (t.queue j hj).number ∙ sym (same-held n w b m sound j);
      each = each;
      all = all;
      apart = apart;
    }
      where
        each : (h : ℕ) (s : List ℕ) → get_elem? (queued b j) h ≡ some s
            → (p : ℕ) × (x : Issue) × IssueAt b p x × (x.frame ≡ s) × (destination s ≡ j) × Held b p s
        each h s a =
            let f = held-message h s a in
            let r = (t.queue j hj).each h f.0 f.1 in (
              r.0,
              encode_issue r.1,
              issue-there n w b m sound r.0 r.1 r.2,
              ap encode r.3 ∙ f.2,
              ap destination (sym f.2) ∙ to-encode f.0 ∙ r.4,
              subst (λ (z : List ℕ). Held b r.0 z) f.2
                  (held-there n w b m sound r.0 f.0 (held-sound n caps w g few m.bodies j hj h f.0 f.1) r.5),
            )

        all : (p : ℕ) (x : Issue) → IssueAt b p x → destination x.frame ≡ j → Held b p x.frame → (h : ℕ) × (get_elem? (queued b j) h ≡ some x.frame)
        all p x a =
            let f = issue-back n w b m sound p x a in
            subst (λ (z : Issue). destination z.frame ≡ j → Held b p z.frame → (h : ℕ) × (get_elem? (queued b j) h ≡ some z.frame)) f.2
            (λ to h. let r = (t.queue j hj).all p f.0 f.1 (sym (to-encode f.0.message) ∙ to)
            (held_back n w b m sound p f.0.message (sound p f.0 f.1) h) in
            (r.0, ap (λ (l : List (List ℕ)). get_elem? l r.0) queued-frames ∙ at_map encode held_there r.0 f.0.message r.1))

        apart : (h k : ℕ) (s : List ℕ) → get_elem? (queued b j) h ≡ some s → get_elem? (queued b j) k ≡ some s → h ≡ k
        apart h k s a c =
            let f = held-message h s a in
            let f' = held-message k s c in
            let e : f'.0 ≡ f.0 = sym (decode-encode f'.0 (held-sound n caps w g few m.bodies j hj k f'.0 f'.1)) ∙ ap decode (f'.2 ∙ sym f.2)
            ∙ decode-encode f.0 (held-sound n caps w g few m.bodies j hj h f.0 f.1) in
            (t.queue j hj).apart h k f.0 f.1 (f'.1 ∙ ap (λ (z : Message). some z) e)
