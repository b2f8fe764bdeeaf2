-- Order, and few entries: parts of demand 3 in a world of bytes, from the same parts in the world of messages that it matches. Assumes nothing.
use Prim.Native.Nat.{◌<◌, ◌≤◌, ℕ}
use mathlib.Core.Path.{◌∙◌, ◌≡◌, ap, subst, sym}
use lib.ListN.{length}
use Rattle.causality.proofs.Matches.{Matches, encode_issue}
use Rattle.causality.proofs.Queues.{sound-issue}
use Rattle.causality.proofs.Reading.{before_back, cap-encode, count-encode, delivered-back, delivered-there, from-encode}
use Rattle.causality.proofs.Reading.{issue-back, number-encode, to-encode, user-kind}
use Rattle.causality.proofs.Records.{matrix-back}
use Rattle.causality.specs.Demand3.{CarriesFew, DeliveredAt, HappenedBefore, Issue, IssueAt, User, World, destination}
use Rattle.frame.proofs.Written.{decode-encode}
use Rattle.frame.specs.Frame.{decode}
use Rattle.frame.specs.Header.{header}
use Rattle.matrix.specs.Array.{entry}
use Rattle.matrix.specs.Matrix.{Matrix, count}
use Rattle.matrix.specs.Message.{Message, Sound, number}
use Rattle.protocol.proofs.Good.{Good}
use Rattle.protocol.specs.World as messages
use Rattle.protocol.specs.Demand3 as stated
use Rattle.node.specs.declared.Node.{Node as Record}

module _ (n : ℕ) (caps : ℕ → ℕ) (w : messages.World) (b : World) (g : Good n caps w) (few : length w.history < 1000000000) (m : Matches n w b)
    (t : stated.Demand3For n caps w) where
  -- issued messages are sound
  sound : (p : ℕ) (f : messages.Issue) → messages.IssueAt w p f → Sound f.message
  sound p f at = sound-issue n caps w g few m.bodies p f at

  pub causal : (p q u : ℕ) (x y : Issue) → IssueAt b p x → IssueAt b q y → User x.frame → User y.frame → destination x.frame ≡ destination y.frame
      → HappenedBefore b.log b.history x.step y.step → DeliveredAt b.history u y.frame
      → (k : ℕ) × (k < u) × DeliveredAt b.history k x.frame
  causal p q u x y a c = go (issue-back n w b m sound p x a) (issue-back n w b m sound q y c)
    where
      Goal : Issue → Issue → Type 0
      Goal x y =
          User x.frame → User y.frame → destination x.frame ≡ destination y.frame
          → HappenedBefore b.log b.history x.step y.step → DeliveredAt b.history u y.frame
          → (k : ℕ) × (k < u) × DeliveredAt b.history k x.frame

      here : (f h : messages.Issue) → messages.IssueAt w p f → messages.IssueAt w q h → Goal (encode_issue f) (encode_issue h)
      here f h fa ha uf uh to earlier d =
          let r = t.causal p q u f h fa ha (user-kind f.message uf) (user-kind h.message uh) (sym (to-encode f.message) ∙ to ∙ to-encode h.message)
          (before_back n w b m sound f.step h.step earlier) (delivered-back n w b m sound u h.message (sound q h ha) d) in
          (r.0, r.1, delivered-there n w b m sound r.0 f.message (sound p f fa) r.2)

      go : (f : messages.Issue) × messages.IssueAt w p f × (encode_issue f ≡ x) → (h : messages.Issue) × messages.IssueAt w q h × (encode_issue h ≡ y) → Goal x y
      go f h = subst (λ (z : Issue). Goal z y) f.2 (subst (λ (z : Issue). Goal (encode_issue f.0) z) h.2 (here f.0 h.0 f.1 h.1))

  pub once : (p k u : ℕ) (x : Issue) → IssueAt b p x → DeliveredAt b.history k x.frame → DeliveredAt b.history u x.frame → k ≡ u
  once p k u x a =
      let f = issue-back n w b m sound p x a in
      subst (λ (z : Issue). DeliveredAt b.history k z.frame → DeliveredAt b.history u z.frame → k ≡ u) f.2
      (λ c d. t.once p k u f.0 f.1 (delivered-back n w b m sound k f.0.message (sound p f.0 f.1) c)
      (delivered-back n w b m sound u f.0.message (sound p f.0 f.1) d))

  pub distinct : (p q : ℕ) (x y : Issue) → IssueAt b p x → IssueAt b q y → (header x.frame).from ≡ (header y.frame).from
      → destination x.frame ≡ destination y.frame
      → number (decode x.frame) ≡ number (decode y.frame) → p ≡ q
  distinct p q x y a c = go (issue-back n w b m sound p x a) (issue-back n w b m sound q y c)
    where
      Goal : Issue → Issue → Type 0
      Goal x y =
          (header x.frame).from ≡ (header y.frame).from → destination x.frame ≡ destination y.frame
          → number (decode x.frame) ≡ number (decode y.frame) → p ≡ q

      here : (f h : messages.Issue) → messages.IssueAt w p f → messages.IssueAt w q h → Goal (encode_issue f) (encode_issue h)
      here f h fa ha from to same =
          t.distinct p q f h fa ha (sym (from-encode f.message) ∙ from ∙ from-encode h.message)
          (sym (to-encode f.message) ∙ to ∙ to-encode h.message)
          (sym (number-encode f.message (sound p f fa)) ∙ same ∙ number-encode h.message (sound q h ha))

      go : (f : messages.Issue) × messages.IssueAt w p f × (encode_issue f ≡ x) → (h : messages.Issue) × messages.IssueAt w q h × (encode_issue h ≡ y) → Goal x y
      go f h = subst (λ (z : Issue). Goal z y) f.2 (subst (λ (z : Issue). Goal (encode_issue f.0) z) h.2 (here f.0 h.0 f.1 h.1))

  pub kept : (i : ℕ) → i < n → count (entry (b.records i).m) ≤ caps i
  kept i h =
      let e : entry (b.records i).m ≡ (w.nodes i).matrix = ap (λ (r : Record). entry r.m) (m.records i h) ∙ matrix-back n caps w g few i h in
      subst (λ (z : Matrix). count z ≤ caps i) (sym e) (t.kept i h)

  pub carried : (p : ℕ) (x : Issue) → IssueAt b p x → CarriesFew (caps (header x.frame).from) x.frame
  carried p x a =
      let f = issue-back n w b m sound p x a in
      subst (λ (z : Issue). CarriesFew (caps (header z.frame).from) z.frame) f.2
      (record {
        own = rw (from-encode f.0.message) (cap-encode f.0.message ∙ (g.sound p f.0 f.1).capped);
        e = rw (from-encode f.0.message, count-encode) (t.carried p f.0 f.1);
        matrix = rw (from-encode f.0.message) (subst (λ (z : Message). count z.entries ≤ caps f.0.message.from)
            (sym (decode-encode f.0.message (sound p f.0 f.1))) (t.carried p f.0 f.1));
      })
