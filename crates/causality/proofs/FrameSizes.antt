-- How long the frames of a list are at most: by the rules that its messages keep. Assumes nothing.
use Prim.Native.Nat.{ℕ, ◌<◌, ◌≤◌}
use mathlib.Core.Path.{◌≡◌, ap, subst}
use native.Mathlib.Omega.{arith}
use lib.ListN.{length}
use Rattle.causality.proofs.Matches.{Matches}
use Rattle.causality.proofs.Queues.{sound-issue}
use Rattle.causality.proofs.Reading.{extra-kind, from-encode, issue-back}
use Rattle.causality.specs.Demand3.{Issue, IssueAt, World}
use Rattle.causality.specs.FrameSizes.{FrameSizesFor, extra_size, user_size}
use Rattle.causality.specs.Rights.{Extra}
use Rattle.frame.proofs.Written.{length-encode}
use Rattle.frame.specs.Frame.{encode}
use Rattle.frame.specs.Header.{header}
use Rattle.matrix.proofs.Bounds.{rules-lone, rules_square}
use Rattle.matrix.specs.Message.{Message, extra}
use Rattle.protocol.proofs.Good.{Good, SoundIssue}
use Rattle.protocol.specs.World as messages

-- a message of n nodes with these caps, the one of its sender in range
module _ (n : ℕ) (caps : ℕ → ℕ) (m : Message) (s : SoundIssue n caps m) (twelve : n ≤ 12) where
  user-size : length (encode m) ≤ user_size n (caps m.from)
  user-size = omega (arith, length-encode m, s.few, s.short, rules_square n m.from m.entries s.from twelve s.rules)

  extra-size : m.kind ≡ extra → length (encode m) ≤ extra_size n
  extra-size e =
      omega (
        arith,
        length-encode m,
        ap length (s.bare e),
        rules-lone n m.from m.to m.entries s.from twelve s.rules s.to (s.lone e),
      )

module _ (n : ℕ) (caps : ℕ → ℕ) (w : messages.World) (b : World) (g : Good n caps w) (few : length w.history < 1000000000) (m : Matches n w b) where
  -- the frame of a message of the log
  abbrev Sized : Issue → Type 0
  Sized h = (length h.frame ≤ user_size n (caps (header h.frame).from)) × (Extra h.frame → length h.frame ≤ extra_size n)

  sized : (p : ℕ) (h : Issue) → IssueAt b p h → Sized h
  sized p h at =
      let x = issue-back n w b m (sound-issue n caps w g few m.bodies) p h at in
      let f = x.0 in
      let s = g.sound p f x.1 in
      let twelve : n ≤ 12 = (g.range f.message.from s.from).at_most12 in
      subst Sized x.2 (
        rw (from-encode f.message) (user-size n caps f.message s twelve),
        λ e. extra-size n caps f.message s twelve (extra-kind f.message e),
      )

  pub frame-sizes_for : FrameSizesFor n caps b
  frame-sizes_for = record { user = λ p h at _. (sized p h at).0; extra = λ p h at e. (sized p h at).1 e }
