-- No frame is accepted twice: what two matched histories say of an accepted offer. Assumes nothing.
use Prim.Native.Nat.{ℕ}
use mathlib.Core.Path.{◌∙◌, sym}
use Rattle.causality.proofs.Matches.{Matches, SameEvent, same_back}
use Rattle.causality.specs.AcceptedOnce.{AcceptedOnceFor, Accepts}
use Rattle.causality.specs.Demand3.{Event, World}
use Rattle.protocol.proofs.Accepting as proved
use Rattle.protocol.specs.World as messages

-- an accepted offer in the one history is one in the other
accepts-back : (e : messages.Event) (f : Event) → SameEvent e f → (p : ℕ) → Accepts f p → proved.Accepts e p
accepts-back e f s p a = record {
  node = a.node;
  offered = s.step.back a.node p a.offered;
  accepted = sym s.answer.acceptance ∙ a.accepted;
}

pub accepted-once : (n : ℕ) (w : messages.World) (b : World) → Matches n w b → proved.AcceptedOnce w.history → AcceptedOnceFor b
accepted-once n w b m once t u p e f at au k l =
    let x = same_back w.history b.history m.history t e at in
    let y = same_back w.history b.history m.history u f au in
    once t u p x.0 y.0 x.1 y.1 (accepts-back x.0 e x.2 p k) (accepts-back y.0 f y.2 p l)
