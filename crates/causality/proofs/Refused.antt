-- A refused call and a refused step agree: both leave all as it was. A send to itself is such a step. Assumes nothing.
use Prim.Native.Nat.{ℕ}
use mathlib.Core.Bool.{cond, false, not}
use mathlib.Core.List.{List, [], map}
use mathlib.Core.Logic.{inl}
use mathlib.Core.Option.{none}
use mathlib.Core.Path.{◌∙◌, ◌≡◌, ap, refl}
use lib.Dec.{T, eqb, eqb_refl, ltb}
use lib.ListN.{take}
use Rattle.causality.proofs.Frames.{cut-nothing}
use Rattle.causality.proofs.Matches.{Agrees}
use Rattle.causality.specs.Demand3.{Answer, accepted, bytes_issued, deliveries, delivery, frames_in, offers_accepted}
use Rattle.causality.specs.Ceiling.{extras, users_issued}
use Rattle.causality.specs.ListRefusals.{Expected}
use Rattle.frame.specs.Frame.{encode}
use Rattle.holdback.specs.Slots.{laid}
use Rattle.causality.proofs.Records.{record_of}
use Rattle.protocol.proofs.Lists.{at_none}
use Rattle.protocol.specs.Node.{at_limit, Node as MessageNode}
use Rattle.protocol.specs.Send.{bad_destination, long_body, send, sending}
use Rattle.wire.proofs.Tests.{cond_no, cond_yes, either_T}
use Rattle.protocol.specs.Answer as protocol

-- an answer that says no, as a list can meet it
pub record SaysNo (a : Answer) : Type 0 where
  pub refuses : accepted a ≡ false
  pub nothing : delivery a ≡ none
  pub holds : offers_accepted a ≡ 0
  pub gives : deliveries a ≡ 0
  pub counts : bytes_issued a ≡ 0
  pub extras : extras a ≡ 0
  pub users : users_issued a ≡ 0
  pub expected : Expected a

-- any refusal of a step agrees with any of a call
pub refused-agrees : (d : MessageNode) (k : ℕ) (a : Answer) (out : List ℕ) → SaysNo a
    → Agrees (protocol.refuse k d) (record_of d) (laid (map encode d.held)) a out
refused-agrees d k a out s = record {
  node = refl;
  queue = refl;
  answer = record { acceptance = s.refuses; names = s.nothing; taken = s.holds; given = s.gives; extras = s.extras; users = s.users; expected = s.expected };
  frames = ap (λ (c : ℕ). frames_in (take c out)) s.counts ∙ cut-nothing out;
  bodies = λ p m e. absurd (at_none p m e);
}

-- a node that has issued fewer than 1,000,000,000 frames refuses a send to itself
pub own-refused : (d : MessageNode) → T (not (at_limit d)) → send d d.me [] ≡ protocol.refuse 6 d
unfolding send
own-refused d t =
    cond_no (at_limit d) (protocol.refuse 5 d) rest t
    ∙ cond_yes (bad_destination d d.me) (protocol.refuse 6 d) (cond (long_body []) (protocol.refuse 7 d) (sending d d.me []))
    (either_T (eqb d.me d.me) (not (ltb d.me d.n)) (inl (eqb_refl d.me)))
  where
    rest : protocol.Outcome
    rest = cond (bad_destination d d.me) (protocol.refuse 6 d) (cond (long_body []) (protocol.refuse 7 d) (sending d d.me []))
