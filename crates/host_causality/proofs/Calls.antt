-- What the node's calls keep of a sound node. Assumes nothing.
use Prim.Native.Nat.{ℕ}
use mathlib.Core.List.{List, []}
use mathlib.Core.Option.{Option, none, some}
use mathlib.Core.Path.{◌≡◌}
use lib.ListN.{length}
use Rattle.matrix.proofs.Array.{length-flat, length_list}
use Rattle.protocol.specs.Answer.{Label, Outcome, delivery}
use Rattle.protocol.specs.Send.{sending}
use Rattle.node.proofs.Delivering.{concluded}
use Rattle.node.specs.Answers.{AfterDeliver, AfterOffer, AfterSend}
use Rattle.node.specs.Calls.{accept_deliver, deliver_call, offer_call, send_call}
use Rattle.node.specs.Record.{node_of}
use Rattle.node.specs.declared.Node.{Node as Record}
use Rattle.soundness.proofs.HandedBack.{handed_back}
use Rattle.soundness.specs.HandedBack.{SoundState}
use Rattle.image.specs.Image.{SoundRecord}
use Rattle.node.proofs.Cases.{deliver-cases, offer-cases, send-cases}

-- a sound node: record and queue as the next call takes them, and arrays of their lengths
pub record Shape (r : Record) : Type 0 where
  pub cells : length r.m ≡ 144
  pub senders : length r.deliv ≡ 12

pub record SoundNode (r : Record) (q : List ℕ) : Type 0 where
  pub state : SoundState r q
  pub shape : Shape r

pub sound_record : (r : Record) (q : List ℕ) → SoundNode r q → SoundRecord r
sound_record r q s = record { cells = s.shape.cells; senders = s.shape.senders; rules = s.state.not2 }

module _ (r : Record) (q : List ℕ) (s : SoundNode r q) where
  pub send_keeps : (to class : ℕ) (body out : List ℕ) → SoundNode (send_call r to class body out).result.node q
  send_keeps to class body out =
      record {
        state = handed_back.sends r q s.state to class body out;
        shape = send-cases (λ (c : AfterSend). Shape c.result.node) r to class body out (λ k h. s.shape)
            (λ _. record { cells = length-flat (sending (node_of r []) to body).node.matrix; senders = s.shape.senders });
      }

  pub offer_keeps : (x : List ℕ) → SoundNode (offer_call r x q).result.node (offer_call r x q).queue
  offer_keeps x =
      record {
        state = handed_back.offers r q s.state x;
        shape = offer-cases (λ (c : AfterOffer). Shape c.result.node) r x q (λ k h. s.shape)
            (λ _. record { cells = s.shape.cells; senders = s.shape.senders });
      }

  pub deliver_keeps : (out body : List ℕ) → SoundNode (deliver_call r q out body).result.node (deliver_call r q out body).queue
  deliver_keeps out body =
      record {
        state = handed_back.delivers r q s.state out body;
        shape = deliver-cases (λ (c : AfterDeliver). Shape c.result.node) r q out body (λ k h. s.shape)
            (λ _. taken (concluded r q) (delivery (concluded r q).answer));
      }
    where
      taken : (o : Outcome) (a : Option Label) → Shape (accept_deliver r q out body o a).result.node
      taken o none = s.shape
      taken o (some a) = record { cells = length-flat o.node.matrix; senders = length_list 0 12 o.node.deliv }
