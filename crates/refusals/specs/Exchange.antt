-- Two neighbouring bytes changed over, at the calls (document 02, (ix)): 8 for a frame, 20 for an image. A refusal leaves record and buffers (demand 1).
-- 19, for a trail, stands in the trail's own statement.
use Rattle.std.specs.Prelude.{ℕ, ◌≤◌, List, ◌⊎◌, ◌≡◌}
use Rattle.wire.specs.Bytes.{AllBytes}
use Rattle.wire.specs.Exchange.{Unequal, exchanged}
use Rattle.node.specs.declared.Node.{Node as Record}
use Rattle.node.specs.Answers.{offer_number}
use Rattle.node.specs.Calls.{offer_call}
use Rattle.image.specs.Image.{SoundImage}
use Rattle.host.specs.Exports.{exported_deliver, exported_offer, exported_send}

-- the number of an offer that is taken, or that meets no check up to 8 and one of 9 to 16
abbrev pub Behind8 : ℕ → Type 0
Behind8 k = (k ≡ 0) ⊎ ((9 ≤ k) × (k ≤ 16))

-- a frame s with two unequal neighbours exchanged, offered where s itself would be taken or refused behind 8
pub record FrameExchanged (s : List ℕ) (k : ℕ) : Type 0 where
  pub offer : (r : Record) (q : List ℕ) → Behind8 (offer_number (offer_call r s q).result.answer) → offer_number (offer_call r (exchanged s k) q).result.answer ≡ 8
  pub host_offer : (i q answer : List ℕ) → Behind8 (exported_offer i s q answer).status → (exported_offer i (exchanged s k) q answer).status ≡ 8

-- a sound image i so exchanged, whatever else is lent
pub record ImageExchanged (i : List ℕ) (k : ℕ) : Type 0 where
  pub send : (to class : ℕ) (body out answer : List ℕ) → (exported_send (exchanged i k) to class body out answer).status ≡ 20
  pub offer : (s q answer : List ℕ) → (exported_offer (exchanged i k) s q answer).status ≡ 20
  pub deliver : (q out body answer : List ℕ) → (exported_deliver (exchanged i k) q out body answer).status ≡ 20

pub record Exchanges : Type 0 where
  pub frame : (s : List ℕ) (k : ℕ) → AllBytes s → Unequal s k → FrameExchanged s k
  pub image : (i : List ℕ) (k : ℕ) → SoundImage i → Unequal i k → ImageExchanged i k
