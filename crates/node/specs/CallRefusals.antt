-- The refusals of each call as numbers: the first check that is met, in rising order, and 0 where none is.
use Rattle.std.specs.Prelude.{ℕ, ◌+◌, ◌≤◌, Bool, cond, false, not, ◌||◌, List, [], ◌≡◌, eqb, ltb, length}
use Rattle.wire.specs.Limits.{max_body, max_count}
use Rattle.matrix.specs.Array.{vector}
use Rattle.matrix.specs.Message.{Message}
use Rattle.frame.specs.Frame.{decode}
use Rattle.frame.specs.Refusals.{frame_refusal}
use Rattle.protocol.specs.Node.{Node, at_limit}
use Rattle.protocol.specs.Send.{bad_destination, long_body}
use Rattle.protocol.specs.Offer.{not_for_me, claims_too_much, delivered_before, held_already, no_room, deliverable}
use Rattle.protocol.specs.Deliver.{search}
use Rattle.holdback.specs.Places.{frame_at, place_of}
use Rattle.holdback.specs.Slots.{queue_size, held_messages}
use Rattle.holdback.specs.WrongQueue.{wrong_queue}
use Rattle.rights.specs.Ours.{ours}
use Rattle.rights.specs.Rights.{lacks_right}
use Rattle.node.specs.declared.Node.{Node as Record}
use Rattle.node.specs.Sizes.{out_size}
use Rattle.node.specs.Record.{broken_record, node_at, node_of}

-- send: 2, 3, 5, 6, 7, 21, for a frame output of this length
unfoldable pub send_refusal : Record → (to class : ℕ) (body : List ℕ) (out : ℕ) → ℕ
send_refusal r to class body out =
    cond (broken_record r) 2 (cond (ltb out out_size) 3
    (cond (at_limit (node_of r [])) 5 (cond (bad_destination (node_of r []) to) 6 (cond (long_body body) 7 (cond (lacks_right ours class body) 21 0)))))

-- a send of this body by some class meets no check
pub record SendPasses (r : Record) (to : ℕ) (body : List ℕ) (out : ℕ) : Type 0 where
  pub class : ℕ
  pub passes : send_refusal r to class body out ≡ 0

-- a send at a node with this record's me, n, cap and matrix, of this body by some class, meets no check
pub record SendPassesAt (r : Record) (to : ℕ) (body : List ℕ) (out : ℕ) : Type 0 where
  pub deliv : List ℕ
  pub held : ℕ
  pub class : ℕ
  pub passes : send_refusal (record r { deliv = deliv; held = held }) to class body out ≡ 0

-- the protocol's refusals of an offer: 12 to 16
unfoldable pub hold_refusal : Node → Message → ℕ
hold_refusal d m = cond (not_for_me d m) 12 (cond (claims_too_much d m) 13 (cond (delivered_before d m) 14 (cond (held_already d m) 15 (cond (no_room d m) 16 0))))

-- 2 to 4 on record and queue, and k where none is met; 3: another lent buffer is too short, or the shelf's length is not 12,832
unfoldable pub record_refusal : Record → List ℕ → Bool → ℕ → ℕ
record_refusal r q short k =
    cond (broken_record r) 2 (cond (short || not (eqb (length q) queue_size)) 3 (cond (wrong_queue (node_of r []) r.held q) 4 k))

-- those of a frame that is offered: 8 to 11, 12 to 16
abbrev pub take_refusal : Record → List ℕ → List ℕ → ℕ
take_refusal r s q = cond (not (eqb (frame_refusal r.n s) 0)) (frame_refusal r.n s) (hold_refusal (node_at r q) (decode s))

-- offer: 2 to 4, 8 to 11, 12 to 16; it is lent the queue alone
unfoldable pub offer_refusal : Record → List ℕ → List ℕ → ℕ
offer_refusal r s q = record_refusal r q false (take_refusal r s q)

-- outputs of these lengths are too short for a deliver
abbrev pub short_outputs : ℕ → ℕ → Bool
short_outputs out body = ltb out out_size || ltb body max_body

-- deliver: 2 to 5, for outputs that are too short or not
unfoldable pub deliver_refusal : Record → List ℕ → Bool → ℕ
deliver_refusal r q short = record_refusal r q short (cond (at_limit (node_at r q)) 5 0)

-- a deliver at this record, with this queue and outputs of these lengths, meets no check and finds a deliverable frame in this slot, counted from 0
pub record Finds (r : Record) (q : List ℕ) (out body slot : ℕ) : Type 0 where
  pub passes : deliver_refusal r q (short_outputs out body) ≡ 0
  pub found : slot + 1 ≡ place_of (search (deliverable (node_at r q)) (held_messages r.held q))

-- the same at a node with this record's me, n, cap, matrix and number of held frames; and this record can count one more of the sender
pub record FindsAt (r : Record) (q : List ℕ) (out body slot : ℕ) : Type 0 where
  pub deliv : List ℕ
  pub finds : Finds (record r { deliv = deliv }) q out body slot
  pub room : vector r.deliv (decode (frame_at q slot)).from ≤ max_count
