-- What a call hands back, the next call takes: from a record and a hold-back queue that meet neither 2 nor 4, every call gives such again.
-- The calls are `set_up`, `send_call`, `offer_call` and `deliver_call`, the definitions that the promises of set-up, send, offer and deliver cite.
use Rattle.std.specs.Prelude.{ℕ, false, List, [], ◌≡◌, length}
use Rattle.holdback.specs.WrongQueue.{wrong_queue}
use Rattle.holdback.specs.Slots.{queue_size, zeros}
use Rattle.node.specs.declared.Node.{Node as Record}
use Rattle.node.specs.Answers.{AfterDeliver, AfterOffer, set_up_number}
use Rattle.node.specs.Calls.{deliver_call, offer_call, send_call}
use Rattle.node.specs.Record.{broken_record, node_of}
use Rattle.node.specs.SetUp.{set_up}

-- the record r and the queue q meet neither 2 (a record rule is broken) nor 4 (the queue is not as it should be for this record)
pub record SoundState (r : Record) (q : List ℕ) : Type 0 where
  pub not2 : broken_record r ≡ false
  pub not4 : wrong_queue (node_of r []) r.held q ≡ false

-- fresh: the record of a set-up that is not refused, with a queue of 12,832 zeros
-- sends, offers, delivers: what the call leaves, for any other input, refused or not; a send is not lent the queue, which stays
-- size: such a queue has the length that 3 asks for
pub record HandedBack : Type 0 where
  pub fresh : (me n cap : ℕ) → set_up_number (set_up me n cap).answer ≡ 0 → SoundState (set_up me n cap).node (zeros queue_size)
  pub sends : (r : Record) (q : List ℕ) → SoundState r q → (to class : ℕ) (body out : List ℕ) → SoundState (send_call r to class body out).result.node q
  pub offers : (r : Record) (q : List ℕ) → SoundState r q → (s : List ℕ) → (let c : AfterOffer = offer_call r s q in SoundState c.result.node c.queue)
  pub delivers : (r : Record) (q : List ℕ) → SoundState r q → (out body : List ℕ)
      → (let c : AfterDeliver = deliver_call r q out body in SoundState c.result.node c.queue)
  pub size : (r : Record) (q : List ℕ) → SoundState r q → length q ≡ queue_size
