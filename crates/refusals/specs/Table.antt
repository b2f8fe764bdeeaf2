-- The ◆ table: exactly the ◆ examples of document 01's section on shop examples, in its order, each a row of one statement about the calls on record and bytes.
use Rattle.std.specs.Prelude.{ℕ, zero, suc, true, List, [], ◌∷◌, ◌++◌, ◌≡◌, replicate, take}
use Rattle.matrix.specs.Array.{entry}
use Rattle.matrix.specs.Matrix.{Matrix, column_count, count, merge, single}
use Rattle.matrix.specs.Message.{user_message}
use Rattle.frame.specs.Frame.{decode, encode}
use Rattle.holdback.specs.Slots.{laid, queue_size, zeros}
use Rattle.rights.specs.Rights.{camera, mover}
use Rattle.node.specs.Answers.{AfterDeliver, AfterOffer, AfterSend}
use Rattle.node.specs.Calls.{deliver_call, offer_call, send_call}
use Rattle.node.specs.Sizes.{out_size}
use Rattle.node.specs.SetUp.{set_up}
use Rattle.node.specs.declared.Node.{Node as Record}
use Rattle.node.specs.SendAnswer.{SendAnswer}
use Rattle.node.specs.DeliverAnswer.{DeliverAnswer}
use Rattle.node.specs.SetUpAnswer as set_up_answer
use Rattle.node.specs.SendAnswer as send_answer
use Rattle.node.specs.OfferAnswer as offer_answer
use Rattle.node.specs.DeliverAnswer as deliver_answer

-- ---- what the rows share

-- lent outputs of the shortest lengths, and an all-zero queue (document 01: shelf)
abbrev pub out : List ℕ
out = replicate out_size 0

abbrev pub text : List ℕ
text = replicate 64 0

abbrev pub empty : List ℕ
empty = zeros queue_size

-- a fresh record, which set-up returns
abbrev pub fresh : ℕ → ℕ → ℕ → Record
fresh me n cap = (set_up me n cap).node

-- a send by a class, with a lent output, an offer to what an offer left, a deliver from what an offer or a deliver left, with lent outputs
abbrev pub sends : Record → (to class : ℕ) (body : List ℕ) → AfterSend
sends r to class body = send_call r to class body out

abbrev pub then_offers : AfterOffer → List ℕ → AfterOffer
then_offers c s = offer_call c.result.node s c.queue

abbrev pub then_delivers : AfterOffer → AfterDeliver
then_delivers c = deliver_call c.result.node c.queue out text

abbrev pub delivers_again : AfterDeliver → AfterDeliver
delivers_again c = deliver_call c.result.node c.queue out text

-- the bytes that a send's answer counts
abbrev pub written : SendAnswer → ℕ
written (send_answer.Refused k) = 0
written (send_answer.Sent bytes extras) = bytes

-- the frames that a send wrote
abbrev pub frame_of : AfterSend → List ℕ
frame_of c = take (written c.result.answer) c.out

-- the answer of a delivery of a user frame
abbrev pub gets : (from number tried body bytes extras : ℕ) → DeliverAnswer
gets from number tried body bytes extras =
    deliver_answer.Frame (record { kind = 1; from = from; number = number; tried = tried; body = body; bytes = bytes; extras = extras })

-- the array of a matrix: its rows 0 to 2 in columns 0 to 2, zero elsewhere
abbrev pub rows : (a b c d e f g h i : ℕ) → List ℕ
rows a b c d e f g h i = (a ∷ b ∷ c ∷ replicate 9 0) ++ ((d ∷ e ∷ f ∷ replicate 9 0) ++ ((g ∷ h ∷ i ∷ replicate 9 0) ++ replicate 108 0))

-- ---- n 3, cap 3, fresh 0 sends "O" to 1: a camera's, since its topic 79 is exposure

-- its 13 bytes, hex 01 00 01 00 01 03 03 00 4F 09 00 51 03, with the byte x for 51: document 01 ends them 61 00, document 02 (ix) 51 03
abbrev pub thirteen : ℕ → List ℕ
thirteen x = 1 ∷ 0 ∷ 1 ∷ 0 ∷ 1 ∷ 3 ∷ 3 ∷ 0 ∷ 79 ∷ 9 ∷ 0 ∷ x ∷ 3 ∷ []

-- ---- the tie

-- the records and frames of nodes 0, 1 and 2 after their two sends, of empty bodies, which every class may send
unfoldable pub sent₀ : Record
sent₀ = (sends (sends (fresh 0 3 3) 1 mover []).result.node 2 mover []).result.node

unfoldable pub from₁ : List ℕ
from₁ = frame_of (sends (sends (fresh 1 3 3) 2 mover []).result.node 0 mover [])

unfoldable pub from₂ : List ℕ
from₂ = frame_of (sends (sends (fresh 2 3 3) 1 mover []).result.node 0 mover [])

-- node 0 holds the one from 1, then the one from 2
unfoldable pub holds_both : AfterOffer
holds_both = then_offers (offer_call sent₀ from₁ empty) from₂

-- it delivers once, and again
unfoldable pub delivers_first : AfterDeliver
delivers_first = then_delivers holds_both

unfoldable pub delivers_second : AfterDeliver
delivers_second = delivers_again delivers_first

-- the matrix before the second delivery trims it
unfoldable pub untrimmed : Matrix
untrimmed = merge 0 (entry delivers_first.result.node.m) (decode from₂).entries

-- ---- offered again

-- node 1 holds the 13 bytes, and delivers them
unfoldable pub holds_one : AfterOffer
holds_one = offer_call (fresh 1 3 3) (thirteen 81) empty

unfoldable pub delivers_one : AfterDeliver
delivers_one = then_delivers holds_one

-- ---- 15 held

-- at node 0, the frame from 1 with number k + 1: number 1 is deliverable, a later one waits
abbrev pub numbered : ℕ → List ℕ
numbered k = encode (user_message 1 0 3 3 (single 1 0 k) [])

-- k frames that wait: numbers 2 to k + 1
abbrev pub waiting : ℕ → List (List ℕ)
waiting zero = []
waiting (suc k) = waiting k ++ (numbered (suc k) ∷ [])

-- a record of node 0 that is fresh but for its 15 held frames
abbrev pub fifteen : Record
fifteen = record { me = 0; n = 3; cap = 3; m = replicate 144 0; deliv = replicate 12 0; held = 15 }

-- the offer to it, with those in its queue
unfoldable pub sixteenth : List ℕ → AfterOffer
sixteenth s = offer_call fifteen s (laid (waiting 15))

-- ---- the table
pub record Diamonds : Type 0 where
  -- ◆ n 3, cap 3, fresh 0 sends "O" to 1, hex: 01 00 01 00 01 03 03 00 4F 09 00 51 03.
  pub sends_o : (sends (fresh 0 3 3) 1 camera (79 ∷ [])).result.answer ≡ send_answer.Sent 13 0
  pub bytes_o : (sends (fresh 0 3 3) 1 camera (79 ∷ [])).out ≡ thirteen 81 ++ replicate 2035 0
  -- ◆ With 52 for 51: 8.
  pub wrong_sum : (offer_call (fresh 1 3 3) (thirteen 82) empty).result.answer ≡ offer_answer.Refused 8
  -- ◆ n 2: cap 4 is taken;
  pub cap4 : (set_up 0 2 4).answer ≡ set_up_answer.Ready
  -- ◆ cap 5: 1.
  pub cap5 : (set_up 0 2 5).answer ≡ set_up_answer.Refused 1
  -- ◆ n 1: 1.
  pub n1 : (set_up 0 1 1).answer ≡ set_up_answer.Refused 1
  -- ◆ Body 64 goes;
  pub body64 : (sends (fresh 0 3 3) 1 camera (replicate 64 79)).result.answer ≡ send_answer.Sent 76 0
  -- ◆ 65: 7.
  pub body65 : (sends (fresh 0 3 3) 1 camera (replicate 65 79)).result.answer ≡ send_answer.Refused 7
  -- ◆ Destination me: 6.
  pub to_me : (sends (fresh 0 3 3) 0 camera (79 ∷ [])).result.answer ≡ send_answer.Refused 6
  -- ◆ n 3, cap 3. 0 sends to 1, then to 2; 1 sends to 2, then to 0; 2 sends to 1, then to 0. Node 0 delivers the one from 1 (three entries stand),
  pub first : delivers_first.result.answer ≡ gets 1 1 1 0 0 0
  pub three : count (entry delivers_first.result.node.m) ≡ 3
  -- then the one from 2: four, a tie,
  pub second : delivers_second.result.answer ≡ gets 2 1 1 0 24 1
  pub four : count untrimmed ≡ 4
  pub tie : (column_count untrimmed 1 ≡ 2) × (column_count untrimmed 2 ≡ 2)
  -- so an extra to 1 carrying (0,1)=1 and (2,1)=1.
  pub extra : delivers_second.out
      ≡ 2 ∷ 0 ∷ 1 ∷ 2 ∷ 0 ∷ 3 ∷ 3 ∷ 0
      ∷ 0 ∷ 1 ∷ 1 ∷ 0 ∷ 0 ∷ 0
      ∷ 2 ∷ 1 ∷ 1 ∷ 0 ∷ 0 ∷ 0
      ∷ 20 ∷ 0 ∷ 44 ∷ 2
      ∷ replicate 2024 0
  -- Left: (0,1)=2, (0,2)=1, (1,2)=1.
  pub left : delivers_second.result.node.m ≡ rows 0 2 1 0 0 1 0 0 0
  -- ◆ A frame offered again while held: 15;
  pub held : holds_one.result.answer ≡ offer_answer.Held 1 true
  pub again : (then_offers holds_one (thirteen 81)).result.answer ≡ offer_answer.Refused 15
  -- ◆ after delivery: 14.
  pub delivered : delivers_one.result.answer ≡ gets 0 1 1 1 0 0
  pub afterwards : (offer_call delivers_one.result.node (thirteen 81) delivers_one.queue).result.answer ≡ offer_answer.Refused 14
  -- ◆ 15 held, a waiting frame: 16;
  pub waits : (sixteenth (numbered 16)).result.answer ≡ offer_answer.Refused 16
  -- ◆ a deliverable one: held.
  pub deliverable : (sixteenth (numbered 0)).result.answer ≡ offer_answer.Held 16 true
  pub last : (sixteenth (numbered 0)).queue ≡ laid (waiting 15 ++ (numbered 0 ∷ []))
