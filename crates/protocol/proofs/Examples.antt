-- The definitions, run: the mission's story, an extra message issued and delivered, two unrelated messages in opposite orders,
-- and single calls that a plausible and wrong definition would answer otherwise.
use Prim.Native.Nat.{ℕ, zero, suc}
use mathlib.Core.Bool.{Bool, true, false, cond, ◌&&◌}
use mathlib.Core.List.{List, [], ◌∷◌, ◌++◌, map}
use mathlib.Core.Path.{◌≡◌, refl}
use native.Mathlib.Omega.{arith}
use lib.Dec.{eqb}
use lib.ListN.{drop, replicate, length, get_or}
use Rattle.matrix.specs.Matrix.{Matrix, column_count, count, fullest, clear, only, merge}
use Rattle.matrix.specs.Message.{Kind, user, extra, Message, number, user_message}
use Rattle.protocol.specs.Answer.{Answer, refused, sent, taken, nothing, delivered, Outcome}
use Rattle.protocol.specs.Deliver.{deliver}
use Rattle.protocol.specs.Node.{Node, at_limit}
use Rattle.protocol.specs.Offer.{deliverable, offer}
use Rattle.protocol.specs.Order.{HappenedBefore, same_node, message, chain}
use Rattle.protocol.specs.Send.{send}
use Rattle.protocol.specs.Trim.{trim_for}
use Rattle.protocol.specs.World.{sends, offers, delivers, Issue, step, Event, World, start, issued_by, run}

-- what an answer shows, the messages that it issued by their number alone
data Seen : Type 0 where
  refusal : ℕ → Seen
  issues : ℕ → Seen
  holds : (now : ℕ) (ready : Bool) → Seen
  waits : (tried : ℕ) → Seen
  gets : Kind → (from number tried : ℕ) (body : List ℕ) (extras : ℕ) → Seen

-- an answer as it is shown
abbrev seen : Answer → Seen
seen (refused r) = refusal r
seen (sent l) = issues (length l)
seen (taken k b) = holds k b
seen (nothing k) = waits k
seen (delivered a k body l) = gets a.kind a.from a.number k body (length l)

-- the answers of a world's history
abbrev answers : World → List Seen
answers w = map (λ (e : Event). seen e.answer) w.history

-- rows 0 to 2 of a matrix, columns 0 to 2
abbrev corner : Matrix → List ℕ
corner m = m 0 0 ∷ m 0 1 ∷ m 0 2 ∷ m 1 0 ∷ m 1 1 ∷ m 1 2 ∷ m 2 0 ∷ m 2 1 ∷ m 2 2 ∷ []

-- an issue: its kind, from, to, number and entries
record Shown : Type 0 where
  kind : Kind
  from : ℕ
  to : ℕ
  number : ℕ
  entries : List ℕ

-- an issue as it is shown
abbrev shown : Issue → Shown
shown g = record { kind = g.message.kind; from = g.message.from; to = g.message.to; number = number g.message; entries = corner g.message.entries }

-- the story: node 0, the cover, tells the archive, 2, "closing" and the camera, 1, "closed"; the camera reports to the archive
abbrev closing : List ℕ
closing = 99 ∷ 108 ∷ 111 ∷ 115 ∷ 105 ∷ 110 ∷ 103 ∷ []

-- what the camera is told
abbrev closed : List ℕ
closed = 99 ∷ 108 ∷ 111 ∷ 115 ∷ 101 ∷ 100 ∷ []

-- what the camera tells the archive
abbrev report : List ℕ
report = 114 ∷ 101 ∷ 112 ∷ 111 ∷ 114 ∷ 116 ∷ []

-- the steps of the story
story : World
story =
    run 3 (start 3 (λ i. 3))
    (sends 0 2 closing ∷ sends 0 1 closed ∷ offers 1 1 ∷ delivers 1 ∷ sends 1 2 report ∷ offers 2 2 ∷ delivers 2 ∷ offers 2 0
    ∷ delivers 2 ∷ delivers 2 ∷ delivers 2 ∷ [])

-- the report is offered first, waits, and is delivered after "closing"
story-answers : answers story
    ≡ issues 1 ∷ issues 1 ∷ holds 1 true ∷ gets user 0 1 1 closed 0 ∷ issues 1 ∷ holds 1 false ∷ waits 1 ∷ holds 2 true ∷ gets user 0 1 2 closing 0
    ∷ gets user 1 1 1 report 0 ∷ waits 0 ∷ []
unfolding story step send offer deliver at_limit deliverable trim_for fullest count column_count clear only merge
story-answers = refl

-- each message carries the matrix from before its own send; "closed" and the report say that "closing" was sent to the archive
story-log : map shown story.log
    ≡ record { kind = user; from = 0; to = 2; number = 1; entries = 0 ∷ 0 ∷ 0 ∷ 0 ∷ 0 ∷ 0 ∷ 0 ∷ 0 ∷ 0 ∷ [] }
    ∷ record { kind = user; from = 0; to = 1; number = 1; entries = 0 ∷ 0 ∷ 1 ∷ 0 ∷ 0 ∷ 0 ∷ 0 ∷ 0 ∷ 0 ∷ [] }
    ∷ record { kind = user; from = 1; to = 2; number = 1; entries = 0 ∷ 0 ∷ 1 ∷ 0 ∷ 0 ∷ 0 ∷ 0 ∷ 0 ∷ 0 ∷ [] }
    ∷ []
unfolding story step send offer deliver at_limit deliverable trim_for fullest count column_count clear only merge
story-log = refl

-- the send of "closing" happened before the send of the report, by way of "closed"
story-before : HappenedBefore story.log story.history 0 4
unfolding story step send offer deliver at_limit deliverable trim_for fullest count column_count clear only merge
story-before =
    chain 0 1 4 (same_node 0 1 (at 0) (at 1) (omega arith) refl refl refl refl refl)
    (chain 1 3 4 (message 1 3 1 (issue 1) refl refl refl (record { event = at 3; at = refl; here = refl; names = refl }))
    (same_node 3 4 (at 3) (at 4) (omega arith) refl refl refl refl refl))
  where
    at : ℕ → Event
    at t = get_or story.history t (record { node = 0; step = delivers 0; answer = nothing 0 })

    issue : ℕ → Issue
    issue p = get_or story.log p (issued_by 0 (user_message 0 0 0 0 (λ x y. 0) []))

-- n 3, cap 3: after its first delivery three entries stand at node 0; after its second there are four, a tie, and an extra message goes to 1
tie : World
tie =
    run 3 (start 3 (λ i. 3))
    (sends 0 1 [] ∷ sends 0 2 [] ∷ sends 1 2 [] ∷ sends 1 0 [] ∷ sends 2 1 [] ∷ sends 2 0 [] ∷ offers 0 3 ∷ offers 0 5 ∷ delivers 0 ∷ delivers 0 ∷ [])

-- the answers: the last delivery issues one extra message
tie-answers : answers tie
    ≡ issues 1 ∷ issues 1 ∷ issues 1 ∷ issues 1 ∷ issues 1 ∷ issues 1 ∷ holds 1 true ∷ holds 2 true ∷ gets user 1 1 1 [] 0 ∷ gets user 2 1 1 [] 1 ∷ []
unfolding tie step send offer deliver at_limit deliverable trim_for fullest count column_count clear only merge
tie-answers = refl

-- the extra message carries (0,1) and (2,1), and has number 2
tie-extra : map shown (drop 6 tie.log) ≡ record { kind = extra; from = 0; to = 1; number = 2; entries = 0 ∷ 1 ∷ 0 ∷ 0 ∷ 0 ∷ 0 ∷ 0 ∷ 1 ∷ 0 ∷ [] } ∷ []
unfolding tie step send offer deliver at_limit deliverable trim_for fullest count column_count clear only merge
tie-extra = refl

-- what is left at node 0
tie-left : corner (tie.nodes 0).matrix ≡ 0 ∷ 2 ∷ 1 ∷ 0 ∷ 0 ∷ 1 ∷ 0 ∷ 0 ∷ 0 ∷ []
unfolding tie step send offer deliver at_limit deliverable trim_for fullest count column_count clear only merge
tie-left = refl

-- the extra message is offered at 1, waits for what it counts, and is delivered: it changes the vector alone; the next message to 1 has the next number
extra-delivered : World
extra-delivered = run 3 tie (offers 1 6 ∷ delivers 1 ∷ offers 1 0 ∷ offers 1 4 ∷ delivers 1 ∷ delivers 1 ∷ delivers 1 ∷ sends 0 1 [] ∷ [])

-- it waits until both messages that it counts are delivered
extra-answers : drop 10 (answers extra-delivered)
    ≡ holds 1 false ∷ waits 1 ∷ holds 2 true ∷ holds 3 true ∷ gets user 0 1 2 [] 0 ∷ gets user 2 1 2 [] 0 ∷ gets extra 0 2 1 [] 0 ∷ issues 1 ∷ []
unfolding extra-delivered tie step send offer deliver at_limit deliverable trim_for fullest count column_count clear only merge
extra-answers = refl

-- node 1 afterwards: its matrix, and its vector
extra-node : corner (extra-delivered.nodes 1).matrix ++ map (extra-delivered.nodes 1).deliv (0 ∷ 1 ∷ 2 ∷ [])
    ≡ 0 ∷ 0 ∷ 0 ∷ 1 ∷ 0 ∷ 1 ∷ 0 ∷ 0 ∷ 0 ∷ 2 ∷ 0 ∷ 1 ∷ []
unfolding extra-delivered tie step send offer deliver at_limit deliverable trim_for fullest count column_count clear only merge
extra-node = refl

-- the column of a sent message's destination is cleared behind it, but for the sender's count
extra-next : map shown (drop 7 extra-delivered.log)
    ≡ record { kind = user; from = 0; to = 1; number = 3; entries = 0 ∷ 2 ∷ 1 ∷ 0 ∷ 0 ∷ 1 ∷ 0 ∷ 0 ∷ 0 ∷ [] } ∷ []
unfolding extra-delivered tie step send offer deliver at_limit deliverable trim_for fullest count column_count clear only merge
extra-next = refl

-- a send to 2 clears column 2, but for the sender's count
send_clears : corner ((run 3 tie (sends 0 2 [] ∷ [])).nodes 0).matrix ≡ 0 ∷ 2 ∷ 2 ∷ 0 ∷ 0 ∷ 0 ∷ 0 ∷ 0 ∷ 0 ∷ []
unfolding tie step send offer deliver at_limit deliverable trim_for fullest count column_count clear only merge
send_clears = refl

-- n 4, cap 4: four entries stand at node 0, in two columns; its send to 3 makes them five, a tie, and an extra message goes to 1
one-extra : World
one-extra =
    run 4 (start 4 (λ i. 4))
    (sends 0 1 [] ∷ sends 0 2 [] ∷ sends 3 1 [] ∷ sends 3 2 [] ∷ sends 3 0 [] ∷ offers 0 4 ∷ delivers 0 ∷ sends 0 3 [] ∷ [])

-- so the one extra message of a send is issued
one-extra-answers : drop 5 (answers one-extra) ≡ holds 1 true ∷ gets user 3 1 1 [] 0 ∷ issues 2 ∷ []
unfolding one-extra step send offer deliver at_limit deliverable trim_for fullest count column_count clear only merge
one-extra-answers = refl

-- n 5, cap 5 at node 0 and 25 at the others: 0 knows of three messages to 4, and 4 of three to each of 1, 2 and 3, which it tells 0
full-columns : World
full-columns =
    run 5 (start 5 (λ i. cond (eqb i 0) 5 25))
    (sends 1 4 [] ∷ sends 1 0 [] ∷ sends 1 2 [] ∷ sends 1 3 [] ∷ sends 1 4 []
    ∷ sends 2 4 [] ∷ sends 2 0 [] ∷ sends 2 1 [] ∷ sends 2 3 [] ∷ sends 2 4 []
    ∷ sends 3 4 [] ∷ sends 3 0 [] ∷ sends 3 1 [] ∷ sends 3 2 [] ∷ sends 3 4 []
    ∷ sends 4 1 [] ∷ sends 4 2 [] ∷ sends 4 3 []
    ∷ offers 4 0 ∷ offers 4 4 ∷ offers 4 5 ∷ offers 4 9 ∷ offers 4 10 ∷ offers 4 14
    ∷ delivers 4 ∷ delivers 4 ∷ delivers 4 ∷ delivers 4 ∷ delivers 4 ∷ delivers 4 ∷ sends 4 0 []
    ∷ offers 0 1 ∷ offers 0 6 ∷ offers 0 11 ∷ delivers 0 ∷ delivers 0 ∷ delivers 0 ∷ offers 0 18 ∷ delivers 0 ∷ [])

-- so the n - 1 extra messages of a delivery are issued, one to each other node
full-columns-answers : drop 37 (answers full-columns) ≡ holds 1 true ∷ gets user 4 1 1 [] 4 ∷ []
unfolding full-columns step send offer deliver at_limit deliverable trim_for fullest count column_count clear only merge
full-columns-answers = refl

-- 0 tells 2 and 3 of one thing, 1 of another: 2 hears 0 first, 3 hears 1 first, and each in the order in which they were held
opposite : World
opposite =
    run 4 (start 4 (λ i. 4))
    (sends 0 2 [] ∷ sends 0 3 [] ∷ sends 1 2 [] ∷ sends 1 3 [] ∷ offers 2 0 ∷ offers 2 2 ∷ delivers 2 ∷ delivers 2 ∷ offers 3 3
    ∷ offers 3 1 ∷ delivers 3 ∷ delivers 3 ∷ [])

-- the answers at 2 and at 3
opposite-answers : drop 4 (answers opposite)
    ≡ holds 1 true ∷ holds 2 true ∷ gets user 0 1 1 [] 0 ∷ gets user 1 1 1 [] 0 ∷ holds 1 true ∷ holds 2 true ∷ gets user 1 1 1 [] 0 ∷ gets user 0 1 1 [] 0 ∷ []
unfolding opposite step send offer deliver at_limit deliverable trim_for fullest count column_count clear only merge
opposite-answers = refl

-- single calls at node 0 of two: a message from 1 that is due, one that waits, and queues of k that wait
abbrev due : Message
due = user_message 1 0 2 4 (λ x y. 0) []

-- number k + 2 from 1
abbrev waiting : ℕ → Message
waiting k = user_message 1 0 2 4 (λ x y. cond (eqb x 1 && eqb y 0) (suc k) 0) []

-- a queue of k that wait
abbrev waiting_below : ℕ → List Message
waiting_below zero = []
waiting_below (suc k) = waiting k ∷ waiting_below k

-- node 0 of two, with M[0,1], DELIV[1] and a queue
abbrev node : (row deliv : ℕ) → List Message → Node
node row deliv held = record { me = 0; n = 2; cap = 4; matrix = λ x y. cond (eqb x 0 && eqb y 1) row 0; deliv = λ x. cond (eqb x 1) deliv 0; held = held }

-- entries that claim one message from 0 to 1
abbrev claims : Matrix
claims x y = cond (eqb x 0 && eqb y 1) 1 0

-- refusal 16, and 15 before it
room_calls : map (λ (r : Outcome). seen r.answer)
    (offer (node 0 0 []) (waiting 20) ∷ offer (node 0 0 (waiting_below 14)) (waiting 20) ∷ offer (node 0 0 (waiting_below 15)) (waiting 20)
    ∷ offer (node 0 0 (waiting_below 15)) due ∷ offer (node 0 0 (waiting_below 16)) due
    ∷ offer (node 0 0 (waiting_below 16)) (waiting 3) ∷ deliver (node 0 0 (waiting_below 15 ++ (due ∷ []))) ∷ deliver (node 0 0 (waiting_below 16)) ∷ [])
    ≡ holds 1 false ∷ holds 15 false ∷ refusal 16 ∷ holds 16 true ∷ refusal 16 ∷ refusal 15 ∷ gets user 1 1 16 [] 0 ∷ waits 16 ∷ []
unfolding step send offer deliver at_limit deliverable trim_for fullest count column_count clear only merge
room_calls = refl

-- refusals 5, 6, 7, 12, 13 and 14, each on both sides of its bound, and the first that is met
other_calls : map (λ (r : Outcome). seen r.answer)
    (send (node 1000000000 0 []) 0 [] ∷ send (node 0 1000000000 []) 1 [] ∷ send (node 999999999 999999999 []) 1 [] ∷ deliver (node 1000000000 0 (due ∷ []))
    ∷ send (node 0 0 []) 0 [] ∷ send (node 0 0 []) 2 (replicate 65 7)
    ∷ send (node 0 0 []) 1 (replicate 65 7) ∷ send (node 0 0 []) 1 (replicate 64 7) ∷ offer (node 0 0 []) (user_message 1 1 2 4 claims [])
    ∷ offer (node 0 1 []) (user_message 1 0 2 4 claims [])
    ∷ offer (node 1 1 []) (user_message 1 0 2 4 claims []) ∷ offer (node 1 0 []) (user_message 1 0 2 4 claims [])
    ∷ offer (node 0 1 (due ∷ [])) due ∷ offer (node 0 0 (due ∷ [])) due ∷ [])
    ≡ refusal 5 ∷ refusal 5 ∷ issues 1 ∷ refusal 5 ∷ refusal 6 ∷ refusal 6 ∷ refusal 7 ∷ issues 1 ∷ refusal 12 ∷ refusal 13 ∷ refusal 14
    ∷ holds 1 true ∷ refusal 14 ∷ refusal 15 ∷ []
unfolding step send offer deliver at_limit deliverable trim_for fullest count column_count clear only merge
other_calls = refl
