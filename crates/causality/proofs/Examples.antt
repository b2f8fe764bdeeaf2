-- The definitions, run on bytes: the mission's story with what the theorem says of it,
-- an extra frame issued and delivered, two messages in opposite orders, and refusals.
use Prim.Native.Nat.{◌<◌, suc, zero, ℕ}
use mathlib.Core.Bool.{Bool, cond, false, true}
use mathlib.Core.List.{List, [], ◌∷◌, map}
use mathlib.Core.Path.{◌≡◌, refl}
use native.Mathlib.Omega.{arith}
use lib.Dec.{eqb}
use lib.ListN.{drop, replicate}
use Rattle.arrival.specs.View.{arrival_refusal}
use Rattle.causality.proofs.Demand3.{ceiling, demand3, rights_kept}
use Rattle.causality.specs.Ceiling.{CeilingFor, extras, users_delivered, users_issued}
use Rattle.causality.specs.Demand3.{Answer, BodiesOfBytes, DeliveredAt, Demand3For, Event, HappenedBefore, Issue, Step, World, chain, cut_for}
use Rattle.causality.specs.Demand3.{delivered, delivers, issued_by, message, offered, offers, run, same_node, sends, sent, start, step, sum_over}
use Rattle.causality.specs.Rights.{RightsFor, SentBy}
use Rattle.frame.specs.Entries.{entries_bytes, entries_from, entries_of, entry_at, entry_bytes, listed, matrix_of, placed}
use Rattle.frame.specs.Frame.{decode, encode, front, header_of}
use Rattle.frame.specs.Frames.{frames_of}
use Rattle.frame.specs.Header.{header, header_bytes, own_length}
use Rattle.frame.specs.Refusals.{precedes, each_ok, entry_ok, frame_refusal, rising, rising_after, wrong_address}
use Rattle.frame.specs.Refusals.{wrong_body, wrong_content, wrong_entries, wrong_kind, wrong_trailer}
use Rattle.holdback.specs.WrongQueue.{held_refused, same_bytes, some_alike, some_refused, wrong_queue}
use Rattle.holdback.specs.Slots.{frame_in, held_frames, padded, slots, without, zeros}
use Rattle.matrix.specs.Array.{entry, flat}
use Rattle.matrix.specs.Matrix.{clear, column_count, count, fullest, merge, only}
use Rattle.matrix.specs.Message.{EachInRange, number}
use Rattle.node.specs.Calls.{deliver_call, offer_call, send_call}
use Rattle.node.specs.Sizes.{out_size}
use Rattle.node.specs.Record.{broken_record}
use Rattle.rules.specs.Rules.{broken_rules, in_range, within_limit, zero_column, zero_diagonal, zero_from}
use Rattle.node.specs.SetUp.{set_up}
use Rattle.protocol.specs.Node.{at_limit}
use Rattle.protocol.specs.Offer.{deliverable}
use Rattle.protocol.specs.Trim.{trim_for}
use Rattle.rights.specs.Ours.{ours}
use Rattle.rights.specs.Rights.{camera, lacks_right, mover, panel}
use Rattle.rights.specs.Topics.{group}
use Rattle.wire.proofs.Bytes.{small_bytes}
use Rattle.wire.specs.Bytes.{le16, le32, u16_at, u32_at}
use Rattle.wire.specs.Trailer.{checksum, count_back, has_trailer, sealed, sum_back, trailer}
use Rattle.node.specs.SendAnswer as send
use Rattle.node.specs.OfferAnswer as offer
use Rattle.node.specs.DeliverAnswer as deliver
use Rattle.protocol.specs.Send as protocol_send
use Rattle.protocol.specs.Offer as protocol_offer
use Rattle.protocol.specs.Deliver as protocol_deliver
use Rattle.wire.specs.Bytes as bytes
use Rattle.wire.specs.Trailer as trailers

-- lent outputs
abbrev out : List ℕ
out = replicate out_size 0

abbrev text : List ℕ
text = replicate 64 0

-- the archive, node 2, has memory for a cap of 9, the others have 3
abbrev pub caps : ℕ → ℕ
caps i = cond (eqb i 2) 9 3

-- the world of a list of three nodes with these caps, its answers, and the frames that it issued
abbrev pub after : List Step → World
after l = run 3 (start 3 caps) l

abbrev answers : List Step → List Answer
answers l = map (λ (e : Event). e.answer) (after l).history

abbrev frames : List Step → List (List ℕ)
frames l = map (λ (g : Issue). g.frame) (after l).log

-- a send's answer, an offer's, and a deliver's
abbrev wrote : ℕ → Answer
wrote bytes = sent (send.Sent bytes 0)

abbrev holds : ℕ → Bool → Answer
holds count ready = offered (offer.Held count ready)

abbrev waits : ℕ → Answer
waits tried = delivered (deliver.Nothing tried)

abbrev gets : (kind from number tried body bytes extras : ℕ) → Answer
gets kind from number tried body bytes extras =
    delivered (deliver.Frame (record { kind = kind; from = from; number = number; tried = tried; body = body; bytes = bytes; extras = extras }))

-- ---- the story: node 0, the cover, tells the archive, 2, "closing" and the camera, 1, "closed"; the camera reports to the archive
-- each body begins with its topic: 1 is motion, 40 exposure
abbrev closing : List ℕ
closing = 1 ∷ 99 ∷ 108 ∷ 111 ∷ 115 ∷ 105 ∷ 110 ∷ 103 ∷ []

abbrev closed : List ℕ
closed = 1 ∷ 99 ∷ 108 ∷ 111 ∷ 115 ∷ 101 ∷ 100 ∷ []

abbrev report : List ℕ
report = 40 ∷ 114 ∷ 101 ∷ 112 ∷ 111 ∷ 114 ∷ 116 ∷ []

unfoldable pub story : List Step
story =
    sends 0 2 mover closing out
    ∷ sends 0 1 mover closed out
    ∷ offers 1 1
    ∷ delivers 1 out text
    ∷ sends 1 2 camera report out
    ∷ offers 2 2
    ∷ delivers 2 out text
    ∷ offers 2 0
    ∷ delivers 2 out text
    ∷ delivers 2 out text
    ∷ []

-- its frames: "closed" and the report carry that "closing" was sent to the archive
abbrev closing_frame : List ℕ
closing_frame = 1 ∷ 0 ∷ 2 ∷ 0 ∷ 8 ∷ 3 ∷ 3 ∷ 0 ∷ 1 ∷ 99 ∷ 108 ∷ 111 ∷ 115 ∷ 105 ∷ 110 ∷ 103 ∷ 16 ∷ 0 ∷ 156 ∷ 39 ∷ []

abbrev closed_frame : List ℕ
closed_frame = 1 ∷ 0 ∷ 1 ∷ 1 ∷ 7 ∷ 3 ∷ 3 ∷ 0 ∷ 0 ∷ 2 ∷ 1 ∷ 0 ∷ 0 ∷ 0 ∷ 1 ∷ 99 ∷ 108 ∷ 111 ∷ 115 ∷ 101 ∷ 100 ∷ 21 ∷ 0 ∷ 25 ∷ 48 ∷ []

abbrev report_frame : List ℕ
report_frame = 1 ∷ 1 ∷ 2 ∷ 1 ∷ 7 ∷ 3 ∷ 3 ∷ 0 ∷ 0 ∷ 2 ∷ 1 ∷ 0 ∷ 0 ∷ 0 ∷ 40 ∷ 114 ∷ 101 ∷ 112 ∷ 111 ∷ 114 ∷ 116 ∷ 21 ∷ 0 ∷ 250 ∷ 52 ∷ []

abbrev story_frames : List Issue
story_frames = issued_by 0 closing_frame ∷ issued_by 1 closed_frame ∷ issued_by 4 report_frame ∷ []

pub story-frames : (after story).log ≡ story_frames
unfolding story step set_up in_range cut_for send_call offer_call deliver_call broken_record broken_rules zero_diagonal zero_column within_limit zero_from count column_count
    flat entry at_limit protocol_send.send protocol_offer.offer protocol_deliver.deliver deliverable trim_for fullest clear only merge frames_of encode sealed front
    header_bytes header_of header own_length entries_bytes entry_bytes entries_of listed placed entries_from entry_at matrix_of le16 le32 u16_at u32_at bytes.put trailer
    trailers.counted checksum decode wrong_queue same_bytes held_refused some_refused some_alike arrival_refusal frame_refusal wrong_trailer has_trailer count_back
    sum_back wrong_kind wrong_address wrong_content wrong_body wrong_entries each_ok entry_ok precedes rising rising_after zeros padded slots frame_in held_frames without ours lacks_right group
story-frames = refl

-- a step that was made at node i
abbrev made : ℕ → Step → Answer → Event
made i s a = record { node = i; step = s; answer = a }

-- its steps: the report is offered first, waits, and is delivered after "closing"
abbrev story_events : List Event
story_events =
    made 0 (sends 0 2 mover closing out) (wrote 20)
    ∷ made 0 (sends 0 1 mover closed out) (wrote 25)
    ∷ made 1 (offers 1 1) (holds 1 true)
    ∷ made 1 (delivers 1 out text) (gets 1 0 1 1 7 0 0)
    ∷ made 1 (sends 1 2 camera report out) (wrote 25)
    ∷ made 2 (offers 2 2) (holds 1 false)
    ∷ made 2 (delivers 2 out text) (waits 1)
    ∷ made 2 (offers 2 0) (holds 2 true)
    ∷ made 2 (delivers 2 out text) (gets 1 0 1 2 8 0 0)
    ∷ made 2 (delivers 2 out text) (gets 1 1 1 1 7 0 0)
    ∷ []

pub story_events_lem : (after story).history ≡ story_events
unfolding story step set_up in_range cut_for send_call offer_call deliver_call broken_record broken_rules zero_diagonal zero_column within_limit zero_from count column_count
    flat entry at_limit protocol_send.send protocol_offer.offer protocol_deliver.deliver deliverable trim_for fullest clear only merge frames_of encode sealed front
    header_bytes header_of header own_length entries_bytes entry_bytes entries_of listed placed entries_from entry_at matrix_of le16 le32 u16_at u32_at bytes.put trailer
    trailers.counted checksum decode wrong_queue same_bytes held_refused some_refused some_alike arrival_refusal frame_refusal wrong_trailer has_trailer count_back
    sum_back wrong_kind wrong_address wrong_content wrong_body wrong_entries each_ok entry_ok precedes rising rising_after zeros padded slots frame_in held_frames without ours lacks_right group
story_events_lem = refl

-- the send of "closing" happened before the send of the report, by way of "closed"
before-report : HappenedBefore story_frames story_events 0 4
unfolding header decode entries_from entry_at u32_at matrix_of
before-report =
    chain 0 1 4 (same_node 0 1 (made 0 (sends 0 2 mover closing out) (wrote 20)) (made 0 (sends 0 1 mover closed out) (wrote 25)) (omega arith) refl refl refl refl refl)
    (chain 1 3 4
    (message 1 3 1 (issued_by 1 closed_frame) refl refl refl
    (record { event = made 1 (delivers 1 out text) (gets 1 0 1 1 7 0 0); at = refl; here = refl; names = refl }))
    (same_node 3 4 (made 1 (delivers 1 out text) (gets 1 0 1 1 7 0 0)) (made 1 (sends 1 2 camera report out) (wrote 25)) (omega arith) refl refl refl refl refl))

pub story-before : HappenedBefore (after story).log (after story).history 0 4
story-before = rw (story-frames, story_events_lem) before-report

-- the theorem speaks of it
pub range : EachInRange 3 caps
range zero h = record { at_least2 = omega arith; at_most12 = omega arith; cap_from = omega arith; cap_to = omega arith }
range (suc zero) h = record { at_least2 = omega arith; at_most12 = omega arith; cap_from = omega arith; cap_to = omega arith }
range (suc (suc zero)) h = record { at_least2 = omega arith; at_most12 = omega arith; cap_from = omega arith; cap_to = omega arith }
range (suc (suc (suc i))) h = absurd (omega arith)

pub story-bodies : BodiesOfBytes story
unfolding story
story-bodies = (small_bytes closing (omega arith), (small_bytes closed (omega arith), (small_bytes report (omega arith), tt)))

pub story-demand3 : Demand3For 3 caps (after story)
unfolding story
story-demand3 = demand3 3 caps range story story-bodies (omega arith)

-- and says that "closing", which came before the report, is delivered before it
pub story-order : (t : ℕ) × (t < 9) × DeliveredAt (after story).history t closing_frame
unfolding header decode entries_from entry_at u32_at matrix_of
story-order =
    story-demand3.causal 0 2 9 (issued_by 0 closing_frame) (issued_by 4 report_frame) (rw story-frames refl) (rw story-frames refl) refl refl refl story-before
    (record { event = made 2 (delivers 2 out text) (gets 1 1 1 1 7 0 0); at = rw story_events_lem refl; here = refl; names = refl })

-- who may say what: "closing" is of the motion group, so whoever sent it did so as a mover
pub story-rights : RightsFor 3 (after story)
unfolding story
story-rights = rights_kept 3 caps range story story-bodies (omega arith)

pub story-mover : (class : ℕ) → SentBy (after story) (issued_by 0 closing_frame) class → class ≡ mover
unfolding header decode entries_from entry_at u32_at matrix_of group
story-mover class sent_by = story-rights.motion 0 class (issued_by 0 closing_frame) (rw story-frames refl) refl sent_by refl

-- ---- an extra frame: after its second delivery four entries stand at node 0, a tie, and an extra frame goes to node 1, which delivers it
unfoldable pub tie : List Step
tie =
    sends 0 1 mover [] out
    ∷ sends 0 2 mover [] out
    ∷ sends 1 2 mover [] out
    ∷ sends 1 0 mover [] out
    ∷ sends 2 1 mover [] out
    ∷ sends 2 0 mover [] out
    ∷ offers 0 3
    ∷ delivers 0 out text
    ∷ offers 0 5
    ∷ delivers 0 out text
    ∷ offers 1 0
    ∷ delivers 1 out text
    ∷ offers 1 4
    ∷ delivers 1 out text
    ∷ offers 1 6
    ∷ delivers 1 out text
    ∷ []

-- the second delivery at node 0 writes an extra frame of 24 bytes; node 1 delivers it third, kind 2, number 2
tie-answers : answers tie
    ≡ wrote 12 ∷ wrote 18 ∷ wrote 12 ∷ wrote 18 ∷ wrote 12 ∷ wrote 18
    ∷ holds 1 true ∷ gets 1 1 1 1 0 0 0 ∷ holds 1 true ∷ gets 1 2 1 1 0 24 1
    ∷ holds 1 true ∷ gets 1 0 1 1 0 0 0 ∷ holds 1 true ∷ gets 1 2 1 1 0 0 0 ∷ holds 1 true ∷ gets 2 0 2 1 0 0 0 ∷ []
unfolding tie step set_up in_range cut_for send_call offer_call deliver_call broken_record broken_rules zero_diagonal zero_column within_limit zero_from count column_count
    flat entry at_limit protocol_send.send protocol_offer.offer protocol_deliver.deliver deliverable trim_for fullest clear only merge frames_of encode sealed front
    header_bytes header_of header own_length entries_bytes entry_bytes entries_of listed placed entries_from entry_at matrix_of le16 le32 u16_at u32_at bytes.put trailer
    trailers.counted checksum decode wrong_queue same_bytes held_refused some_refused some_alike arrival_refusal frame_refusal wrong_trailer has_trailer count_back
    sum_back wrong_kind wrong_address wrong_content wrong_body wrong_entries each_ok entry_ok precedes rising rising_after zeros padded slots frame_in held_frames without ours lacks_right group
tie-answers = refl

-- it carries (0,1) = 1 and (2,1) = 1
tie-extra : drop 6 (frames tie) ≡ (2 ∷ 0 ∷ 1 ∷ 2 ∷ 0 ∷ 3 ∷ 3 ∷ 0 ∷ 0 ∷ 1 ∷ 1 ∷ 0 ∷ 0 ∷ 0 ∷ 2 ∷ 1 ∷ 1 ∷ 0 ∷ 0 ∷ 0 ∷ 20 ∷ 0 ∷ 44 ∷ 2 ∷ []) ∷ []
unfolding tie step set_up in_range cut_for send_call offer_call deliver_call broken_record broken_rules zero_diagonal zero_column within_limit zero_from count column_count
    flat entry at_limit protocol_send.send protocol_offer.offer protocol_deliver.deliver deliverable trim_for fullest clear only merge frames_of encode sealed front
    header_bytes header_of header own_length entries_bytes entry_bytes entries_of listed placed entries_from entry_at matrix_of le16 le32 u16_at u32_at bytes.put trailer
    trailers.counted checksum decode wrong_queue same_bytes held_refused some_refused some_alike arrival_refusal frame_refusal wrong_trailer has_trailer count_back
    sum_back wrong_kind wrong_address wrong_content wrong_body wrong_entries each_ok entry_ok precedes rising rising_after zeros padded slots frame_in held_frames without ours lacks_right group
tie-extra = refl

-- the ceiling speaks of it: one extra frame, where six user frames issued and four delivered allow 6 + 2 * 4
tie-bodies : BodiesOfBytes tie
unfolding tie
tie-bodies = let none = small_bytes [] tt in (none, (none, (none, (none, (none, (none, tt))))))

pub tie-ceiling : CeilingFor 3 caps (after tie)
unfolding tie
tie-ceiling = ceiling 3 caps range tie tie-bodies (omega arith)

tie_sums : map (λ (f : Answer → ℕ). sum_over f (after tie).history) (extras ∷ users_issued ∷ users_delivered ∷ []) ≡ 1 ∷ 6 ∷ 4 ∷ []
unfolding tie step set_up in_range cut_for send_call offer_call deliver_call broken_record broken_rules zero_diagonal zero_column within_limit zero_from count column_count
    flat entry at_limit protocol_send.send protocol_offer.offer protocol_deliver.deliver deliverable trim_for fullest clear only merge frames_of encode sealed front
    header_bytes header_of header own_length entries_bytes entry_bytes entries_of listed placed entries_from entry_at matrix_of le16 le32 u16_at u32_at bytes.put trailer
    trailers.counted checksum decode wrong_queue same_bytes held_refused some_refused some_alike arrival_refusal frame_refusal wrong_trailer has_trailer count_back
    sum_back wrong_kind wrong_address wrong_content wrong_body wrong_entries each_ok entry_ok precedes rising rising_after zeros padded slots frame_in held_frames without ours lacks_right group
tie_sums = refl

-- ---- no common order is imposed: of two unrelated senders, 0 and 1, node 2 delivers 0 first, and node 3 delivers 1 first
unfoldable pub opposite : List Step
opposite =
    sends 0 2 mover [] out
    ∷ sends 0 3 mover [] out
    ∷ sends 1 2 mover [] out
    ∷ sends 1 3 mover [] out
    ∷ offers 2 0
    ∷ delivers 2 out text
    ∷ offers 2 2
    ∷ delivers 2 out text
    ∷ offers 3 3
    ∷ delivers 3 out text
    ∷ offers 3 1
    ∷ delivers 3 out text
    ∷ []

opposite-answers : map (λ (e : Event). e.answer) (run 4 (start 4 (λ i. 4)) opposite).history
    ≡ wrote 12 ∷ wrote 18 ∷ wrote 12 ∷ wrote 18
    ∷ holds 1 true ∷ gets 1 0 1 1 0 0 0 ∷ holds 1 true ∷ gets 1 1 1 1 0 0 0
    ∷ holds 1 true ∷ gets 1 1 1 1 0 0 0 ∷ holds 1 true ∷ gets 1 0 1 1 0 0 0 ∷ []
unfolding opposite step set_up in_range cut_for send_call offer_call deliver_call broken_record broken_rules zero_diagonal zero_column within_limit zero_from count
    column_count flat entry at_limit protocol_send.send protocol_offer.offer protocol_deliver.deliver deliverable trim_for fullest clear only merge frames_of encode
    sealed front header_bytes header_of header own_length entries_bytes entry_bytes entries_of listed placed entries_from entry_at matrix_of le16 le32 u16_at u32_at
    bytes.put trailer trailers.counted checksum decode wrong_queue same_bytes held_refused some_refused some_alike arrival_refusal frame_refusal wrong_trailer
    has_trailer count_back sum_back wrong_kind wrong_address wrong_content wrong_body wrong_entries each_ok entry_ok precedes rising rising_after zeros padded slots
    frame_in held_frames without ours lacks_right group
opposite-answers = refl

-- ---- calls that are refused, and what is no step: a short output, a body of 65 bytes and a destination that is me, both by a class without the right;
-- a class that is none, a panel's motion, a mover's exposure; a frame at a wrong node, held already, delivered before; a node that is not there, an issue not made
unfoldable pub refusals : List Step
refusals =
    sends 0 1 mover [] (replicate 2047 0)
    ∷ sends 0 1 panel (replicate 65 0) out
    ∷ sends 0 0 4 [] out
    ∷ sends 0 1 4 [] out
    ∷ sends 0 1 panel (31 ∷ []) out
    ∷ sends 0 1 mover (32 ∷ []) out
    ∷ sends 0 1 mover [] out
    ∷ offers 2 0
    ∷ offers 1 0
    ∷ offers 1 0
    ∷ delivers 1 out []
    ∷ delivers 1 out text
    ∷ offers 1 0
    ∷ sends 3 1 mover [] out
    ∷ offers 1 1
    ∷ []

refusals-answers : answers refusals
    ≡ sent (send.Refused 3) ∷ sent (send.Refused 7) ∷ sent (send.Refused 6) ∷ sent (send.Refused 21) ∷ sent (send.Refused 21) ∷ sent (send.Refused 21) ∷ wrote 12
    ∷ offered (offer.Refused 12) ∷ holds 1 true ∷ offered (offer.Refused 15) ∷ delivered (deliver.Refused 3)
    ∷ gets 1 0 1 1 0 0 0 ∷ offered (offer.Refused 14) ∷ []
unfolding refusals step set_up in_range cut_for send_call offer_call deliver_call broken_record broken_rules zero_diagonal zero_column within_limit zero_from count
    column_count flat entry at_limit protocol_send.send protocol_offer.offer protocol_deliver.deliver deliverable trim_for fullest clear only merge frames_of encode
    sealed front header_bytes header_of header own_length entries_bytes entry_bytes entries_of listed placed entries_from entry_at matrix_of le16 le32 u16_at u32_at
    bytes.put trailer trailers.counted checksum decode wrong_queue same_bytes held_refused some_refused some_alike arrival_refusal frame_refusal wrong_trailer
    has_trailer count_back sum_back wrong_kind wrong_address wrong_content wrong_body wrong_entries each_ok entry_ok precedes rising rising_after zeros padded slots
    frame_in held_frames without ours lacks_right group
refusals-answers = refl
