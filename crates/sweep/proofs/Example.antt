-- Two small loads, computed by the checker on the definition. Assumes nothing.
use Prim.Native.Nat.{ℕ}
use mathlib.Core.List.{List, [], ◌∷◌, ◌++◌}
use mathlib.Core.Path.{◌≡◌, refl}
use Rattle.arrival.specs.View.{arrival_refusal}
use Rattle.frame.specs.Entries.{entries_bytes, entries_from, entries_of, entry_at, entry_bytes, listed, matrix_of, placed}
use Rattle.frame.specs.Frame.{decode, encode, front, header_of}
use Rattle.frame.specs.Frames.{frames_of}
use Rattle.frame.specs.Header.{header, header_bytes, own_length}
use Rattle.frame.specs.Refusals.{precedes, each_ok, entry_ok, frame_refusal, rising, rising_after, wrong_address}
use Rattle.frame.specs.Refusals.{wrong_body, wrong_content, wrong_entries, wrong_kind, wrong_trailer}
use Rattle.holdback.specs.WrongQueue.{held_refused, same_bytes, some_alike, some_refused, wrong_queue}
use Rattle.holdback.specs.Slots.{frame_in, held_frames, padded, slots, without, zeros}
use Rattle.matrix.specs.Array.{entry, flat}
use Rattle.matrix.specs.Matrix.{clear, column_count, count, fullest, merge, only}
use Rattle.rights.specs.Ours.{ours}
use Rattle.rights.specs.Rights.{lacks_right}
use Rattle.rights.specs.Topics.{group}
use Rattle.node.specs.Calls.{deliver_call, offer_call, send_call}
use Rattle.node.specs.Record.{broken_record}
use Rattle.rules.specs.Rules.{broken_rules, in_range, within_limit, zero_column, zero_diagonal, zero_from}
use Rattle.node.specs.SetUp.{set_up}
use Rattle.protocol.specs.Node.{at_limit}
use Rattle.protocol.specs.Offer.{deliverable}
use Rattle.protocol.specs.Trim.{trim_for}
use Rattle.wire.specs.Bytes.{le16, le32, u16_at, u32_at}
use Rattle.wire.specs.Trailer.{checksum, count_back, has_trailer, sealed, sum_back, trailer}
use Rattle.protocol.specs.Send as protocol_send
use Rattle.protocol.specs.Offer as protocol_offer
use Rattle.protocol.specs.Deliver as protocol_deliver
use Rattle.wire.specs.Bytes as bytes
use Rattle.wire.specs.Trailer as trailers
use Rattle.causality.specs.Demand3.{cut_for}
use Rattle.text.specs.Pieces.{split, grown}
use Rattle.text.specs.Fields.{value, continued, is_digit}
use Rattle.text.specs.Print.{line_end, number_row, spaced, decimal, digits}
use Rattle.counters.specs.Counted.{up_to32, share, no_counters, with_extras, counted_send, counted_offer, counted_delivery, counted_nothing}
use Rattle.world.specs.Steps.{send_step, offer_step, deliver_step, named, issue_from}
use Rattle.counting.specs.State.{counted_by}
use Rattle.request.specs.Request.{of_fields, of_lines, of_numbers, request}
use Rattle.request.specs.Refusal18.{out_of_range, wrong_draws, wrong_n, wrong_seed}
use Rattle.xorshift.specs.Xorshift.{next}
use Rattle.draws.specs.Draws.{delivery_of, offer_of, send_of, step_of}
use Rattle.sweep.specs.Load.{after_draws, answered, cap_rows, made, output}

-- n 2, seed 1, 14 draws. Under each cap they are four offers while nothing is issued, with a delivery of nothing among them; a send from 0 to 1, its offer and
-- two more of it (15); a send from 1 to 0; a delivery of nothing at 0; the delivery of the first frame at 1; one more offer of it (14); and the offer of the
-- second frame
abbrev pub input : List ℕ
input = 50 ∷ 32 ∷ 49 ∷ 32 ∷ 49 ∷ 52 ∷ 10 ∷ []

-- its table: both frames were deliverable when they were accepted, so there is no delay
abbrev pub table : List ℕ
table =
    (50 ∷ 32 ∷ 50 ∷ 32 ∷ 48 ∷ 32 ∷ 49 ∷ 32 ∷ 48 ∷ 32 ∷ 48 ∷ 10 ∷ [])
    ++ (51 ∷ 32 ∷ 50 ∷ 32 ∷ 48 ∷ 32 ∷ 49 ∷ 32 ∷ 48 ∷ 32 ∷ 48 ∷ 10 ∷ [])
    ++ (52 ∷ 32 ∷ 50 ∷ 32 ∷ 48 ∷ 32 ∷ 49 ∷ 32 ∷ 48 ∷ 32 ∷ 48 ∷ 10 ∷ [])

-- n 2, seed 78840, 15 draws. Under each cap: a delivery of nothing; two sends from 0 to 1; the offer of the second frame, which has to wait; two deliveries of
-- nothing at 0; the same offer (15); two deliveries that pass over the second frame; the offer of the first; a delivery of nothing at 0; both deliveries; a
-- delivery of nothing; and the second frame once more (14)
abbrev pub waiting : List ℕ
waiting = 50 ∷ 32 ∷ 55 ∷ 56 ∷ 56 ∷ 52 ∷ 48 ∷ 32 ∷ 49 ∷ 53 ∷ 10 ∷ []

-- its table: one delay, that of the second frame
abbrev pub waited : List ℕ
waited =
    (50 ∷ 32 ∷ 50 ∷ 32 ∷ 48 ∷ 32 ∷ 50 ∷ 32 ∷ 49 ∷ 32 ∷ 48 ∷ 10 ∷ [])
    ++ (51 ∷ 32 ∷ 50 ∷ 32 ∷ 48 ∷ 32 ∷ 50 ∷ 32 ∷ 49 ∷ 32 ∷ 48 ∷ 10 ∷ [])
    ++ (52 ∷ 32 ∷ 50 ∷ 32 ∷ 48 ∷ 32 ∷ 50 ∷ 32 ∷ 49 ∷ 32 ∷ 48 ∷ 10 ∷ [])

pub examples : (output input ≡ table) × (output waiting ≡ waited)
unfolding ours lacks_right group set_up in_range cut_for send_call offer_call deliver_call broken_record broken_rules zero_diagonal zero_column within_limit zero_from count column_count flat entry
    at_limit protocol_send.send protocol_offer.offer protocol_deliver.deliver deliverable trim_for fullest clear only merge frames_of encode sealed front header_bytes
    header_of header own_length entries_bytes entry_bytes entries_of listed placed entries_from entry_at matrix_of le16 le32 u16_at u32_at bytes.put trailer
    trailers.counted checksum decode wrong_queue same_bytes held_refused some_refused some_alike arrival_refusal frame_refusal wrong_trailer has_trailer count_back
    sum_back wrong_kind wrong_address wrong_content wrong_body wrong_entries each_ok entry_ok precedes rising rising_after zeros padded slots frame_in held_frames without
    send_step offer_step deliver_step named issue_from up_to32 share no_counters with_extras counted_send counted_offer counted_delivery counted_nothing
    line_end number_row spaced decimal digits value continued is_digit split grown counted_by request of_lines of_fields of_numbers out_of_range wrong_n wrong_seed
    wrong_draws next step_of send_of offer_of delivery_of made after_draws cap_rows answered
examples = (refl, refl)
