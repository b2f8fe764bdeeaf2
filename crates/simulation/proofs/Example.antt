-- Document 01's example of the yard and one of delays, computed by the checker on the definition. Assumes nothing.
use Prim.Native.Nat.{ℕ}
use mathlib.Core.List.{List, [], ◌∷◌, ◌++◌}
use mathlib.Core.Path.{◌≡◌, refl}
use Rattle.arrival.specs.View.{arrival_refusal}
use Rattle.frame.specs.Entries.{entries_bytes, entries_from, entries_of, entry_at, entry_bytes, listed, matrix_of, placed}
use Rattle.frame.specs.Frame.{decode, encode, front, header_of}
use Rattle.frame.specs.Frames.{frames_of}
use Rattle.frame.specs.Header.{header, header_bytes, own_length}
use Rattle.frame.specs.Refusals.{precedes, each_ok, entry_ok, frame_refusal, rising, rising_after, wrong_address}
use Rattle.frame.specs.Refusals.{wrong_body, wrong_content, wrong_entries, wrong_kind, wrong_trailer}
use Rattle.holdback.specs.WrongQueue.{held_refused, same_bytes, some_alike, some_refused, wrong_queue}
use Rattle.holdback.specs.Slots.{frame_in, held_frames, padded, slots, without, zeros}
use Rattle.matrix.specs.Array.{entry, flat}
use Rattle.matrix.specs.Matrix.{clear, column_count, count, fullest, merge, only}
use Rattle.rights.specs.Ours.{ours}
use Rattle.rights.specs.Rights.{lacks_right}
use Rattle.rights.specs.Topics.{group}
use Rattle.node.specs.Calls.{deliver_call, offer_call, send_call}
use Rattle.node.specs.Record.{broken_record}
use Rattle.rules.specs.Rules.{broken_rules, in_range, within_limit, zero_column, zero_diagonal, zero_from}
use Rattle.node.specs.SetUp.{set_up}
use Rattle.protocol.specs.Node.{at_limit}
use Rattle.protocol.specs.Offer.{deliverable}
use Rattle.protocol.specs.Trim.{trim_for}
use Rattle.wire.specs.Bytes.{le16, le32, u16_at, u32_at}
use Rattle.wire.specs.Trailer.{checksum, count_back, has_trailer, sealed, sum_back, trailer}
use Rattle.protocol.specs.Send as protocol_send
use Rattle.protocol.specs.Offer as protocol_offer
use Rattle.protocol.specs.Deliver as protocol_deliver
use Rattle.wire.specs.Bytes as bytes
use Rattle.wire.specs.Trailer as trailers
use Rattle.causality.specs.Demand3.{cut_for}
use Rattle.text.specs.Pieces.{split, grown}
use Rattle.text.specs.Fields.{value, continued, is_digit}
use Rattle.text.specs.Print.{row, line_end, spaced, decimal, digits}
use Rattle.commands.specs.Commands as commands
use Rattle.commands.specs.FirstLine as first_line
use Rattle.counters.specs.Counted.{up_to32, share, no_counters, with_extras, counted_send, counted_offer, counted_delivery, counted_nothing}
use Rattle.world.specs.Steps.{send_step, offer_step, deliver_step, named, issue_from}
use Rattle.world.specs.Start.{startable, cap_taken}
use Rattle.counting.specs.State.{counted_by}
use Rattle.simulation.specs.Yard.{output, of_lines, started, lines, line, printed_by, header_row, issue_rows}

-- the example's input, whose first line document 02 (x) has as 3 3 3 3
abbrev pub input : List ℕ
input =
    (51 ∷ 32 ∷ 51 ∷ 32 ∷ 51 ∷ 32 ∷ 51 ∷ 10 ∷ [])
    ++ (83 ∷ 32 ∷ 48 ∷ 32 ∷ 50 ∷ 10 ∷ [])
    ++ (83 ∷ 32 ∷ 48 ∷ 32 ∷ 49 ∷ 10 ∷ [])
    ++ (65 ∷ 32 ∷ 50 ∷ 10 ∷ [])
    ++ (68 ∷ 32 ∷ 49 ∷ 10 ∷ [])
    ++ (83 ∷ 32 ∷ 49 ∷ 32 ∷ 50 ∷ 10 ∷ [])
    ++ (65 ∷ 32 ∷ 51 ∷ 10 ∷ [])
    ++ (68 ∷ 32 ∷ 50 ∷ 10 ∷ [])
    ++ (65 ∷ 32 ∷ 49 ∷ 10 ∷ [])
    ++ (68 ∷ 32 ∷ 50 ∷ 10 ∷ [])
    ++ (68 ∷ 32 ∷ 50 ∷ 10 ∷ [])

-- and its output
abbrev pub printed : List ℕ
printed =
    (83 ∷ 32 ∷ 49 ∷ 32 ∷ 48 ∷ 32 ∷ 50 ∷ 32 ∷ 48 ∷ 10 ∷ [])
    ++ (83 ∷ 32 ∷ 50 ∷ 32 ∷ 48 ∷ 32 ∷ 49 ∷ 32 ∷ 49 ∷ 10 ∷ [])
    ++ (65 ∷ 32 ∷ 50 ∷ 32 ∷ 49 ∷ 10 ∷ [])
    ++ (68 ∷ 32 ∷ 49 ∷ 32 ∷ 50 ∷ 32 ∷ 49 ∷ 10 ∷ [])
    ++ (83 ∷ 32 ∷ 51 ∷ 32 ∷ 49 ∷ 32 ∷ 50 ∷ 32 ∷ 49 ∷ 10 ∷ [])
    ++ (65 ∷ 32 ∷ 51 ∷ 32 ∷ 49 ∷ 10 ∷ [])
    ++ (78 ∷ 32 ∷ 50 ∷ 32 ∷ 49 ∷ 10 ∷ [])
    ++ (65 ∷ 32 ∷ 49 ∷ 32 ∷ 50 ∷ 10 ∷ [])
    ++ (68 ∷ 32 ∷ 50 ∷ 32 ∷ 49 ∷ 32 ∷ 50 ∷ 10 ∷ [])
    ++ (68 ∷ 32 ∷ 50 ∷ 32 ∷ 51 ∷ 32 ∷ 49 ∷ 10 ∷ [])
    ++ (84 ∷ 32 ∷ 51 ∷ 32 ∷ 48 ∷ 32 ∷ 51 ∷ 32 ∷ 49 ∷ 32 ∷ 48 ∷ 10 ∷ [])

-- the same story among nodes with caps 3, 5 and 9, and with more deliveries that answer none: one while nothing is held (N 2 0), and two (N 2 1) that pass
-- over issue 3, which is offered again in between (R 15)
abbrev pub waiting : List ℕ
waiting =
    (51 ∷ 32 ∷ 51 ∷ 32 ∷ 53 ∷ 32 ∷ 57 ∷ 10 ∷ [])
    ++ (83 ∷ 32 ∷ 48 ∷ 32 ∷ 50 ∷ 10 ∷ [])
    ++ (83 ∷ 32 ∷ 48 ∷ 32 ∷ 49 ∷ 10 ∷ [])
    ++ (68 ∷ 32 ∷ 50 ∷ 10 ∷ [])
    ++ (65 ∷ 32 ∷ 50 ∷ 10 ∷ [])
    ++ (68 ∷ 32 ∷ 49 ∷ 10 ∷ [])
    ++ (83 ∷ 32 ∷ 49 ∷ 32 ∷ 50 ∷ 10 ∷ [])
    ++ (65 ∷ 32 ∷ 51 ∷ 10 ∷ [])
    ++ (68 ∷ 32 ∷ 50 ∷ 10 ∷ [])
    ++ (65 ∷ 32 ∷ 51 ∷ 10 ∷ [])
    ++ (68 ∷ 32 ∷ 50 ∷ 10 ∷ [])
    ++ (65 ∷ 32 ∷ 49 ∷ 10 ∷ [])
    ++ (68 ∷ 32 ∷ 50 ∷ 10 ∷ [])
    ++ (68 ∷ 32 ∷ 50 ∷ 10 ∷ [])

-- one delay, that of issue 3, which was not deliverable when it was accepted; issues 2 and 1 were
abbrev pub waited : List ℕ
waited =
    (83 ∷ 32 ∷ 49 ∷ 32 ∷ 48 ∷ 32 ∷ 50 ∷ 32 ∷ 48 ∷ 10 ∷ [])
    ++ (83 ∷ 32 ∷ 50 ∷ 32 ∷ 48 ∷ 32 ∷ 49 ∷ 32 ∷ 49 ∷ 10 ∷ [])
    ++ (78 ∷ 32 ∷ 50 ∷ 32 ∷ 48 ∷ 10 ∷ [])
    ++ (65 ∷ 32 ∷ 50 ∷ 32 ∷ 49 ∷ 10 ∷ [])
    ++ (68 ∷ 32 ∷ 49 ∷ 32 ∷ 50 ∷ 32 ∷ 49 ∷ 10 ∷ [])
    ++ (83 ∷ 32 ∷ 51 ∷ 32 ∷ 49 ∷ 32 ∷ 50 ∷ 32 ∷ 49 ∷ 10 ∷ [])
    ++ (65 ∷ 32 ∷ 51 ∷ 32 ∷ 49 ∷ 10 ∷ [])
    ++ (78 ∷ 32 ∷ 50 ∷ 32 ∷ 49 ∷ 10 ∷ [])
    ++ (82 ∷ 32 ∷ 49 ∷ 53 ∷ 10 ∷ [])
    ++ (78 ∷ 32 ∷ 50 ∷ 32 ∷ 49 ∷ 10 ∷ [])
    ++ (65 ∷ 32 ∷ 49 ∷ 32 ∷ 50 ∷ 10 ∷ [])
    ++ (68 ∷ 32 ∷ 50 ∷ 32 ∷ 49 ∷ 32 ∷ 50 ∷ 10 ∷ [])
    ++ (68 ∷ 32 ∷ 50 ∷ 32 ∷ 51 ∷ 32 ∷ 49 ∷ 10 ∷ [])
    ++ (84 ∷ 32 ∷ 51 ∷ 32 ∷ 48 ∷ 32 ∷ 51 ∷ 32 ∷ 49 ∷ 32 ∷ 48 ∷ 10 ∷ [])

pub examples : (output input ≡ printed) × (output waiting ≡ waited)
unfolding ours lacks_right group set_up in_range cut_for send_call offer_call deliver_call broken_record broken_rules zero_diagonal zero_column within_limit zero_from count column_count flat entry
    at_limit protocol_send.send protocol_offer.offer protocol_deliver.deliver deliverable trim_for fullest clear only merge frames_of encode sealed front header_bytes
    header_of header own_length entries_bytes entry_bytes entries_of listed placed entries_from entry_at matrix_of le16 le32 u16_at u32_at bytes.put trailer
    trailers.counted checksum decode wrong_queue same_bytes held_refused some_refused some_alike arrival_refusal frame_refusal wrong_trailer has_trailer count_back
    sum_back wrong_kind wrong_address wrong_content wrong_body wrong_entries each_ok entry_ok precedes rising rising_after zeros padded slots frame_in held_frames without
    send_step offer_step deliver_step named issue_from startable cap_taken up_to32 share no_counters with_extras counted_send counted_offer counted_delivery counted_nothing
    commands.letter commands.with_one commands.with_two commands.of_pieces commands.command first_line.sizes first_line.counted first_line.padded
    first_line.numbers first_line.with_number first_line.of_pieces first_line.first_line row line_end spaced decimal digits value continued is_digit split grown output of_lines started lines line printed_by counted_by header_row issue_rows
examples = (refl, refl)
