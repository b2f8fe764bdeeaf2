-- The ◆ table, computed by the checker on the definitions: the longer rows call by call, each within its own limit of steps. Assumes nothing.
use Prim.Native.Nat.{ℕ}
use mathlib.Core.Bool.{true}
use mathlib.Core.List.{List, [], ◌∷◌, ◌++◌}
use mathlib.Core.Path.{◌≡◌, ◌∙◌, ap, refl}
use lib.ListN.{replicate}
use Rattle.arrival.specs.View.{arrival_refusal}
use Rattle.frame.specs.Entries.{entries_bytes, entries_from, entries_of, entry_at, entry_bytes, listed, matrix_of, placed}
use Rattle.frame.specs.Frame.{decode, encode, front, header_of}
use Rattle.frame.specs.Frames.{frames_of}
use Rattle.frame.specs.Header.{header, header_bytes, own_length}
use Rattle.frame.specs.Refusals.{precedes, each_ok, entry_ok, frame_refusal, rising, rising_after, wrong_address}
use Rattle.frame.specs.Refusals.{wrong_body, wrong_content, wrong_entries, wrong_kind, wrong_trailer}
use Rattle.holdback.specs.WrongQueue.{held_refused, same_bytes, some_alike, some_refused, wrong_queue}
use Rattle.holdback.specs.Slots.{frame_in, held_frames, laid, padded, slots, without, zeros}
use Rattle.matrix.specs.Array.{entry, flat}
use Rattle.matrix.specs.Matrix.{Matrix, clear, column_count, count, fullest, merge, only, single}
use Rattle.node.specs.Answers.{AfterDeliver, AfterOffer, after_deliver, after_offer}
use Rattle.rights.specs.Ours.{ours}
use Rattle.rights.specs.Rights.{lacks_right}
use Rattle.rights.specs.Topics.{group}
use Rattle.node.specs.Calls.{deliver_call, offer_call, send_call}
use Rattle.node.specs.Record.{broken_record}
use Rattle.node.specs.SetUp.{set_up}
use Rattle.protocol.specs.Node.{at_limit}
use Rattle.protocol.specs.Offer.{deliverable}
use Rattle.protocol.specs.Trim.{trim_for}
use Rattle.refusals.specs.Table.{Diamonds, delivers_again, delivers_first, delivers_one, delivers_second, empty, from₁, from₂, gets, holds_both, holds_one}
use Rattle.refusals.specs.Table.{numbered, out, rows, sent₀, sixteenth, text, then_delivers, then_offers, thirteen, untrimmed, waiting}
use Rattle.rules.specs.Rules.{broken_rules, in_range, within_limit, zero_column, zero_diagonal, zero_from}
use Rattle.wire.specs.Bytes.{le16, le32, u16_at, u32_at}
use Rattle.wire.specs.Trailer.{checksum, count_back, has_trailer, sealed, sum_back, trailer}
use Rattle.protocol.specs.Send as protocol_send
use Rattle.protocol.specs.Offer as protocol_offer
use Rattle.protocol.specs.Deliver as protocol_deliver
use Rattle.wire.specs.Bytes as bytes
use Rattle.wire.specs.Trailer as trailers
use Rattle.node.specs.declared.Node.{Node as Record}
use Rattle.node.specs.OfferAnswer as offer_answer

-- ---- the tie

-- the record of node 0 after its sends, the frame from 1, and the frame from 2, which node 0 still holds after its first delivery
abbrev sent : Record
sent = record { me = 0; n = 3; cap = 3; m = rows 0 1 1 0 0 0 0 0 0; deliv = replicate 12 0; held = 0 }

abbrev early : List ℕ
early = 1 ∷ 1 ∷ 0 ∷ 1 ∷ 0 ∷ 3 ∷ 3 ∷ 0 ∷ 1 ∷ 2 ∷ 1 ∷ 0 ∷ 0 ∷ 0 ∷ 14 ∷ 0 ∷ 40 ∷ 1 ∷ []

abbrev still : List ℕ
still = 1 ∷ 2 ∷ 0 ∷ 1 ∷ 0 ∷ 3 ∷ 3 ∷ 0 ∷ 2 ∷ 1 ∷ 1 ∷ 0 ∷ 0 ∷ 0 ∷ 14 ∷ 0 ∷ 41 ∷ 1 ∷ []

-- what the caller of node 0 holds after the first offer and after the second
abbrev holding : ℕ → List (List ℕ) → AfterOffer
holding k l =
    after_offer (record {
      answer = offer_answer.Held k true;
      node = record { me = 0; n = 3; cap = 3; m = rows 0 1 1 0 0 0 0 0 0; deliv = replicate 12 0; held = k };
    }) (laid l)

abbrev one : AfterOffer
one = holding 1 (early ∷ [])

abbrev two : AfterOffer
two = holding 2 (early ∷ still ∷ [])

-- after the first delivery
abbrev once : AfterDeliver
once =
    after_deliver (record {
      answer = gets 1 1 1 0 0 0;
      node = record { me = 0; n = 3; cap = 3; m = rows 0 1 1 0 0 1 0 0 0; deliv = 0 ∷ 1 ∷ replicate 10 0; held = 1 };
    }) (laid (still ∷ [])) out text

-- and after the second
abbrev twice : AfterDeliver
twice =
    after_deliver (record {
      answer = gets 2 1 1 0 24 1;
      node = record { me = 0; n = 3; cap = 3; m = rows 0 2 1 0 0 1 0 0 0; deliv = 0 ∷ 1 ∷ 1 ∷ replicate 9 0; held = 0 };
    }) empty
    (2 ∷ 0 ∷ 1 ∷ 2 ∷ 0 ∷ 3 ∷ 3 ∷ 0 ∷ 0 ∷ 1 ∷ 1 ∷ 0 ∷ 0 ∷ 0 ∷ 2 ∷ 1 ∷ 1 ∷ 0 ∷ 0 ∷ 0 ∷ 20 ∷ 0 ∷ 44 ∷ 2 ∷ replicate 2024 0) text

is_sent : sent₀ ≡ sent
unfolding ours lacks_right group set_up in_range send_call offer_call deliver_call broken_record broken_rules zero_diagonal zero_column within_limit zero_from count column_count flat entry single
    at_limit protocol_send.send protocol_offer.offer protocol_deliver.deliver deliverable trim_for fullest clear only merge frames_of encode sealed front header_bytes
    header_of header own_length entries_bytes entry_bytes entries_of listed placed entries_from entry_at matrix_of le16 le32 u16_at u32_at bytes.put trailer
    trailers.counted checksum decode wrong_queue same_bytes held_refused some_refused some_alike arrival_refusal frame_refusal wrong_trailer has_trailer count_back
    sum_back wrong_kind wrong_address wrong_content wrong_body wrong_entries each_ok entry_ok precedes rising rising_after zeros padded slots frame_in held_frames without
    sent₀
is_sent = refl

is_early : from₁ ≡ early
unfolding ours lacks_right group set_up in_range send_call offer_call deliver_call broken_record broken_rules zero_diagonal zero_column within_limit zero_from count column_count flat entry single
    at_limit protocol_send.send protocol_offer.offer protocol_deliver.deliver deliverable trim_for fullest clear only merge frames_of encode sealed front header_bytes
    header_of header own_length entries_bytes entry_bytes entries_of listed placed entries_from entry_at matrix_of le16 le32 u16_at u32_at bytes.put trailer
    trailers.counted checksum decode wrong_queue same_bytes held_refused some_refused some_alike arrival_refusal frame_refusal wrong_trailer has_trailer count_back
    sum_back wrong_kind wrong_address wrong_content wrong_body wrong_entries each_ok entry_ok precedes rising rising_after zeros padded slots frame_in held_frames without
    from₁
is_early = refl

is_still : from₂ ≡ still
unfolding ours lacks_right group set_up in_range send_call offer_call deliver_call broken_record broken_rules zero_diagonal zero_column within_limit zero_from count column_count flat entry single
    at_limit protocol_send.send protocol_offer.offer protocol_deliver.deliver deliverable trim_for fullest clear only merge frames_of encode sealed front header_bytes
    header_of header own_length entries_bytes entry_bytes entries_of listed placed entries_from entry_at matrix_of le16 le32 u16_at u32_at bytes.put trailer
    trailers.counted checksum decode wrong_queue same_bytes held_refused some_refused some_alike arrival_refusal frame_refusal wrong_trailer has_trailer count_back
    sum_back wrong_kind wrong_address wrong_content wrong_body wrong_entries each_ok entry_ok precedes rising rising_after zeros padded slots frame_in held_frames without
    from₂
is_still = refl

offer-early : offer_call sent early empty ≡ one
unfolding ours lacks_right group set_up in_range send_call offer_call deliver_call broken_record broken_rules zero_diagonal zero_column within_limit zero_from count column_count flat entry single
    at_limit protocol_send.send protocol_offer.offer protocol_deliver.deliver deliverable trim_for fullest clear only merge frames_of encode sealed front header_bytes
    header_of header own_length entries_bytes entry_bytes entries_of listed placed entries_from entry_at matrix_of le16 le32 u16_at u32_at bytes.put trailer
    trailers.counted checksum decode wrong_queue same_bytes held_refused some_refused some_alike arrival_refusal frame_refusal wrong_trailer has_trailer count_back
    sum_back wrong_kind wrong_address wrong_content wrong_body wrong_entries each_ok entry_ok precedes rising rising_after zeros padded slots frame_in held_frames without
offer-early = refl

then_offer-still : then_offers one still ≡ two
unfolding ours lacks_right group set_up in_range send_call offer_call deliver_call broken_record broken_rules zero_diagonal zero_column within_limit zero_from count column_count flat entry single
    at_limit protocol_send.send protocol_offer.offer protocol_deliver.deliver deliverable trim_for fullest clear only merge frames_of encode sealed front header_bytes
    header_of header own_length entries_bytes entry_bytes entries_of listed placed entries_from entry_at matrix_of le16 le32 u16_at u32_at bytes.put trailer
    trailers.counted checksum decode wrong_queue same_bytes held_refused some_refused some_alike arrival_refusal frame_refusal wrong_trailer has_trailer count_back
    sum_back wrong_kind wrong_address wrong_content wrong_body wrong_entries each_ok entry_ok precedes rising rising_after zeros padded slots frame_in held_frames without
then_offer-still = refl

is_two : holds_both ≡ two
unfolding holds_both
is_two =
    ap (λ (r : Record). then_offers (offer_call r from₁ empty) from₂) is_sent
    ∙ ap (λ (s : List ℕ). then_offers (offer_call sent s empty) from₂) is_early
    ∙ ap (λ (c : AfterOffer). then_offers c from₂) offer-early
    ∙ ap (then_offers one) is_still
    ∙ then_offer-still

then_once : then_delivers two ≡ once
unfolding ours lacks_right group set_up in_range send_call offer_call deliver_call broken_record broken_rules zero_diagonal zero_column within_limit zero_from count column_count flat entry single
    at_limit protocol_send.send protocol_offer.offer protocol_deliver.deliver deliverable trim_for fullest clear only merge frames_of encode sealed front header_bytes
    header_of header own_length entries_bytes entry_bytes entries_of listed placed entries_from entry_at matrix_of le16 le32 u16_at u32_at bytes.put trailer
    trailers.counted checksum decode wrong_queue same_bytes held_refused some_refused some_alike arrival_refusal frame_refusal wrong_trailer has_trailer count_back
    sum_back wrong_kind wrong_address wrong_content wrong_body wrong_entries each_ok entry_ok precedes rising rising_after zeros padded slots frame_in held_frames without
then_once = refl

is_once : delivers_first ≡ once
unfolding delivers_first
is_once = ap then_delivers is_two ∙ then_once

then_twice : delivers_again once ≡ twice
unfolding ours lacks_right group set_up in_range send_call offer_call deliver_call broken_record broken_rules zero_diagonal zero_column within_limit zero_from count column_count flat entry single
    at_limit protocol_send.send protocol_offer.offer protocol_deliver.deliver deliverable trim_for fullest clear only merge frames_of encode sealed front header_bytes
    header_of header own_length entries_bytes entry_bytes entries_of listed placed entries_from entry_at matrix_of le16 le32 u16_at u32_at bytes.put trailer
    trailers.counted checksum decode wrong_queue same_bytes held_refused some_refused some_alike arrival_refusal frame_refusal wrong_trailer has_trailer count_back
    sum_back wrong_kind wrong_address wrong_content wrong_body wrong_entries each_ok entry_ok precedes rising rising_after zeros padded slots frame_in held_frames without
then_twice = refl

is_twice : delivers_second ≡ twice
unfolding delivers_second
is_twice = ap delivers_again is_once ∙ then_twice

-- the matrix before the second trim, of what the caller holds and the frame
abbrev merged : AfterDeliver → List ℕ → Matrix
merged c s = merge 0 (entry c.result.node.m) (decode s).entries

is_merged : untrimmed ≡ merged once still
unfolding untrimmed
is_merged = ap (λ (c : AfterDeliver). merged c from₂) is_once ∙ ap (merged once) is_still

merged-four : count (merged once still) ≡ 4
unfolding ours lacks_right group set_up in_range send_call offer_call deliver_call broken_record broken_rules zero_diagonal zero_column within_limit zero_from count column_count flat entry single
    at_limit protocol_send.send protocol_offer.offer protocol_deliver.deliver deliverable trim_for fullest clear only merge frames_of encode sealed front header_bytes
    header_of header own_length entries_bytes entry_bytes entries_of listed placed entries_from entry_at matrix_of le16 le32 u16_at u32_at bytes.put trailer
    trailers.counted checksum decode wrong_queue same_bytes held_refused some_refused some_alike arrival_refusal frame_refusal wrong_trailer has_trailer count_back
    sum_back wrong_kind wrong_address wrong_content wrong_body wrong_entries each_ok entry_ok precedes rising rising_after zeros padded slots frame_in held_frames without
merged-four = refl

merged-tie : (column_count (merged once still) 1 ≡ 2) × (column_count (merged once still) 2 ≡ 2)
unfolding ours lacks_right group set_up in_range send_call offer_call deliver_call broken_record broken_rules zero_diagonal zero_column within_limit zero_from count column_count flat entry single
    at_limit protocol_send.send protocol_offer.offer protocol_deliver.deliver deliverable trim_for fullest clear only merge frames_of encode sealed front header_bytes
    header_of header own_length entries_bytes entry_bytes entries_of listed placed entries_from entry_at matrix_of le16 le32 u16_at u32_at bytes.put trailer
    trailers.counted checksum decode wrong_queue same_bytes held_refused some_refused some_alike arrival_refusal frame_refusal wrong_trailer has_trailer count_back
    sum_back wrong_kind wrong_address wrong_content wrong_body wrong_entries each_ok entry_ok precedes rising rising_after zeros padded slots frame_in held_frames without
merged-tie = (refl, refl)

-- ---- offered again

-- what the caller of node 1 holds after the offer, and after the delivery
abbrev held : AfterOffer
held =
    after_offer (record {
      answer = offer_answer.Held 1 true;
      node = record { me = 1; n = 3; cap = 3; m = replicate 144 0; deliv = replicate 12 0; held = 1 };
    }) (laid (thirteen 81 ∷ []))

abbrev got : AfterDeliver
got =
    after_deliver (record {
      answer = gets 0 1 1 1 0 0;
      node = record { me = 1; n = 3; cap = 3; m = replicate 144 0; deliv = 1 ∷ replicate 11 0; held = 0 };
    }) empty out (79 ∷ replicate 63 0)

is_held : holds_one ≡ held
unfolding ours lacks_right group set_up in_range send_call offer_call deliver_call broken_record broken_rules zero_diagonal zero_column within_limit zero_from count column_count flat entry single
    at_limit protocol_send.send protocol_offer.offer protocol_deliver.deliver deliverable trim_for fullest clear only merge frames_of encode sealed front header_bytes
    header_of header own_length entries_bytes entry_bytes entries_of listed placed entries_from entry_at matrix_of le16 le32 u16_at u32_at bytes.put trailer
    trailers.counted checksum decode wrong_queue same_bytes held_refused some_refused some_alike arrival_refusal frame_refusal wrong_trailer has_trailer count_back
    sum_back wrong_kind wrong_address wrong_content wrong_body wrong_entries each_ok entry_ok precedes rising rising_after zeros padded slots frame_in held_frames without
    holds_one
is_held = refl

held-again : (then_offers held (thirteen 81)).result.answer ≡ offer_answer.Refused 15
unfolding ours lacks_right group set_up in_range send_call offer_call deliver_call broken_record broken_rules zero_diagonal zero_column within_limit zero_from count column_count flat entry single
    at_limit protocol_send.send protocol_offer.offer protocol_deliver.deliver deliverable trim_for fullest clear only merge frames_of encode sealed front header_bytes
    header_of header own_length entries_bytes entry_bytes entries_of listed placed entries_from entry_at matrix_of le16 le32 u16_at u32_at bytes.put trailer
    trailers.counted checksum decode wrong_queue same_bytes held_refused some_refused some_alike arrival_refusal frame_refusal wrong_trailer has_trailer count_back
    sum_back wrong_kind wrong_address wrong_content wrong_body wrong_entries each_ok entry_ok precedes rising rising_after zeros padded slots frame_in held_frames without
held-again = refl

then_got : then_delivers held ≡ got
unfolding ours lacks_right group set_up in_range send_call offer_call deliver_call broken_record broken_rules zero_diagonal zero_column within_limit zero_from count column_count flat entry single
    at_limit protocol_send.send protocol_offer.offer protocol_deliver.deliver deliverable trim_for fullest clear only merge frames_of encode sealed front header_bytes
    header_of header own_length entries_bytes entry_bytes entries_of listed placed entries_from entry_at matrix_of le16 le32 u16_at u32_at bytes.put trailer
    trailers.counted checksum decode wrong_queue same_bytes held_refused some_refused some_alike arrival_refusal frame_refusal wrong_trailer has_trailer count_back
    sum_back wrong_kind wrong_address wrong_content wrong_body wrong_entries each_ok entry_ok precedes rising rising_after zeros padded slots frame_in held_frames without
then_got = refl

is_got : delivers_one ≡ got
unfolding delivers_one
is_got = ap then_delivers is_held ∙ then_got

got-again : (offer_call got.result.node (thirteen 81) got.queue).result.answer ≡ offer_answer.Refused 14
unfolding ours lacks_right group set_up in_range send_call offer_call deliver_call broken_record broken_rules zero_diagonal zero_column within_limit zero_from count column_count flat entry single
    at_limit protocol_send.send protocol_offer.offer protocol_deliver.deliver deliverable trim_for fullest clear only merge frames_of encode sealed front header_bytes
    header_of header own_length entries_bytes entry_bytes entries_of listed placed entries_from entry_at matrix_of le16 le32 u16_at u32_at bytes.put trailer
    trailers.counted checksum decode wrong_queue same_bytes held_refused some_refused some_alike arrival_refusal frame_refusal wrong_trailer has_trailer count_back
    sum_back wrong_kind wrong_address wrong_content wrong_body wrong_entries each_ok entry_ok precedes rising rising_after zeros padded slots frame_in held_frames without
got-again = refl

-- ---- 15 held
no_place : (sixteenth (numbered 16)).result.answer ≡ offer_answer.Refused 16
unfolding ours lacks_right group set_up in_range send_call offer_call deliver_call broken_record broken_rules zero_diagonal zero_column within_limit zero_from count column_count flat entry single
    at_limit protocol_send.send protocol_offer.offer protocol_deliver.deliver deliverable trim_for fullest clear only merge frames_of encode sealed front header_bytes
    header_of header own_length entries_bytes entry_bytes entries_of listed placed entries_from entry_at matrix_of le16 le32 u16_at u32_at bytes.put trailer
    trailers.counted checksum decode wrong_queue same_bytes held_refused some_refused some_alike arrival_refusal frame_refusal wrong_trailer has_trailer count_back
    sum_back wrong_kind wrong_address wrong_content wrong_body wrong_entries each_ok entry_ok precedes rising rising_after zeros padded slots frame_in held_frames without
    sixteenth
no_place = refl

-- what the caller of node 0 holds when the sixteenth is held
abbrev full : AfterOffer
full =
    after_offer (record {
      answer = offer_answer.Held 16 true;
      node = record { me = 0; n = 3; cap = 3; m = replicate 144 0; deliv = replicate 12 0; held = 16 };
    }) (laid (waiting 15 ++ (numbered 0 ∷ [])))

is_full : sixteenth (numbered 0) ≡ full
unfolding ours lacks_right group set_up in_range send_call offer_call deliver_call broken_record broken_rules zero_diagonal zero_column within_limit zero_from count column_count flat entry single
    at_limit protocol_send.send protocol_offer.offer protocol_deliver.deliver deliverable trim_for fullest clear only merge frames_of encode sealed front header_bytes
    header_of header own_length entries_bytes entry_bytes entries_of listed placed entries_from entry_at matrix_of le16 le32 u16_at u32_at bytes.put trailer
    trailers.counted checksum decode wrong_queue same_bytes held_refused some_refused some_alike arrival_refusal frame_refusal wrong_trailer has_trailer count_back
    sum_back wrong_kind wrong_address wrong_content wrong_body wrong_entries each_ok entry_ok precedes rising rising_after zeros padded slots frame_in held_frames without
    sixteenth
is_full = refl

-- ---- the table
pub diamonds : Diamonds
unfolding ours lacks_right group set_up in_range send_call offer_call deliver_call broken_record broken_rules zero_diagonal zero_column within_limit zero_from count column_count flat entry single
    at_limit protocol_send.send protocol_offer.offer protocol_deliver.deliver deliverable trim_for fullest clear only merge frames_of encode sealed front header_bytes
    header_of header own_length entries_bytes entry_bytes entries_of listed placed entries_from entry_at matrix_of le16 le32 u16_at u32_at bytes.put trailer
    trailers.counted checksum decode wrong_queue same_bytes held_refused some_refused some_alike arrival_refusal frame_refusal wrong_trailer has_trailer count_back
    sum_back wrong_kind wrong_address wrong_content wrong_body wrong_entries each_ok entry_ok precedes rising rising_after zeros padded slots frame_in held_frames without
diamonds =
    record {
      sends_o = refl;
      bytes_o = refl;
      wrong_sum = refl;
      cap4 = refl;
      cap5 = refl;
      n1 = refl;
      body64 = refl;
      body65 = refl;
      to_me = refl;
      first = ap (λ (c : AfterDeliver). c.result.answer) is_once;
      three = ap (λ (c : AfterDeliver). count (entry c.result.node.m)) is_once;
      second = ap (λ (c : AfterDeliver). c.result.answer) is_twice;
      four = ap count is_merged ∙ merged-four;
      tie = (ap (λ (m : Matrix). column_count m 1) is_merged ∙ merged-tie.0, ap (λ (m : Matrix). column_count m 2) is_merged ∙ merged-tie.1);
      extra = ap (λ (c : AfterDeliver). c.out) is_twice;
      left = ap (λ (c : AfterDeliver). c.result.node.m) is_twice;
      held = ap (λ (c : AfterOffer). c.result.answer) is_held;
      again = ap (λ (c : AfterOffer). (then_offers c (thirteen 81)).result.answer) is_held ∙ held-again;
      delivered = ap (λ (c : AfterDeliver). c.result.answer) is_got;
      afterwards = ap (λ (c : AfterDeliver). (offer_call c.result.node (thirteen 81) c.queue).result.answer) is_got ∙ got-again;
      waits = no_place;
      deliverable = ap (λ (c : AfterOffer). c.result.answer) is_full;
      last = ap (λ (c : AfterOffer). c.queue) is_full;
    }
