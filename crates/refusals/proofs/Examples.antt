-- Worked examples of the host's calls, which pin the definitions: where 20 stands, and what is looked at for it; and one of exchanged neighbours.
-- Assumes nothing.
use mathlib.Core.List.{[]}
use mathlib.Core.Logic.{inl}
use mathlib.Core.Path.{◌≡◌, ap, refl}
use native.Mathlib.Omega.{arith}
use lib.ListN.{replicate}
use Rattle.wire.proofs.Bytes.{small_bytes}
use Rattle.wire.specs.Bytes.{le16, le32, u16_at, u32_at}
use Rattle.wire.specs.Exchange.{exchanged}
use Rattle.wire.specs.Trailer.{checksum, count_back, counted, has_trailer, sealed, sum_back, trailer}
use Rattle.matrix.specs.Array.{entry}
use Rattle.matrix.specs.Matrix.{column_count, count}
use Rattle.rules.specs.Rules.{broken_rules, in_range, within_limit, zero_column, zero_diagonal, zero_from}
use Rattle.node.specs.Answers.{offer_number}
use Rattle.node.specs.Calls.{offer_call}
use Rattle.node.specs.Record.{broken_record}
use Rattle.node.specs.SetUp.{fresh_record, set_up}
use Rattle.host.specs.Exports.{exported_send, exported_set_up}
use Rattle.image.specs.Image.{bad_image, fields, image, numbers_at, record_fields, record_in}
use Rattle.refusals.proofs.Exchange.{exchanges}
use Rattle.refusals.proofs.Table.{diamonds}
use Rattle.refusals.specs.Table.{empty, fresh, holds_one, thirteen}

-- set-up: an image of 631 bytes meets 20, which stands behind 1; of 632 bytes nothing more is looked at
short-image : (exported_set_up (replicate 631 0) 0 2 4).status ≡ 20
unfolding exported_set_up set_up in_range
short-image = refl

cap-first : (exported_set_up (replicate 631 0) 0 2 5).status ≡ 1
unfolding exported_set_up set_up in_range
cap-first = refl

length-alone : (exported_set_up (replicate 632 0) 0 2 4).status ≡ 0
unfolding exported_set_up set_up in_range
length-alone = refl

-- send: the image is looked at before the buffers
image-first : (exported_send (replicate 632 0) 1 0 [] [] []).status ≡ 20
unfolding exported_send bad_image has_trailer count_back u16_at
image-first = refl

-- and a fresh one is sound, so that the buffers are
buffers_next : (exported_send (image (fresh_record 0 2 4)) 1 0 [] [] []).status ≡ 3
unfolding exported_send bad_image image sealed record_fields fields le16 le32 has_trailer count_back sum_back checksum counted trailer u16_at u32_at
    record_in numbers_at broken_record broken_rules in_range within_limit zero_column zero_diagonal zero_from column_count count entry
buffers_next = refl

-- the law of exchanged neighbours speaks of document 01's first frame: its byte 7 and its body exchanged, where it would be held
exchanged_o : offer_number (offer_call (fresh 1 3 3) (exchanged (thirteen 81) 7) empty).result.answer ≡ 8
unfolding holds_one
exchanged_o =
    (exchanges.frame (thirteen 81) 7 (small_bytes (thirteen 81) (omega arith)) (record { inside = omega arith; differ = λ e. omega arith })
    ).offer (fresh 1 3 3) empty (inl (ap offer_number diamonds.held))
