-- The examples, by computation. Assumes nothing.
use mathlib.Core.Path.{refl}
use Rattle.frame.specs.Entries.{entries_from, entry_at}
use Rattle.frame.specs.Header.{header}
use Rattle.frame.specs.Refusals.{each_ok, entry_ok, frame_refusal, precedes, rising, rising_after}
use Rattle.frame.specs.Refusals.{wrong_address, wrong_body, wrong_content, wrong_entries, wrong_kind, wrong_trailer}
use Rattle.trail.specs.Cursor.{wrong_window}
use Rattle.trail.specs.Examples.{Examples}
use Rattle.trail.specs.Sound.{extra_bit, in_own_range, unsound}
use Rattle.trail.specs.Trail.{trail_of}
use Rattle.trail.specs.Walk.{bad_end, stops, walk, walk_back, walk_call}
use Rattle.trail.specs.Windows.{largest, largest_total, total, windows}
use Rattle.trail.specs.Write.{no_room_for, write_call}
use Rattle.wire.specs.Bytes.{le16, put, u16_at, u32_at}
use Rattle.wire.specs.Exchange.{exchanged}
use Rattle.wire.specs.Trailer.{checksum, count_back, counted, has_trailer, sealed, sum_back, trailer}

pub examples : Examples
unfolding entries_from entry_at header each_ok entry_ok frame_refusal precedes rising rising_after wrong_address wrong_body wrong_content wrong_entries wrong_kind
    wrong_trailer wrong_window extra_bit in_own_range unsound trail_of bad_end stops walk walk_back walk_call largest largest_total windows total no_room_for write_call put u16_at
    u32_at checksum count_back has_trailer sum_back exchanged sealed trailer counted le16
examples =
    record {
      sound = (refl, (refl, (refl, (refl, (refl, tt)))));
      shown = refl;
      one = refl;
      two = refl;
      three = refl;
      four = refl;
      whole = refl;
      longer = refl;
      empty = refl;
      no_window = refl;
      large_window = refl;
      cut_shown = refl;
      cut = refl;
      end_shown = refl;
      cap_below = refl;
      cap_above = refl;
      written = refl;
      no_room = refl;
      both_bad = refl;
      lures = refl;
      lured_shown = refl;
      lured = refl;
    }
