-- Places in the hold-back queue: the frame in a slot, and the place that a search found.
use Rattle.std.specs.Prelude.{◌*◌, ◌+◌, ℕ, List, Option, Some, None, drop, take}
use Rattle.holdback.specs.Slots.{frame_in}
use Rattle.protocol.specs.Deliver.{Search, absent, found}
use Rattle.wire.specs.Limits.{max_frame}

-- slot i of a queue, counted from 0
abbrev pub slot_at : List ℕ → ℕ → List ℕ
slot_at q i = take max_frame (drop (max_frame * i) q)

-- the frame held there
abbrev pub frame_at : List ℕ → ℕ → List ℕ
frame_at q i = frame_in (slot_at q i)

-- the place that a search found, counted from 1, and 0 where it found none
abbrev pub place_of : Search → ℕ
place_of absent = 0
place_of (found k m others) = k

-- a slot counted from 0 as such a place, and 0 for none
abbrev pub place_number : Option ℕ → ℕ
place_number None = 0
place_number (Some i) = i + 1
