-- A frame on its own: it would meet none of 8 to 11 with its own n taken for the record's, and n is in the range of 1.
use Rattle.std.specs.Prelude.{ℕ, Bool, cond, not, ◌&&◌, ◌||◌, List, leb, eqb}
use Rattle.wire.specs.Limits.{max_nodes}
use Rattle.frame.specs.Header.{header}
use Rattle.frame.specs.Refusals.{frame_refusal}

-- the range of 1: n is 2 to 12 (that cap is n to n × n is of 10)
unfoldable pub in_own_range : ℕ → Bool
in_own_range n = leb 2 n && leb n max_nodes

-- the bytes s have n out of range, or meet one of 8 to 11 with it
unfoldable pub unsound : List ℕ → Bool
unsound s = not (in_own_range (header s).n) || not (eqb (frame_refusal (header s).n s) 0)

-- 1 for the kind byte of an extra frame, 0 for a user frame's
abbrev pub kind_bit : ℕ → ℕ
kind_bit kind = cond (eqb kind 2) 1 0

-- 1 for an extra frame, 0 for a user frame
unfoldable pub extra_bit : List ℕ → ℕ
extra_bit s = kind_bit (header s).kind
