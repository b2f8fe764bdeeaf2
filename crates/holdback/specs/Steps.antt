-- What the steps of check 4 compute, for the contracts of the functions that take them.
use Rattle.std.specs.Prelude.{◌*◌, ◌+◌, ℕ, Bool, ◌&&◌, ◌||◌, cond, false, not, true, Option, Some, None, List, [], ◌∷◌, eqb}
use Rattle.frame.specs.Frame.{decode}
use Rattle.holdback.specs.WrongQueue.{held_refused, same_bytes}
use Rattle.holdback.specs.Slots.{frame_in, padded}
use Rattle.matrix.specs.Message.{Message, number}
use Rattle.protocol.specs.Node.{Node}

-- each byte is zero
unfoldable pub all_zero : List ℕ → Bool
all_zero [] = true
all_zero (b ∷ s) = eqb b 0 && all_zero s

-- a slot that is filled is not as it should be: its frame would meet one of 8 to 14, or is not followed by zeros
unfoldable pub wrong_slot : Node → List ℕ → Bool
wrong_slot d slot = held_refused d (frame_in slot) || not (same_bytes slot (padded (frame_in slot)))

-- from and number of a message in one number
unfoldable pub key_of : Message → ℕ
key_of m = 16 * number m + m.from

-- the key of the message in a slot, and none where the slot is wrong
unfoldable pub slot_key : Node → List ℕ → Option ℕ
slot_key d slot = cond (wrong_slot d slot) None (Some (key_of (decode (frame_in slot))))

-- k is one of a list
unfoldable pub among : ℕ → List ℕ → Bool
among k [] = false
among k (j ∷ l) = eqb j k || among k l

-- two of a list are equal
unfoldable pub some_equal : List ℕ → Bool
some_equal [] = false
some_equal (k ∷ l) = among k l || some_equal l
