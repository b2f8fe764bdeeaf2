-- Vocabulary of an inner function: the length of the frame at the end of what is left, where that end is good.
use Rattle.std.specs.Prelude.{ℕ, Option, Some, None, cond, List}
use Rattle.trail.specs.Walk.{bad_end, last_length}

-- the length of the sound frame at the end of s, and none where there is none
unfoldable pub sound_last : List ℕ → Option ℕ
sound_last s = cond (bad_end s) None (Some (last_length s))
