-- The walk back over the bytes in use, as the list of what it shows.
use Rattle.std.specs.Prelude.{ℕ, zero, suc, ◌+◌, ◌-◌, Bool, cond, ◌||◌, List, [], ◌∷◌, eqb, ltb, length, take, drop}
use Rattle.wire.specs.Trailer.{count_back}
use Rattle.trail.specs.WalkAnswer.{WalkAnswer}
use Rattle.trail.specs.WalkAnswer as walk_answer
use Rattle.trail.specs.Cursor.{wrong_window}
use Rattle.trail.specs.Sound.{extra_bit, unsound}
use Rattle.trail.specs.Trail.{Place}
use Rattle.trail.specs.Windows.{largest}

-- the length of the frame that the trailer at the end of s points back to: the count pointed back, and the trailer's four bytes
abbrev pub last_length : List ℕ → ℕ
last_length s = count_back s + 4

-- where that frame starts
abbrev pub last_start : List ℕ → ℕ
last_start s = length s - last_length s

-- that frame
abbrev pub last_frame : List ℕ → List ℕ
last_frame s = drop (last_start s) s

-- 19: what is left is too short for a trailer, its trailer points before the file's start, or the frame there is not sound on its own
unfoldable pub bad_end : List ℕ → Bool
bad_end s = ltb (length s) 4 || ltb (length s) (last_length s) || unsound (last_frame s)

-- shown: the places of the frames shown, the last first; kinds: their kinds, in the file's order; left: the bytes in front of them, where the walk stopped
pub record Walk : Type 0 where
  pub shown : List Place
  pub kinds : List ℕ
  pub left : List ℕ

-- the walk stops where nothing is left, or at a bad end
unfoldable pub stops : List ℕ → Bool
stops s = eqb (length s) 0 || bad_end s

-- the walk of s when the frames behind s have these kinds, in at most k steps: the last frame of s is shown, then those in front of it
unfoldable pub walk_back : ℕ → List ℕ → List ℕ → Walk
walk_back zero s kinds = record { shown = []; kinds = kinds; left = s }
walk_back (suc k) s kinds =
    let next : Walk = walk_back k (take (last_start s) s) (extra_bit (last_frame s) ∷ kinds) in
    cond (stops s) (record { shown = []; kinds = kinds; left = s })
    (record { shown = record { start = last_start s; length = last_length s } ∷ next.shown; kinds = next.kinds; left = next.left })

-- the walk of a whole file: a frame has a byte at least, so a step for each byte is enough
unfoldable pub walk : List ℕ → Walk
walk file = walk_back (length file) file []

-- the refusal's number, 0 where the walk reached the file's start
abbrev pub walk_number : WalkAnswer → ℕ
walk_number (walk_answer.Refused k) = k
walk_number (walk_answer.Largest most) = 0

-- what a whole walk answers: 19 where w is out of range or something is left, and else the largest count
unfoldable pub walk_call : List ℕ → ℕ → WalkAnswer
walk_call file w =
    cond (wrong_window w) (walk_answer.Refused 19)
    (cond (eqb (length (walk file).left) 0) (walk_answer.Largest (largest w (walk file).kinds)) (walk_answer.Refused 19))
