-- What the trail is for: of frames written one on another from an empty file the walk shows each and no other, and of any bytes at all only sound frames,
-- end to end from the file's end.
use Rattle.std.specs.Prelude.{ℕ, ◌≤◌, true, false, List, [], ◌∷◌, ◌++◌, map, ◌≡◌, length, take}
use Rattle.wire.specs.Bytes.{put}
use Rattle.trail.specs.StepAnswer as step_answer
use Rattle.trail.specs.WalkAnswer as walk_answer
use Rattle.trail.specs.WriteAnswer.{WriteAnswer}
use Rattle.trail.specs.WriteAnswer as write_answer
use Rattle.trail.specs.Cursor.{begun, wrong_window}
use Rattle.trail.specs.Sound.{extra_bit, unsound}
use Rattle.trail.specs.Step.{step_call, steps_after}
use Rattle.trail.specs.Trail.{places_back, trail_of}
use Rattle.trail.specs.Walk.{stops, walk, walk_call}
use Rattle.trail.specs.Windows.{largest}
use Rattle.trail.specs.Write.{AfterWrite, after_write, write_call}

-- each frame of a list is sound on its own
abbrev pub EachSound : List (List ℕ) → Type 0
EachSound [] = Unit {0}
EachSound (f ∷ l) = (unsound f ≡ false) × EachSound l

-- a frame written behind the bytes that the write before it left in use; behind a refusal none is written
abbrev pub write_behind : List ℕ → List ℕ → WriteAnswer → AfterWrite
write_behind frame file (write_answer.Refused k) = after_write (write_answer.Refused k) file
write_behind frame file (write_answer.Written used) = write_call file used frame

-- frames written one on another
abbrev pub write_all : List (List ℕ) → AfterWrite → AfterWrite
write_all [] a = a
write_all (f ∷ l) a = write_all l (write_behind f a.file a.answer)

-- sound frames written from an empty file on, with room for all of them
pub record WrittenTrail (file : List ℕ) (frames : List (List ℕ)) : Type 0 where
  -- none is refused, and the bytes in use are the frames end to end; those behind them stay
  pub written : write_all frames (after_write (write_answer.Written 0) file)
      ≡ after_write (write_answer.Written (length (trail_of frames))) (put file 0 (trail_of frames))
  pub in_use : take (length (trail_of frames)) (put file 0 (trail_of frames)) ≡ trail_of frames
  -- the walk shows these frames, the last first, and stops at the start
  pub shows : walk (trail_of frames) ≡ record { shown = places_back 0 frames []; kinds = map extra_bit frames; left = [] }
  -- with any window it refuses nothing, and answers the largest count
  pub answers : (w : ℕ) → wrong_window w ≡ false → walk_call (trail_of frames) w ≡ walk_answer.Largest (largest w (map extra_bit frames))
  -- and so do as many steps as the trail has bytes, or more
  pub steps : (w k : ℕ) → wrong_window w ≡ false → length (trail_of frames) ≤ k
      → steps_after k (trail_of frames) (step_call (trail_of frames) (begun (length (trail_of frames)) w))
      ≡ record { shown = places_back 0 frames []; last = step_answer.End (largest w (map extra_bit frames)) }

-- the walk of any bytes
pub record AnyBytes (file : List ℕ) : Type 0 where
  -- the frames shown, in the file's order
  pub frames : List (List ℕ)
  -- each is sound, and they lie end to end from what is left to the file's end
  pub sound : EachSound frames
  pub whole : file ≡ (walk file).left ++ trail_of frames
  -- these are shown, by start and length, the last first
  pub shown : (walk file).shown ≡ places_back (length (walk file).left) frames []
  pub kinds : (walk file).kinds ≡ map extra_bit frames
  -- nothing is left, or what is left has a bad end, and all that stood behind it has been shown
  pub stopped : stops (walk file).left ≡ true

pub record Trails : Type 0 where
  pub written : (file : List ℕ) (frames : List (List ℕ)) → EachSound frames → length (trail_of frames) ≤ length file → WrittenTrail file frames
  pub any_bytes : (file : List ℕ) → AnyBytes file
