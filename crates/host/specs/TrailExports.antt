-- What each exported call of the trail gives back and leaves in the lent bytes and numbers: 0 or the refusal's number, and what its answer says.
-- On a refusal all is as before.
use Rattle.std.specs.Prelude.{ℕ, List, [], ◌∷◌, get_or}
use Rattle.trail.specs.declared.walk.Cursor.{Cursor}
use Rattle.trail.specs.StepAnswer.{StepAnswer}
use Rattle.trail.specs.StepAnswer as step_answer
use Rattle.trail.specs.WalkAnswer.{WalkAnswer}
use Rattle.trail.specs.WalkAnswer as walk_answer
use Rattle.trail.specs.WriteAnswer.{WriteAnswer}
use Rattle.trail.specs.WriteAnswer as write_answer
use Rattle.trail.specs.Step.{step_call}
use Rattle.trail.specs.Walk.{walk_call}
use Rattle.trail.specs.Write.{write_call}

-- ---- write: the file's bytes, and the number of them in use

pub record WriteLeft : Type 0 where
  pub status : ℕ
  pub file : List ℕ
  pub used : ℕ

abbrev pub write_left : ℕ → List ℕ → ℕ → WriteLeft
write_left status file used = record { status = status; file = file; used = used }

-- by the call's answer
abbrev pub write_told : ℕ → List ℕ → WriteAnswer → WriteLeft
write_told used file (write_answer.Refused k) = write_left k file used
write_told used file (write_answer.Written more) = write_left 0 file more

unfoldable pub exported_write : List ℕ → ℕ → List ℕ → WriteLeft
exported_write file used frame = write_told used (write_call file used frame).file (write_call file used frame).answer

-- ---- a step: the cursor's five numbers, and the start and length of the frame shown, both 0 at the file's start

pub record StepLeft : Type 0 where
  pub status : ℕ
  pub cursor : List ℕ
  pub shown : List ℕ

abbrev pub step_left : ℕ → List ℕ → List ℕ → StepLeft
step_left status cursor shown = record { status = status; cursor = cursor; shown = shown }

-- end, w, kinds, extras and most
abbrev pub cursor_in : List ℕ → Cursor
cursor_in l = record { end = get_or l 0 0; w = get_or l 1 0; kinds = get_or l 2 0; extras = get_or l 3 0; most = get_or l 4 0 }

abbrev pub cursor_numbers : Cursor → List ℕ
cursor_numbers c = c.end ∷ c.w ∷ c.kinds ∷ c.extras ∷ c.most ∷ []

-- by the call's answer
abbrev pub step_told : List ℕ → List ℕ → StepAnswer → StepLeft
step_told cursor shown (step_answer.Refused k) = step_left k cursor shown
step_told cursor shown (step_answer.End most) = step_left 0 cursor (0 ∷ 0 ∷ [])
step_told cursor shown (step_answer.Shown start size next) = step_left 0 (cursor_numbers next) (start ∷ size ∷ [])

unfoldable pub exported_step : List ℕ → List ℕ → List ℕ → StepLeft
exported_step file cursor shown = step_told cursor shown (step_call file (cursor_in cursor))

-- ---- the whole walk: the largest count

pub record WalkLeft : Type 0 where
  pub status : ℕ
  pub most : ℕ

abbrev pub walk_left : ℕ → ℕ → WalkLeft
walk_left status most = record { status = status; most = most }

-- by the call's answer
abbrev pub walk_told : ℕ → WalkAnswer → WalkLeft
walk_told most (walk_answer.Refused k) = walk_left k most
walk_told most (walk_answer.Largest count) = walk_left 0 count

unfoldable pub exported_walk : List ℕ → ℕ → ℕ → WalkLeft
exported_walk file w most = walk_told most (walk_call file w)
