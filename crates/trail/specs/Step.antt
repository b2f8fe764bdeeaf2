-- A step of a walk, by its cursor, and the walk that is made of steps.
use Rattle.std.specs.Prelude.{ℕ, zero, suc, cond, List, [], ◌∷◌, eqb, length, take}
use Rattle.trail.specs.declared.walk.Cursor.{Cursor}
use Rattle.trail.specs.StepAnswer.{StepAnswer}
use Rattle.trail.specs.StepAnswer as step_answer
use Rattle.trail.specs.Cursor.{passing, wrong_window}
use Rattle.trail.specs.Sound.{extra_bit}
use Rattle.trail.specs.Trail.{Place}
use Rattle.trail.specs.Walk.{bad_end, last_frame, last_length, last_start}

-- the refusal's number, 0 where a frame is shown or the file's start is reached
abbrev pub step_number : StepAnswer → ℕ
step_number (step_answer.Refused k) = k
step_number (step_answer.End most) = 0
step_number (step_answer.Shown start length next) = 0

-- what a step answers where s is left: 19 at a bad end, and else the frame shown and the cursor in front of it
unfoldable pub step_at : List ℕ → Cursor → StepAnswer
step_at s c =
    cond (eqb (length s) 0) (step_answer.End c.most)
    (cond (bad_end s) (step_answer.Refused 19) (step_answer.Shown (last_start s) (last_length s) (passing c (last_start s) (extra_bit (last_frame s)))))

-- w is looked at first; what is left is the bytes of the file in front of the cursor's end
unfoldable pub step_call : List ℕ → Cursor → StepAnswer
step_call file c = cond (wrong_window c.w) (step_answer.Refused 19) (step_at (take c.end file) c)

-- the frames that steps show, and the answer with which they end
pub record Steps : Type 0 where
  pub shown : List Place
  pub last : StepAnswer

-- at most k steps more behind an answer: while a frame is shown, the next step is made with the next cursor
unfoldable pub steps_after : ℕ → List ℕ → StepAnswer → Steps
steps_after zero file a = record { shown = []; last = a }
steps_after (suc k) file (step_answer.Shown start length next) =
    let later : Steps = steps_after k file (step_call file next) in
    record { shown = record { start = start; length = length } ∷ later.shown; last = later.last }
steps_after (suc k) file (step_answer.End most) = record { shown = []; last = step_answer.End most }
steps_after (suc k) file (step_answer.Refused why) = record { shown = []; last = step_answer.Refused why }
