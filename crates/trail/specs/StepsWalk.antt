-- A walk made of steps is the walk: the same frames shown, then the start with the largest count, or 19. So what the cursor carried along is what the
-- plain definition counts.
use Rattle.std.specs.Prelude.{ℕ, ◌≤◌, cond, List, [], ◌≡◌, eqb, length}
use Rattle.trail.specs.StepAnswer as step_answer
use Rattle.trail.specs.Cursor.{begun, wrong_window}
use Rattle.trail.specs.Step.{Steps, step_call, steps_after}
use Rattle.trail.specs.Walk.{Walk, walk}
use Rattle.trail.specs.Windows.{largest}

-- the steps that a walk stands for: its frames, then the start with the largest count, or 19 where something is left
abbrev pub steps_of : ℕ → Walk → Steps
steps_of w v =
    record { shown = v.shown; last = cond (eqb (length v.left) 0) (step_answer.End (largest w v.kinds)) (step_answer.Refused 19) }

-- the steps of a walk of the file with a window of w frames, by the plain definitions
abbrev pub walk_steps : List ℕ → ℕ → Steps
walk_steps file w = cond (wrong_window w) (record { shown = []; last = step_answer.Refused 19 }) (steps_of w (walk file))

-- as many steps as the file has bytes, or more, are enough
pub record StepsWalk : Type 0 where
  pub all : (file : List ℕ) (w k : ℕ) → length file ≤ k → steps_after k file (step_call file (begun (length file) w)) ≡ walk_steps file w
