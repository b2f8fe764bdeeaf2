-- The loop of the whole walk, by the steps that are left: they end as all the steps do. Assumes nothing.
use Prim.Native.Nat.{◌<◌, ◌≤◌, suc, zero, ℕ}
use mathlib.Core.Bool.{Bool, cond, false, true}
use mathlib.Core.List.{List}
use mathlib.Core.Path.{◌∙◌, ◌≡◌, ap, refl, subst, sym}
use native.Mathlib.Omega.{arith}
use lib.Dec.{eqb}
use lib.ListN.{length, length-take, take}
use Rattle.trail.proofs.Ends.{good}
use Rattle.trail.proofs.StepsWalk.{after-end, after-refused, steps-walk}
use Rattle.trail.specs.Cursor.{begun, passing, wrong_window}
use Rattle.trail.specs.Sound.{extra_bit}
use Rattle.trail.specs.Step.{Steps, step_at, step_call, steps_after}
use Rattle.trail.specs.StepsWalk.{walk_steps}
use Rattle.trail.specs.Walk.{bad_end, last_frame, last_length, last_start, walk, walk_call}
use Rattle.trail.specs.declared.walk.Cursor.{Cursor}
use Rattle.trail.specs.StepAnswer.{StepAnswer}
use Rattle.trail.specs.StepAnswer as step_answer
use Rattle.trail.specs.WalkAnswer.{WalkAnswer}
use Rattle.trail.specs.WalkAnswer as walk_answer

-- a whole walk's answer by the answer with which its steps end
abbrev answer_of : StepAnswer → WalkAnswer
answer_of (step_answer.Refused why) = walk_answer.Refused why
answer_of (step_answer.End most) = walk_answer.Largest most
answer_of (step_answer.Shown start size next) = walk_answer.Refused 0

-- so it is the answer with which the walk's steps end
by_last : (file : List ℕ) (w : ℕ) → walk_call file w ≡ answer_of (walk_steps file w).last
unfolding walk_call
by_last file w = go (wrong_window w) (eqb (length (walk file).left) 0) refl refl
  where
    go : (a b : Bool) → wrong_window w ≡ a → eqb (length (walk file).left) 0 ≡ b → walk_call file w ≡ answer_of (walk_steps file w).last
    go true b p q = rw p
    go false true p q = rw (p, q)
    go false false p q = rw (p, q)

-- an answer that shows a frame goes on in front of a cursor that stood at `end`
abbrev Falls : ℕ → StepAnswer → Type 0
Falls end (step_answer.Refused why) = Unit {0}
Falls end (step_answer.End most) = Unit {0}
Falls end (step_answer.Shown start size next) = next.end < end

-- and so it does
falls : (file : List ℕ) (c : Cursor) → Falls c.end (step_call file c)
unfolding step_call step_at passing
falls file c = go (wrong_window c.w) (eqb (length s) 0) (bad_end s) refl
  where
    s : List ℕ
    s = take c.end file

    go : (a b d : Bool) → bad_end s ≡ d
        → Falls c.end (cond a (step_answer.Refused 19) (cond b (step_answer.End c.most)
        (cond d (step_answer.Refused 19) (step_answer.Shown (last_start s) (last_length s) (passing c (last_start s) (extra_bit (last_frame s)))))))
    go true b d e = tt
    go false true d e = tt
    go false false true e = tt
    go false false false e = omega (arith, length-take c.end file, (good s e).inside)

-- the steps that are left, k of them at most, end as all do
pub record Looping (file : List ℕ) (w : ℕ) (c : Cursor) : Type 0 where
  pub room : ℕ
  pub ends : c.end ≤ room
  pub last : walk_call file w ≡ answer_of (steps_after room file (step_call file c)).last

-- they are all steps at first
pub loop_start : (file : List ℕ) (w : ℕ) (c : Cursor) → c ≡ begun (length file) w → Looping file w c
unfolding begun
loop_start file w c e =
    rw e (record {
      room = length file;
      ends = omega arith;
      last = by_last file w ∙ ap (λ (v : Steps). answer_of v.last) (sym (steps-walk.all file w (length file) (omega arith)));
    })

module _ (file : List ℕ) (w : ℕ) (c : Cursor) (h : Looping file w c) where
  -- a refusal, or the start, is what the whole walk answers
  pub loop_refused : (why : ℕ) → step_answer.Refused why ≡ step_call file c → walk_answer.Refused why ≡ walk_call file w
  loop_refused why e = sym (h.last ∙ rw (← e, after-refused h.room file why))

  pub loop_end : (most : ℕ) → step_answer.End most ≡ step_call file c → walk_answer.Largest most ≡ walk_call file w
  loop_end most e = sym (h.last ∙ rw (← e, after-end h.room file most))

  module _ (start size : ℕ) (next : Cursor) (e : step_answer.Shown start size next ≡ step_call file c) where
    -- a frame is shown: the cursor falls, and the steps that are left are those behind it
    pub loop-less : next.end < c.end
    loop-less = subst (Falls c.end) (sym e) (falls file c)

    pub loop-again : Looping file w next
    unfolding steps_after
    loop-again = go h.room refl
      where
        go : (r : ℕ) → h.room ≡ r → Looping file w next
        go zero p = absurd (omega (arith, h.ends, loop-less))
        go (suc k) p =
            record { room = k; ends = omega (arith, h.ends, loop-less); last = h.last ∙ rw (← e, p) }
