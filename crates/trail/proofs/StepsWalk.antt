-- The steps of a walk are the walk, and what the cursor carries is what the plain definition counts. Assumes nothing.
use Prim.Native.Nat.{◌≤◌, suc, zero, ℕ}
use mathlib.Core.Bool.{Bool, false, true}
use mathlib.Core.List.{List, [], ◌∷◌}
use mathlib.Core.Path.{◌∙◌, ◌≡◌, ap, refl}
use native.Mathlib.Omega.{arith}
use lib.Dec.{eqb}
use lib.ListN.{length, take}
use lib.Seq.{length-take-le, take-length, take-take}
use Rattle.trail.proofs.Carried.{Carried, carried-begun, carried-passing}
use Rattle.trail.proofs.Ends.{good}
use Rattle.trail.proofs.Lone.{bit-most}
use Rattle.trail.proofs.Stepping.{window-range}
use Rattle.trail.proofs.Walks.{enough, stops-bad, stops-not, stops-nothing, walk-stops}
use Rattle.trail.specs.Cursor.{begun, passing, wrong_window}
use Rattle.trail.specs.Sound.{extra_bit}
use Rattle.trail.specs.Step.{Steps, step_at, step_call, steps_after}
use Rattle.trail.specs.StepsWalk.{StepsWalk, steps_of, walk_steps}
use Rattle.trail.specs.Walk.{bad_end, last_frame, last_length, last_start, walk, walk_back}
use Rattle.trail.specs.declared.walk.Cursor.{Cursor}
use Rattle.trail.specs.StepAnswer as step_answer
use Rattle.frame.specs.Header.{header}

-- an answer that shows nothing is the last
pub after-end : (k : ℕ) (file : List ℕ) (most : ℕ) → steps_after k file (step_answer.End most) ≡ record { shown = []; last = step_answer.End most }
unfolding steps_after
after-end zero file most = refl
after-end (suc k) file most = refl

pub after-refused : (k : ℕ) (file : List ℕ) (why : ℕ) → steps_after k file (step_answer.Refused why) ≡ record { shown = []; last = step_answer.Refused why }
unfolding steps_after
after-refused zero file why = refl
after-refused (suc k) file why = refl

module _ (file : List ℕ) (w : ℕ) (in_range_lem : wrong_window w ≡ false) where
  -- a step from a cursor with this window
  step-at : (c : Cursor) → c.w ≡ w → step_call file c ≡ step_at (take c.end file) c
  unfolding step_call
  step-at c p = rw (p, in_range_lem)

  -- the steps from a cursor are the walk of what is left there
  steps-from : (k : ℕ) (kinds : List ℕ) (c : Cursor) → Carried w kinds c → c.end ≤ length file → c.end ≤ k
      → steps_after k file (step_call file c) ≡ steps_of w (walk_back k (take c.end file) kinds)
  unfolding step_at steps_after walk_back passing extra_bit
  steps-from zero kinds c h i j =
      let z : c.end ≡ 0 = omega arith in
      rw (step-at c h.window, z, h.most)
  steps-from (suc k) kinds c h i j = go (eqb (length (take c.end file)) 0) (bad_end (take c.end file)) refl refl (steps-from k)
    where
      s : List ℕ
      s = take c.end file

      go : (a b : Bool) → eqb (length s) 0 ≡ a → bad_end s ≡ b
          → ((seen : List ℕ) (d : Cursor) → Carried w seen d → d.end ≤ length file → d.end ≤ k
          → steps_after k file (step_call file d) ≡ steps_of w (walk_back k (take d.end file) seen))
          → steps_after (suc k) file (step_call file c) ≡ steps_of w (walk_back (suc k) s kinds)
      go true b p q later = rw (step-at c h.window, walk-stops (suc k) s kinds (stops-nothing s p), p, h.most)
      go false true p q later = rw (step-at c h.window, walk-stops (suc k) s kinds (stops-bad s q), p, q)
      go false false p q later =
          let r = window-range w in_range_lem in
          let n = length-take-le c.end file i in
          let l = (good s q).inside in
          let next = passing c (last_start s) (extra_bit (last_frame s)) in
          let moved = carried-passing w (last_start s) (extra_bit (last_frame s)) kinds c r.0 r.1 (bit-most (header (last_frame s)).kind) h in
          let t : take (last_start s) s ≡ take (last_start s) file = take-take (last_start s) c.end file (omega (arith, n)) in
          rw (step-at c h.window, stops-not s p q, p, q, t)
          (ap (λ (v : Steps). record { shown = record { start = last_start s; length = last_length s } ∷ v.shown; last = v.last })
          (later (extra_bit (last_frame s) ∷ kinds) next moved (omega (arith, n)) (omega (arith, n, l))))

-- from the file's end on they are the whole walk
all : (file : List ℕ) (w k : ℕ) → length file ≤ k → steps_after k file (step_call file (begun (length file) w)) ≡ walk_steps file w
unfolding step_call begun walk
all file w k h = go (wrong_window w) refl
  where
    go : (b : Bool) → wrong_window w ≡ b → steps_after k file (step_call file (begun (length file) w)) ≡ walk_steps file w
    go true e = rw e (after-refused k file 19)
    go false e =
        steps-from file w e k [] (begun (length file) w) (carried-begun (length file) w) (omega arith) h
        ∙ rw (e, take-length file, enough k (length file) file [] h (omega arith))

pub steps-walk : StepsWalk
steps-walk = record { all = all }
