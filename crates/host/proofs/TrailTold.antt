-- What the trail's exported calls leave, by the answers of its calls. Assumes nothing.
use Prim.Native.Nat.{ℕ}
use mathlib.Core.List.{List}
use mathlib.Core.Path.{◌≡◌, ap}
use Rattle.host.specs.TrailExports.{cursor_in, exported_step, exported_walk, exported_write, step_told, walk_told, write_told}
use Rattle.trail.specs.Step.{step_call}
use Rattle.trail.specs.Walk.{walk_call}
use Rattle.trail.specs.Write.{AfterWrite, after_write, write_call}
use Rattle.trail.specs.StepAnswer.{StepAnswer}
use Rattle.trail.specs.WalkAnswer.{WalkAnswer}
use Rattle.trail.specs.WriteAnswer.{WriteAnswer}

pub write-told : (file : List ℕ) (used : ℕ) (frame : List ℕ) (a : WriteAnswer) (file₁ : List ℕ) → after_write a file₁ ≡ write_call file used frame
    → write_told used file₁ a ≡ exported_write file used frame
unfolding exported_write
write-told file used frame a file₁ e = ap (λ (c : AfterWrite). write_told used c.file c.answer) e

pub step-told : (file cursor shown : List ℕ) (a : StepAnswer) → a ≡ step_call file (cursor_in cursor) → step_told cursor shown a ≡ exported_step file cursor shown
unfolding exported_step
step-told file cursor shown a e = ap (step_told cursor shown) e

pub walk-told : (file : List ℕ) (w most : ℕ) (a : WalkAnswer) → a ≡ walk_call file w → walk_told most a ≡ exported_walk file w most
unfolding exported_walk
walk-told file w most a e = ap (walk_told most) e
