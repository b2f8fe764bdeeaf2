-- The run's answer as a number. Assumes nothing.
use Prim.Native.Nat.{ℕ}
use Rattle.std.proofs.Common.{Err, Ok, Result}
use Rattle.std.specs.Result.{result_unwrap_or}
use mathlib.Core.List.{List}
use mathlib.Core.Path.{◌≡◌, ◌∙◌, ap, refl}
use Rattle.text.specs.Output.{AfterRun, after_run}
use Rattle.text.specs.declared.TooShort.{TooShort}
use Rattle.sweep.specs.Run.{run_call}
use Rattle.load_c.specs.Exports.{counted, exported_load, load_left}
use Rattle.load_c.proofs.load_run.Goals as goal

-- the number of an answer
counted-is : (r : Result ℕ TooShort) → result_unwrap_or r 0 ≡ counted r
counted-is (Ok k) = refl
counted-is (Err e) = refl

-- what a run leaves, by the number of its answer
leaves : (input out out' : List ℕ) (r : Result ℕ TooShort) (k : ℕ) → after_run r out' ≡ run_call input out → k ≡ result_unwrap_or r 0
    → load_left k out' ≡ exported_load input out
unfolding exported_load
leaves input out out' r k e t =
    ap (λ (x : ℕ). load_left x out') (t ∙ counted-is r) ∙ ap (λ (c : AfterRun). load_left (counted c.answer) c.out) e

pub returns : goal.returns
returns c = leaves _ _ _ _ _ c.run.ensures.0 c.unwrap_or.ensures
