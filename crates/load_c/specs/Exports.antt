-- What the exported run gives back, and leaves in the lent output.
use Rattle.std.specs.Prelude.{ℕ, List, Result, Ok, Err}
use Rattle.text.specs.Output.{AfterRun}
use Rattle.text.specs.declared.TooShort.{TooShort}
use Rattle.sweep.specs.Run.{run_call}

-- the number returned, and the output
pub record LoadLeft : Type 0 where
  pub count : ℕ
  pub out : List ℕ

abbrev pub load_left : ℕ → List ℕ → LoadLeft
load_left count out = record { count = count; out = out }

-- how many bytes an answer counts: 0 where the output is too short, and never 0 otherwise, since a load prints a line at least
abbrev pub counted : Result ℕ TooShort → ℕ
counted (Ok k) = k
counted (Err e) = 0

unfoldable pub exported_load : List ℕ → List ℕ → LoadLeft
exported_load input out = let c : AfterRun = run_call input out in load_left (counted c.answer) c.out
