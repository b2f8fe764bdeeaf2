-- A run over lent bytes.
use Rattle.std.specs.Prelude.{ℕ, List}
use Rattle.text.specs.Output.{AfterRun, print_into}
use Rattle.simulation.specs.Yard.{output}

-- bytes of output that always suffice: five for each of 4,096 bytes of input (a line of one byte prints `R 17`), 17 for each of
-- at most 64 frames issued, and 62 for the last `R 17` and the T line are 21,630
abbrev pub output_size : ℕ
output_size = 24576

-- a shorter output is refused, and of any other the front becomes what the yard prints
unfoldable pub run_call : List ℕ → List ℕ → AfterRun
run_call input out = print_into output_size (output input) out
