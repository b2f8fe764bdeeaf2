-- A run over lent bytes.
use Rattle.std.specs.Prelude.{ℕ, ◌+◌, List, ◌≡◌, take}
use Rattle.text.specs.Output.{AfterRun, print_into}
use Rattle.sweep.specs.Load.{output}

-- bytes of the longest input that is not refused: three fields of ten digits, two spaces, a line feed
abbrev pub max_input : ℕ
max_input = 33

-- the first 34 bytes of an input tell what is printed for it, so that a program need read no more
abbrev pub FirstBytes : Type 0
FirstBytes = (s : List ℕ) → output (take (max_input + 1) s) ≡ output s

-- bytes of output that always suffice: a line has at most 58, a cap of two digits and five numbers of ten, and a table at most 13 lines
abbrev pub output_size : ℕ
output_size = 1024

-- a shorter output is refused, and of any other the front becomes what the load prints
unfoldable pub run_call : List ℕ → List ℕ → AfterRun
run_call input out = print_into output_size (output input) out
