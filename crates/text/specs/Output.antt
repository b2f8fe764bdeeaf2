-- A run that prints into a lent output: refused where the output is too short, and then it stays as it is.
use Rattle.std.specs.Prelude.{ℕ, ◌≤◌, cond, List, ltb, length, Result, Ok, Err}
use Rattle.wire.specs.Bytes.{put}
use Rattle.text.specs.declared.TooShort.{TooShort}

-- the refusal
abbrev pub too_short : TooShort
too_short = record {}

-- what the caller of a run holds: its answer, how many bytes it wrote, and the output
pub record AfterRun : Type 0 where
  pub answer : Result ℕ TooShort
  pub out : List ℕ

abbrev pub after_run : Result ℕ TooShort → List ℕ → AfterRun
after_run r out = record { answer = r; out = out }

-- an output shorter than `size` is refused, and of any other the front becomes the text p
unfoldable pub print_into : (size : ℕ) (p out : List ℕ) → AfterRun
print_into size p out = cond (ltb (length out) size) (after_run (Err too_short) out) (after_run (Ok (length p)) (put out 0 p))

-- what is written is never longer than an output that is not refused
abbrev pub Fits : ℕ → Result ℕ TooShort → Type 0
Fits size (Ok k) = k ≤ size
Fits size (Err e) = Unit {0}
