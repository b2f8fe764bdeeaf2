-- The yard (document 01): what its lines do and print, and the output of an input. Printed letters are ASCII: A 65, D 68, N 78, S 83, T 84, X 88.
use Rattle.std.specs.Prelude.{ℕ, ◌+◌, cond, List, [], ◌∷◌, ◌++◌, Option, None, Some, eqb, ltb, length, drop}
use Rattle.text.specs.Pieces.{split}
use Rattle.text.specs.Print.{refusal_row, row}
use Rattle.frame.specs.Header.{header}
use Rattle.frame.specs.declared.header.Header.{Header}
use Rattle.causality.specs.Demand3.{World}
use Rattle.commands.specs.Commands.{command}
use Rattle.commands.specs.FirstLine.{first_line}
use Rattle.commands.specs.declared.Command.{Command}
use Rattle.commands.specs.declared.Command.TheVariants as command
use Rattle.commands.specs.declared.Sizes.{Sizes}
use Rattle.counters.specs.declared.Counters.{Counters}
use Rattle.counters.specs.Counted.{totals}
use Rattle.counting.specs.State.{State, opened, state_after}
use Rattle.world.specs.Steps.{AfterStep, send_step, offer_step, deliver_step, frames}
use Rattle.world.specs.Start.{cap_of, startable}
use Rattle.world.specs.Outcome.{Outcome}
use Rattle.world.specs.Outcome as outcome

-- issues of a yard at most
abbrev pub max_issues : ℕ
max_issues = 64

-- bytes of input at most
abbrev pub max_input : ℕ
max_input = 4096

-- ---- Printed lines

-- a frame issued: S, or X for an extra, issue, from, to, e
unfoldable pub header_row : ℕ → Header → List ℕ
header_row m h = row (cond (eqb h.kind 1) 83 88) (m ∷ h.from ∷ h.to ∷ h.e ∷ [])

-- the frames issued from issue m on
unfoldable pub issue_rows : ℕ → List (List ℕ) → List ℕ
issue_rows m [] = []
issue_rows m (s ∷ l) = header_row m (header s) ++ issue_rows (m + 1) l

-- the frames that the world v has issued and the world w before it had not
abbrev pub new_rows : World → World → List ℕ
new_rows w v = issue_rows (length w.log + 1) (drop (length w.log) (frames v.log))

-- T: user frames, extras, frames delivered, delays, extras per hundred user frames
abbrev pub total_row : Counters → List ℕ
total_row t = row 84 (totals t)

-- ---- A line

-- what a line leaves: the yard, and what is printed
pub record AfterLine : Type 0 where
  pub yard : State
  pub printed : List ℕ

-- what a step prints: x is the issue that was offered, or the node of a deliver; `issues` are the lines of the frames that it issued
unfoldable pub printed_by : ℕ → List ℕ → Outcome → List ℕ
printed_by x issues (outcome.Refused k) = refusal_row k
printed_by x issues (outcome.Sent extras) = issues
printed_by x issues (outcome.Held count ready) = row 65 (x ∷ count ∷ [])
printed_by x issues (outcome.Nothing tried) = row 78 (x ∷ tried ∷ [])
printed_by x issues (outcome.Delivered issue tried extras) = row 68 (x ∷ issue ∷ tried ∷ []) ++ issues

-- what a step leaves and prints
abbrev pub after_step : State → ℕ → AfterStep → AfterLine
after_step y x a = record { yard = state_after y.counters a; printed = printed_by x (new_rows y.world a.world) a.outcome }

-- a line of a yard of n nodes: S i j, A m, D j, and 17 for another line
unfoldable pub line : ℕ → State → Option Command → AfterLine
line n y (Some (command.Send i j)) = after_step y i (send_step n max_issues y.world i j)
line n y (Some (command.Offer m)) = after_step y m (offer_step y.world m)
line n y (Some (command.Deliver j)) = after_step y j (deliver_step n max_issues y.world j)
line n y None = record { yard = y; printed = refusal_row 17 }

-- the lines behind the first: the last piece of the input is what stands behind the last line feed, and is another line where it is not empty; then T
unfoldable pub lines : ℕ → State → List (List ℕ) → List ℕ
lines n y [] = total_row y.counters
lines n y (l ∷ []) = cond (eqb (length l) 0) [] (refusal_row 17) ++ total_row y.counters
lines n y (l ∷ m ∷ ls) = let a : AfterLine = line n y (command l) in a.printed ++ lines n a.yard (m ∷ ls)

-- ---- The output

-- `R 17` alone
abbrev pub alone : List ℕ
alone = refusal_row 17

-- n is 2 to 4 and each of its caps in range, or `R 17` alone
unfoldable pub started : Option Sizes → List (List ℕ) → List ℕ
started (Some s) ls = cond (startable s.n s.caps) (lines s.n (opened s.n (cap_of s.caps)) ls) alone
started None ls = alone

-- a first line that is missing, or not ended, is `R 17` alone
unfoldable pub of_lines : List (List ℕ) → List ℕ
of_lines [] = alone
of_lines (l ∷ []) = alone
of_lines (l ∷ m ∷ ls) = started (first_line l) (m ∷ ls)

-- what the yard prints for an input; of a longer one, `R 17` alone
unfoldable pub output : List ℕ → List ℕ
output s = cond (ltb max_input (length s)) alone (of_lines (split 10 s))
