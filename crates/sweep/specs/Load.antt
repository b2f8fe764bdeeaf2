-- The load (document 02): the same draws run once for each cap, and the table of what they counted.
use Rattle.std.specs.Prelude.{ℕ, zero, suc, ◌+◌, ◌-◌, ◌*◌, cond, List, [], ◌++◌, Option, None, Some, length}
use Rattle.text.specs.Print.{number_row, refusal_row}
use Rattle.request.specs.Request.{request}
use Rattle.request.specs.Refusal18.{out_of_range}
use Rattle.request.specs.declared.Load.{Load}
use Rattle.counters.specs.Counted.{totals}
use Rattle.xorshift.specs.Xorshift.{next}
use Rattle.draws.specs.Draws.{step_of}
use Rattle.draws.specs.declared.Draw.{Draw}
use Rattle.draws.specs.declared.Draw.TheVariants as draw
use Rattle.world.specs.Steps.{send_step, offer_step, deliver_step}
use Rattle.counting.specs.State.{State, opened, state_after}

-- issues of a load's run at most
abbrev pub max_issues : ℕ
max_issues = 180

-- ---- One run

-- what a draw asks for, made among n nodes: a step of the yard, with the load's limit; a refused one does nothing
unfoldable pub made : ℕ → State → Option Draw → State
made n y (Some (draw.Send i j)) = state_after y.counters (send_step n max_issues y.world i j)
made n y (Some (draw.Offer m)) = state_after y.counters (offer_step y.world m)
made n y (Some (draw.Deliver j)) = state_after y.counters (deliver_step n max_issues y.world j)
made n y None = y

-- the state after the draw v, the issues so far being those of the world's log
abbrev pub after_draw : ℕ → State → ℕ → State
after_draw n y v = made n y (step_of n (length y.world.log) v)

-- the state after k draws, of which the first is the generator's number after x
unfoldable pub after_draws : (n : ℕ) → State → (x k : ℕ) → State
after_draws n y x zero = y
after_draws n y x (suc k) = after_draws n (after_draw n y (next x)) (next x) k

-- a run of n nodes with one cap for all, from fresh nodes and from the seed
abbrev pub run_of : (n cap seed draws : ℕ) → State
run_of n cap seed draws = after_draws n (opened n (λ i. cap)) seed draws

-- ---- The table

-- the line of a cap: the cap and the T numbers of its run
abbrev pub cap_row : (n seed draws cap : ℕ) → List ℕ
cap_row n seed draws cap = number_row cap (totals (run_of n cap seed draws).counters)

-- the lines of `count` caps from `cap` on
unfoldable pub cap_rows : (n seed draws cap count : ℕ) → List ℕ
cap_rows n seed draws cap zero = []
cap_rows n seed draws cap (suc count) = cap_row n seed draws cap ++ cap_rows n seed draws (cap + 1) count

-- a line for each cap from n to n × n
abbrev pub table : (n seed draws : ℕ) → List ℕ
table n seed draws = cap_rows n seed draws n (n * n + 1 - n)

-- ---- The output

-- what a load answers: a refusal's number, or the table of n nodes, a seed and so many draws
pub data Answer : Type 0 where
  refused : ℕ → Answer
  tabled : (n seed draws : ℕ) → Answer

-- the number of a refusal, and 0 where the load is not refused
abbrev pub load_number : Answer → ℕ
load_number (refused k) = k
load_number (tabled n seed draws) = 0

-- what a request is answered with: 18 where a number is out of range or the line has another form, before the first draw
unfoldable pub answered : Option Load → Answer
answered (Some r) = cond (out_of_range r.n r.seed r.draws) (refused 18) (tabled r.n r.seed r.draws)
answered None = refused 18

-- what is printed for an answer: the refusal's line alone, or the table
abbrev pub printed : Answer → List ℕ
printed (refused k) = refusal_row k
printed (tabled n seed draws) = table n seed draws

-- what the load prints for an input
abbrev pub output : List ℕ → List ℕ
output s = printed (answered (request s))
