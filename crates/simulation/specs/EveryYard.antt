-- Demand 3 speaks of every yard: whatever its lines are, the world after them is one that a list of demand 3 leads to, and its delays are those of that list.
use Rattle.std.specs.Prelude.{ℕ, ◌<◌, true, List, [], ◌∷◌, ◌++◌, ◌⊎◌, ◌≡◌, length}
use Rattle.text.specs.Pieces.{split}
use Rattle.commands.specs.Commands.{command}
use Rattle.commands.specs.FirstLine.{first_line, given}
use Rattle.world.specs.Start.{cap_of, startable}
use Rattle.counting.specs.OfList.{OfList}
use Rattle.counting.specs.State.{State, opened}
use Rattle.simulation.specs.Yard.{alone, line, output, total_row}

-- the yard after some lines, one after the other
abbrev pub after_lines : ℕ → State → List (List ℕ) → State
after_lines n y [] = y
after_lines n y (l ∷ ls) = after_lines n (line n y (command l)).yard ls

-- for every n and caps that a yard can start with, and any lines (an input of 4,096 bytes has at most 4,096 of them)
abbrev pub EveryYard : Type 0
EveryYard = (n : ℕ) (caps : List ℕ) → startable n caps ≡ true → (ls : List (List ℕ)) → length ls < 1000000000
    → OfList n (cap_of caps) (length ls) (after_lines n (opened n (cap_of caps)) ls)

-- an input s in its pieces: the first line, the other lines, and what stands behind the last line feed. The yard prints rows for it, and then the T line of
-- the state after the other lines, of which OfList speaks
pub record Totalled (s : List ℕ) : Type 0 where
  pub first : List ℕ
  pub lines : List (List ℕ)
  pub behind : List ℕ
  pub pieces : split 10 s ≡ first ∷ (lines ++ (behind ∷ []))
  pub n : ℕ
  pub caps : List ℕ
  pub sizes : first_line first ≡ given n caps
  pub rows : List ℕ
  pub printed : output s ≡ rows ++ total_row (after_lines n (opened n (cap_of caps)) lines).counters
  pub of_list : OfList n (cap_of caps) (length lines) (after_lines n (opened n (cap_of caps)) lines)

-- every input is one, or gets `R 17` alone
abbrev pub EveryOutput : Type 0
EveryOutput = (s : List ℕ) → (output s ≡ alone) ⊎ Totalled s
