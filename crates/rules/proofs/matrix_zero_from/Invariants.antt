-- The rows from n on are tested, and the loop has tested the columns from n on of the rows before x. Assumes nothing.
use Prim.Native.Nat.{ℕ}
use mathlib.Core.Bool.{Bool, ◌&&◌, ◌||◌}
use mathlib.Core.List.{List}
use mathlib.Core.Path.{◌≡◌}
use lib.Dec.{eqb, ltb}
use Rattle.matrix.specs.Array.{entry}
use Rattle.protocol.specs.Node.{each_below}
use Rattle.rules.proofs.matrix_zero_from.Given as goal

-- the two passes, the second up to row x
abbrev pub passed : List ℕ → ℕ → ℕ → Bool
passed m n x = each_below 12 (λ a. each_below 12 (λ b. ltb a n || eqb (entry m a b) 0)) && each_below x (λ a. each_below 12 (λ b. ltb b n || eqb (entry m a b) 0))

abbrev pub invariant-loop-x : goal.invariant-loop-x
invariant-loop-x l = l.ok ≡ passed l.m l.n l.x
