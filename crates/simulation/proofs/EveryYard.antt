-- Demand 3 speaks of every yard. Assumes nothing.
use Prim.Native.Nat.{ℕ, ◌+◌, ◌<◌}
use Rattle.std.specs.Prelude.{None, Option, Some}
use mathlib.Core.List.{List, [], ◌∷◌}
use mathlib.Core.Path.{◌≡◌, subst, sym}
use native.Mathlib.Nat.{add-zero, zero-add}
use native.Mathlib.Omega.{arith}
use lib.ListN.{length}
use Rattle.matrix.specs.Message.{EachInRange}
use Rattle.commands.specs.Commands.{command}
use Rattle.commands.specs.declared.Command.{Command}
use Rattle.commands.specs.declared.Command.TheVariants as command
use Rattle.world.proofs.Starts.{opens}
use Rattle.world.specs.Start.{cap_of}
use Rattle.counting.proofs.Kept.{Kept, deliver-kept, kept-start, later-kept, of_list_lem, offer-kept, send-kept}
use Rattle.counting.specs.State.{State, opened}
use Rattle.simulation.specs.EveryYard.{EveryYard, after_lines}
use Rattle.simulation.specs.Yard.{line, max_issues}

module _ (n : ℕ) (caps : ℕ → ℕ) (inside : EachInRange n caps) where
  -- a line
  line_kept : (k : ℕ) (y : State) → Kept n caps k y → k < 1000000000 → (c : Option Command) → Kept n caps (k + 1) (line n y c).yard
  unfolding line
  line_kept k y r h (Some (command.Send i j)) = send-kept n caps k y r max_issues i j
  line_kept k y r h (Some (command.Offer m)) = offer-kept n caps k y r inside h m
  line_kept k y r h (Some (command.Deliver j)) = deliver-kept n caps k y r max_issues j
  line_kept k y r h None = later-kept n caps k y r

  -- and all behind it
  lines-kept : (k : ℕ) (y : State) (ls : List (List ℕ)) → Kept n caps k y → k + length ls < 1000000000 → Kept n caps (k + length ls) (after_lines n y ls)
  lines-kept k y [] r h = subst (λ (x : ℕ). Kept n caps x y) (sym (add-zero k)) r
  lines-kept k y (l ∷ ls) r h =
      let z : State = (line n y (command l)).yard in
      let e : k + 1 + length ls ≡ k + length (l ∷ ls) = omega arith in
      subst (λ (x : ℕ). Kept n caps x (after_lines n z ls)) e (lines-kept (k + 1) z ls (line_kept k y r (omega arith) (command l)) (omega arith))

pub every_yard : EveryYard
every_yard n list open' ls short =
    let caps : ℕ → ℕ = cap_of list in
    let inside : EachInRange n caps = (opens n list open').range in
    let z : State = after_lines n (opened n caps) ls in
    let r : Kept n caps (length ls) z
    = subst (λ (x : ℕ). Kept n caps x z) (zero-add (length ls)) (lines-kept n caps inside 0 (opened n caps) ls (kept-start n caps) (omega arith)) in
    of_list_lem n caps (length ls) z inside r short
