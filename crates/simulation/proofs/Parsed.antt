-- A line with a command has at least three bytes, and the number printed with the command is below 1,000. Assumes nothing.
use Prim.Native.Nat.{ℕ, ◌+◌, ◌≤◌, ◌<◌}
use Rattle.std.specs.Prelude.{None, Option, Some}
use mathlib.Core.Bool.{cond}
use mathlib.Core.List.{List, [], ◌∷◌}
use mathlib.Core.Path.{◌≡◌, refl, sym, ◌∙◌, subst}
use native.Mathlib.Decide.{dec_le}
use native.Mathlib.Omega.{arith}
use lib.Dec.{eqb}
use lib.ListN.{length}
use Rattle.wire.proofs.Tests.{cond_elim}
use Rattle.text.specs.Pieces.{split}
use Rattle.text.specs.Fields.{value}
use Rattle.text.proofs.Fields.{never_both, value-below, value-empty}
use Rattle.text.proofs.Pieces.{split-total, total}
use Rattle.commands.specs.Commands.{command, letter, of_pieces, with_one, with_two}
use Rattle.commands.specs.declared.Command.{Command}
use Rattle.commands.specs.declared.Command.TheVariants as command
use Rattle.simulation.specs.Commanded.{printed_with}

-- what a line of k bytes has where it has a command
abbrev InLine : ℕ → Option Command → Type 0
InLine k None = Unit {0}
InLine k (Some c) = (3 ≤ k) × (printed_with c < 1000)

-- a letter is a piece of one byte
letter-one : (l : List ℕ) (c : ℕ) → letter l ≡ Some c → length l ≡ 1
unfolding letter
letter-one [] c e = absurd (never_both c e)
letter-one (b ∷ []) c e = refl
letter-one (b ∷ d ∷ l) c e = absurd (never_both c e)

-- a number is a piece of at least one byte
number-some : (s : List ℕ) (v : ℕ) → value 3 s ≡ Some v → 1 ≤ length s
number-some s v e = go (dec_le 1 (length s))
  where
    go : Dec (1 ≤ length s) → 1 ≤ length s
    go (yes h) = h
    go (no h) = absurd (never_both v (sym (value-empty 3 s (omega arith)) ∙ e))

with_one_lem : (k : ℕ) (l i : List ℕ) (a v : Option ℕ) → letter l ≡ a → value 3 i ≡ v → length l + length i + 1 ≤ k → InLine k (with_one a v)
unfolding with_one
with_one_lem k l i None v d e w = tt
with_one_lem k l i (Some c) None d e w = tt
with_one_lem k l i (Some c) (Some m) d e w =
    let one = letter-one l c d in
    let some = number-some i m e in
    let below = value-below 3 i m e in
    cond_elim (InLine k) (eqb c 65) (Some (command.Offer m)) (cond (eqb c 68) (Some (command.Deliver m)) None) (λ t. (omega arith, below))
    (λ f. cond_elim (InLine k) (eqb c 68) (Some (command.Deliver m)) None (λ t. (omega arith, below)) (λ t. tt))

with_two_lem : (k : ℕ) (l i : List ℕ) (a u v : Option ℕ) → letter l ≡ a → value 3 i ≡ u → length l + length i + 1 ≤ k → InLine k (with_two a u v)
unfolding with_two
with_two_lem k l i None u v d e w = tt
with_two_lem k l i (Some c) None v d e w = tt
with_two_lem k l i (Some c) (Some m) None d e w = tt
with_two_lem k l i (Some c) (Some m) (Some j) d e w =
    let one = letter-one l c d in
    let some = number-some i m e in
    let below = value-below 3 i m e in
    cond_elim (InLine k) (eqb c 83) (Some (command.Send m j)) None (λ t. (omega arith, below)) (λ t. tt)

of_pieces_lem : (k : ℕ) (ps : List (List ℕ)) → total ps ≡ k + 1 → InLine k (of_pieces ps)
unfolding total of_pieces
of_pieces_lem k [] w = tt
of_pieces_lem k (l ∷ []) w = tt
of_pieces_lem k (l ∷ i ∷ []) w = with_one_lem k l i (letter l) (value 3 i) refl refl (omega arith)
of_pieces_lem k (l ∷ i ∷ j ∷ []) w = with_two_lem k l i (letter l) (value 3 i) (value 3 j) refl refl (omega arith)
of_pieces_lem k (l ∷ i ∷ j ∷ m ∷ ps) w = tt

command_in_line : (s : List ℕ) → InLine (length s) (command s)
unfolding command
command_in_line s = of_pieces_lem (length s) (split 32 s) (split-total 32 s)

pub command-line : (s : List ℕ) (c : Command) → command s ≡ Some c → (3 ≤ length s) × (printed_with c < 1000)
command-line s c e = subst (InLine (length s)) e (command_in_line s)
