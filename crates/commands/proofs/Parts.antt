-- The pieces of a line by its first two spaces. Assumes nothing.
use Rattle.std.specs.Prelude.{None, Option, Some}
use Prim.Native.Nat.{ℕ}
use mathlib.Core.List.{List, [], ◌∷◌}
use mathlib.Core.Path.{◌≡◌, refl}
use Rattle.text.specs.Fields.{value}
use Rattle.text.specs.Pieces.{split}
use Rattle.text.proofs.Fields.{value-parted}
use Rattle.text.proofs.Pieces.{split-elim}
use Rattle.commands.specs.Commands as commands

-- a second field that is no number
with_none : (l i : Option ℕ) → commands.with_two l i None ≡ None
unfolding commands.with_two
with_none (Some l) (Some i) = refl
with_none (Some l) None = refl
with_none None i = refl

-- a line of one piece, of two, and of three or more
pub command-bare : (s : List ℕ) → split 32 s ≡ s ∷ [] → commands.command s ≡ None
unfolding commands.command commands.of_pieces
command-bare s e = rw e

pub command-one : (s l t : List ℕ) → split 32 s ≡ l ∷ split 32 t → split 32 t ≡ t ∷ []
    → commands.command s ≡ commands.with_one (commands.letter l) (value 3 t)
unfolding commands.command commands.of_pieces
command-one s l t e f = rw (e, f)

pub command-two : (s l t i j : List ℕ) → split 32 s ≡ l ∷ split 32 t → split 32 t ≡ i ∷ split 32 j
    → commands.command s ≡ commands.with_two (commands.letter l) (value 3 i) (value 3 j)
unfolding commands.command commands.of_pieces
command-two s l t i j e f =
    rw (e, f)
    (split-elim (λ (ps : List (List ℕ)). commands.of_pieces (l ∷ i ∷ ps) ≡ commands.with_two (commands.letter l) (value 3 i) (value 3 j)) 32 j refl
    (λ p q ps g. rw (value-parted 3 j p q ps g, with_none (commands.letter l) (value 3 i))))

-- for the function that reads a command
pub ruleset parts = (command-bare, command-one, command-two)
