-- Worked examples, which pin the definitions: leading zeros, large fields, and lines of another form. Assumes nothing.
use Rattle.std.specs.Prelude.{None, Some}
use mathlib.Core.List.{[], ◌∷◌}
use mathlib.Core.Path.{◌≡◌, refl}
use Rattle.text.specs.Fields.{continued, is_digit, value}
use Rattle.text.specs.Pieces.{grown, split}
use Rattle.commands.specs.Commands as commands
use Rattle.commands.specs.FirstLine as first_line
use Rattle.commands.specs.declared.Command.TheVariants as Command

-- `S 0 257`, `S 00 1`, `A 0`, `D 1`, `S 0 1 `, `S  0 1`, `A 0001`, `D 1` with a carriage return behind it, and the empty line
pub command-examples : (commands.command (83 ∷ 32 ∷ 48 ∷ 32 ∷ 50 ∷ 53 ∷ 55 ∷ []) ≡ Some (Command.Send 0 257))
    × (commands.command (83 ∷ 32 ∷ 48 ∷ 48 ∷ 32 ∷ 49 ∷ []) ≡ Some (Command.Send 0 1))
    × (commands.command (65 ∷ 32 ∷ 48 ∷ []) ≡ Some (Command.Offer 0))
    × (commands.command (68 ∷ 32 ∷ 49 ∷ []) ≡ Some (Command.Deliver 1))
    × (commands.command (83 ∷ 32 ∷ 48 ∷ 32 ∷ 49 ∷ 32 ∷ []) ≡ None)
    × (commands.command (83 ∷ 32 ∷ 32 ∷ 48 ∷ 32 ∷ 49 ∷ []) ≡ None)
    × (commands.command (65 ∷ 32 ∷ 48 ∷ 48 ∷ 48 ∷ 49 ∷ []) ≡ None)
    × (commands.command (68 ∷ 32 ∷ 49 ∷ 13 ∷ []) ≡ None)
    × (commands.command [] ≡ None)
unfolding commands.command commands.of_pieces commands.letter commands.with_one commands.with_two split grown value continued is_digit
command-examples = (refl, refl, refl, refl, refl, refl, refl, refl, refl)

-- `3 3 3 3`, `002 09 1`, `4 16 4 5 6`, and `0`, which is out of range but misses no cap; and of another form: `3 3`, another cap missing, one too many,
-- more caps than a line gives, a field of four digits, a space behind the last field, two spaces, n alone, and the empty line
pub first_line-examples : (first_line.first_line (51 ∷ 32 ∷ 51 ∷ 32 ∷ 51 ∷ 32 ∷ 51 ∷ []) ≡ first_line.given 3 (3 ∷ 3 ∷ 3 ∷ 0 ∷ []))
    × (first_line.first_line (48 ∷ 48 ∷ 50 ∷ 32 ∷ 48 ∷ 57 ∷ 32 ∷ 49 ∷ []) ≡ first_line.given 2 (9 ∷ 1 ∷ 0 ∷ 0 ∷ []))
    × (first_line.first_line (52 ∷ 32 ∷ 49 ∷ 54 ∷ 32 ∷ 52 ∷ 32 ∷ 53 ∷ 32 ∷ 54 ∷ []) ≡ first_line.given 4 (16 ∷ 4 ∷ 5 ∷ 6 ∷ []))
    × (first_line.first_line (48 ∷ []) ≡ first_line.given 0 (0 ∷ 0 ∷ 0 ∷ 0 ∷ []))
    × (first_line.first_line (51 ∷ 32 ∷ 51 ∷ []) ≡ None)
    × (first_line.first_line (51 ∷ 32 ∷ 51 ∷ 32 ∷ 51 ∷ []) ≡ None)
    × (first_line.first_line (51 ∷ 32 ∷ 51 ∷ 32 ∷ 51 ∷ 32 ∷ 51 ∷ 32 ∷ 51 ∷ []) ≡ None)
    × (first_line.first_line (53 ∷ 32 ∷ 53 ∷ 32 ∷ 53 ∷ 32 ∷ 53 ∷ 32 ∷ 53 ∷ 32 ∷ 53 ∷ []) ≡ None)
    × (first_line.first_line (50 ∷ 32 ∷ 48 ∷ 48 ∷ 48 ∷ 50 ∷ 32 ∷ 50 ∷ []) ≡ None)
    × (first_line.first_line (50 ∷ 32 ∷ 50 ∷ 32 ∷ 50 ∷ 32 ∷ []) ≡ None)
    × (first_line.first_line (50 ∷ 32 ∷ 50 ∷ 32 ∷ 32 ∷ 50 ∷ []) ≡ None)
    × (first_line.first_line (51 ∷ []) ≡ None)
    × (first_line.first_line [] ≡ None)
unfolding first_line.first_line first_line.of_pieces first_line.sizes first_line.counted first_line.padded first_line.numbers first_line.with_number
    split grown value continued is_digit
first_line-examples = (refl, refl, refl, refl, refl, refl, refl, refl, refl, refl, refl, refl, refl)
