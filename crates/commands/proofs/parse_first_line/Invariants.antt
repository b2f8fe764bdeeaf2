-- One cap after the other is stored. Assumes nothing.
use Rattle.commands.proofs.Caps.{Found}
use Rattle.commands.proofs.parse_first_line.Given as goal

abbrev pub invariant-loop-field : goal.invariant-loop-field
invariant-loop-field l = Found goal.iterator-loop-field.next_gives l.line l.n l.caps l.count l.field-iterator
