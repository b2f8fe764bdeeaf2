-- Each number is written behind a space, then the line feed. Assumes nothing.
use Rattle.text.proofs.Print.{Printing}
use Rattle.text.proofs.put_line_end.Given as goal

abbrev pub invariant-loop-v : goal.invariant-loop-v
invariant-loop-v l = Printing l.at l.values l.initial.out l.out l.end l.v-index
