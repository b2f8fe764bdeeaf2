-- All places are read. Assumes nothing.
use borrow.Author.Rules.{rules}
use Rattle.image.proofs.Numbers.{read_end}
use Rattle.image.proofs.read_numbers.Goals as goal

pub returns : goal.returns
returns c = read_end _ _ _ _ c.loop-k.k c.loop-k.invariant (search rules)
