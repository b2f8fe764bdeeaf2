-- The row is tested, then the value. Assumes nothing.
use borrow.Author.Tests.{eq-eqb}
use Rattle.arrival.specs.Tests.{exceeds}
use Rattle.matrix.proofs.Array.{entry_in}
use Rattle.arrival.proofs.exceeds.Goals as goal

pub returns-then-a-me : goal.returns-then-a-me
unfolding exceeds
returns-then-a-me c =
    let a = c.args in
    rw (
      c.from.ensures,
      c.from-then-a-me.ensures,
      eq-eqb a.a.row a.me c.if-a-me.true,
      ← c.if-a-me.true,
      entry_in a.m.now a.a.row a.a.column c.requires.0 c.requires.1,
    )
