-- From first, and the number only where it is the same. Assumes nothing.
use mathlib.Core.Path.{◌∙◌, ap₂, sym}
use borrow.Author.Tests.{ne_eqb}
use lib.Dec.{eqb}
use Rattle.arrival.proofs.Sound.{header-room}
use Rattle.holdback.proofs.Origins.{origin_from, origin_number}
use Rattle.holdback.proofs.same_origin.Goals as goal

pub read-requires : goal.read-requires
read-requires c = header-room _ c.requires

pub returns-then-read-from : goal.returns-then-read-from
returns-then-read-from c = λ g p k. ap₂ eqb c.number.ensures k ∙ sym (origin_number _ _ g c.read.ensures (c.if-read-from.true ∙ p))

pub returns-else-read-from : goal.returns-else-read-from
returns-else-read-from c = λ g p k. ne_eqb _ _ c.if-read-from.false ∙ sym (origin_from _ _ g c.read.ensures (λ q. c.if-read-from.false (q ∙ sym p)))
