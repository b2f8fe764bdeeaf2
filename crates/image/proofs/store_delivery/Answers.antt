-- The matrix, the vector and the number of held frames, then the trailer. Assumes nothing.
use mathlib.Core.Path.{◌∙◌}
use borrow.Author.Rules.{rules}
use Rattle.image.proofs.Stored.{laid_as, laid-held, laid-matrix, laid-read, laid-sealed, laid-vector}
use Rattle.image.proofs.store_delivery.Goals as goal

pub returns : goal.returns
returns c =
    let i = c.args.s.now in
    let read = laid-read i (λ k. search rules)
    c.requires in
    let m = laid_as c.write_numbers.ensures (laid-matrix _ i read c.args.node.now.m (search rules)) in
    let v = laid_as c.write_numbers-2.ensures (laid-vector _ _ m c.args.node.now.deliv (search rules)) in
    c.write_trailer.ensures.1 ∙ laid-sealed _ _ (laid-held _ _ v c.args.node.now.held)
