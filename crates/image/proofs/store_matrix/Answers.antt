-- The matrix, then the trailer. Assumes nothing.
use mathlib.Core.Path.{◌∙◌}
use borrow.Author.Rules.{rules}
use Rattle.image.proofs.Stored.{laid_as, laid-matrix, laid-read, laid-sealed}
use Rattle.image.proofs.store_matrix.Goals as goal

pub returns : goal.returns
returns c =
    let i = c.args.s.now in
    let read = laid-read i (λ k. search rules) c.requires in
    let l = laid_as c.write_numbers.ensures (laid-matrix _ i read c.args.m.now (search rules)) in
    c.write_trailer.ensures.1 ∙ laid-sealed _ _ l
