-- The number of held frames, then the trailer. Assumes nothing.
use mathlib.Core.Path.{◌∙◌}
use borrow.Author.Rules.{rules}
use Rattle.image.proofs.Stored.{laid-held, laid-read, laid-sealed}
use Rattle.image.proofs.store_held.Goals as goal

pub returns : goal.returns
returns c =
    let i = c.args.s.now in
    let read = laid-read i (λ k. search rules) c.requires in
    c.write_trailer.ensures.1 ∙ laid-sealed _ _ (laid-held _ i read c.args.held)
