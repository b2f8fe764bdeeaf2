-- The frame is laid behind the held ones. Assumes nothing.
use mathlib.Core.Path.{◌∙◌}
use Rattle.holdback.proofs.Changes.{held-behind}
use Rattle.holdback.proofs.hold.Goals as goal

pub returns : goal.returns
returns c = c.copy.ensures ∙ held-behind c.args.held c.args.q.now c.args.s.now c.requires.1 c.requires.2 c.requires.3
