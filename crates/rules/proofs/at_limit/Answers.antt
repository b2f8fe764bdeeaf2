-- Both passes. Assumes nothing.
use Rattle.rules.proofs.Facts.{limit_either}
use Rattle.rules.proofs.at_limit.Goals as goal

pub returns : goal.returns
returns c = λ d p q r. rw (c.row_at_limit.ensures, c.vector_at_limit.ensures) (limit_either d _ _ _ p q r)
