-- Before each round, what is left to trim makes the whole. Assumes nothing.
use native.Mathlib.Omega.{arith}
use borrow.Author.Rules.{rules}
use Rattle.trim.proofs.Trimming.{trimming_done, trimming_end, trimming_round}
use Rattle.trim.proofs.trim.Goals as goal

pub returns-then-count-cap : goal.returns-then-count-cap
returns-then-count-cap c = trimming_done _ _ _ _ _ _ c.loop-extras.invariant (omega arith)

pub loop-extras-preserved : goal.loop-extras-preserved
loop-extras-preserved c = trimming_round _ _ _ _ _ _ c.loop-extras.invariant c.requires.0 (search rules) (omega arith) c.round-pos.ensures.0 c.round-pos.ensures.1 c.round-pos.ensures.2

pub returns : goal.returns
returns c = trimming_end _ _ _ _ _ _ c.loop-extras.invariant (omega arith)
