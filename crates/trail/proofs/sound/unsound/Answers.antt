-- Fewer than 12 bytes are no frame; else n is read from them, and the tests are the definition's. Assumes nothing.
use mathlib.Core.Path.{sym}
use Rattle.frame.specs.Header.{header}
use Rattle.refusal.proofs.Laws.{met-err}
use Rattle.trail.proofs.Lone.{short-unsound}
use Rattle.trail.specs.Sound.{unsound}
use Rattle.wire.proofs.Tests.{denied, passed}
use Rattle.std.proofs.lemmas.Bool.{not_from_true, not_from_false}
use Rattle.trail.proofs.sound.unsound.Goals as goal

pub returns-then-s-lt12 : goal.returns-then-s-lt12
returns-then-s-lt12 c = sym (short-unsound _ c.if-s-lt12.true)

pub returns-then-not-in_own_range : goal.returns-then-not-in_own_range
unfolding unsound header
returns-then-not-in_own_range c =
    simp (c.if-not-in_own_range.true, denied _ _ c.in_own_range.ensures (not_from_false _ c.if-not-in_own_range.true))

pub returns-else-not-in_own_range : goal.returns-else-not-in_own_range
unfolding unsound header
returns-else-not-in_own_range c =
    simp (
      passed _ _ c.in_own_range.ensures (not_from_true _ c.if-not-in_own_range.false),
      c.is_err.ensures.value,
      met-err c.check.result,
      c.check.ensures,
    )
