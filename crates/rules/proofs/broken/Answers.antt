-- The cheap tests first, then the passes over the counts. Assumes nothing.
use mathlib.Core.Bool.{not}
use mathlib.Core.Path.{◌∙◌, ap, sym}
use native.Mathlib.Omega.{arith}
use Rattle.matrix.specs.Array.{entry, vector}
use Rattle.rules.proofs.Facts.{when_out_of_range, own-count, ranged, rules-left, too_full, too_many}
use Rattle.wire.proofs.Tests.{denied, passed}
use Rattle.std.proofs.lemmas.Bool.{not_from_true, not_from_false}
use Rattle.rules.proofs.broken.Goals as goal

pub returns-then-not-in_range : goal.returns-then-not-in_range
returns-then-not-in_range c = sym (when_out_of_range _ _ _ _ _ _ (denied _ _ c.in_range.ensures (not_from_false _ c.if-not-in_range.true)))

pub returns-then-count-cap : goal.returns-then-count-cap
returns-then-count-cap c = sym (too_many _ _ _ _ _ _ (omega (arith, c.if-count-cap.true, c.count.ensures)))

pub returns-then-held-gt-MAX_HELD : goal.returns-then-held-gt-MAX_HELD
returns-then-held-gt-MAX_HELD c = sym (too_full _ _ _ _ _ _ c.if-held-gt-MAX_HELD.true)

pub bounds-v-me : goal.bounds-v-me
bounds-v-me c =
    let r = ranged _ _ _ (passed _ _ c.in_range.ensures (not_from_true _ c.if-not-in_range.false)) in
    omega (arith, r.below, r.at_most12)

pub returns-then-v-me-ne0 : goal.returns-then-v-me-ne0
returns-then-v-me-ne0 c = sym (own-count _ _ _ _ _ _ c.if-v-me-ne0.true)

pub counts_ok-requires : goal.counts_ok-requires
counts_ok-requires c =
    let r = ranged _ _ _ (passed _ _ c.in_range.ensures (not_from_true _ c.if-not-in_range.false)) in
    (omega (arith, r.below, r.at_most12), r.at_most12)

pub returns : goal.returns
returns c =
    let a = c.args in
    ap not c.counts_ok.ensures
    ∙ sym (rules-left a.me a.n a.cap (entry a.m.now) (vector a.v.now) a.held (passed _ _ c.in_range.ensures (not_from_true _ c.if-not-in_range.false))
    (omega (arith, c.if-count-cap.false, c.count.ensures)) c.if-v-me-ne0.false c.if-held-gt-MAX_HELD.false)
