-- None of the first i frames of the log is so named. Assumes nothing.
use mathlib.Core.Path.{◌∙◌, ap, refl, sym}
use native.Mathlib.Omega.{arith}
use lib.ListN.{length}
use Rattle.world.proofs.Logs.{begins-part, begins-room, log-part, joined-none, issue_hit, issue-next, issue-none, some-hit, some-none}
use Rattle.world.specs.Steps.{named}
use Rattle.world.proofs.log.find.Goals as goal

pub loop-i-init : goal.loop-i-init
loop-i-init c = record { behind = λ f b h. sym (ap length joined-none); passed = λ f b h. refl }

pub frame_end-end-requires : goal.frame_end-end-requires
frame_end-end-requires c = begins-room c.requires (omega arith) c.loop-i.invariant.behind

pub slice_bounds-is_named-end : goal.slice_bounds-is_named-end
slice_bounds-is_named-end c =
    let p = begins-part c.requires (omega arith) c.loop-i.invariant.behind c.frame_end-end.ensures in omega (arith, p.inside)

pub is_named-requires : goal.is_named-requires
is_named-requires c =
    let p = begins-part c.requires (omega arith) c.loop-i.invariant.behind c.frame_end-end.ensures in rw p.same p.sound

pub returns-then-is_named : goal.returns-then-is_named
returns-then-is_named c =
    λ f b h.
    let p = log-part f _ c.loop-i.i c.loop-i.at c.frame_end-end.result b (omega arith) (c.loop-i.invariant.behind f b (omega arith)) c.frame_end-end.ensures in
    some-hit _ _ (c.loop-i.invariant.passed f b h
    ∙ issue_hit _ _ c.loop-i.i f (omega arith) (sym (c.is_named.ensures ∙ ap (named _ _) p.same) ∙ c.if-is_named.true))

pub loop-i-preserved : goal.loop-i-preserved
loop-i-preserved c = record {
  behind =
      λ f b h. (log-part f _ c.loop-i.i c.loop-i.at c.frame_end-end.result b (omega arith) (c.loop-i.invariant.behind f b h) c.frame_end-end.ensures).next;
  passed =
      λ f b h.
      let p = log-part f _ c.loop-i.i c.loop-i.at c.frame_end-end.result b (omega arith) (c.loop-i.invariant.behind f b (omega arith)) c.frame_end-end.ensures in
      c.loop-i.invariant.passed f b h
      ∙ issue-next _ _ c.loop-i.i f (omega arith) (sym (c.is_named.ensures ∙ ap (named _ _) p.same) ∙ c.if-is_named.false);
}

pub returns : goal.returns
returns c = λ f b h. some-none _ (c.loop-i.invariant.passed f b h ∙ issue-none _ _ c.loop-i.i _ f (omega arith) (omega arith))
