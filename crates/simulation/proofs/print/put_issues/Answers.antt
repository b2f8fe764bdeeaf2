-- The headers are read one after the other, each behind the frame before it. Assumes nothing.
use Prim.Native.Nat.{◌+◌, ◌≤◌}
use mathlib.Core.Path.{refl, ap, ◌∙◌}
use native.Mathlib.Omega.{arith}
use borrow.Author.Rules.{rules}
use lib.ListN.{length}
use Rattle.frame.specs.Header.{header}
use Rattle.wire.proofs.Bytes.{rest-lent}
use Rattle.world.proofs.Logs.{log-room, log-part}
use Rattle.simulation.proofs.Rows.{issuing_goes, issuing-ends}
use Rattle.simulation.proofs.print.put_issues.Goals as goal

pub loop-i-init : goal.loop-i-init
loop-i-init c = (refl, omega arith, λ f g. record { here = g.ends; room = refl; bytes = refl })

pub slice_bounds-read-count : goal.slice_bounds-read-count
slice_bounds-read-count c =
    let inside : c.loop-i.next + 8 ≤ length c.args.log.now =
    let p = c.requires.0 in
    log-room p.frames _ c.loop-i.i c.loop-i.next p.log.begins (omega (arith, p.log.whole))
    (c.loop-i.invariant.2 p.frames p.log).here
    in
    omega (arith, inside)

pub slice_bounds-read-start : goal.slice_bounds-read-start
slice_bounds-read-start c =
    let inside : c.loop-i.next + 8 ≤ length c.args.log.now =
    let p = c.requires.0 in
    log-room p.frames _ c.loop-i.i c.loop-i.next p.log.begins (omega (arith, p.log.whole))
    (c.loop-i.invariant.2 p.frames p.log).here
    in
    let h = inside in search rules

pub slice_bounds-read-end : goal.slice_bounds-read-end
slice_bounds-read-end c =
    let inside : c.loop-i.next + 8 ≤ length c.args.log.now =
    let p = c.requires.0 in
    log-room p.frames _ c.loop-i.i c.loop-i.next p.log.begins (omega (arith, p.log.whole))
    (c.loop-i.invariant.2 p.frames p.log).here
    in
    let h = inside in search rules

pub read-h-requires : goal.read-h-requires
read-h-requires c =
    let inside : c.loop-i.next + 8 ≤ length c.args.log.now =
    let p = c.requires.0 in
    log-room p.frames _ c.loop-i.i c.loop-i.next p.log.begins (omega (arith, p.log.whole))
    (c.loop-i.invariant.2 p.frames p.log).here
    in
    let h = inside in search rules

pub put_issue-end-requires : goal.put_issue-end-requires
put_issue-end-requires c =
    let p = c.requires in
    (omega (arith, p.0.few), omega (arith, c.loop-i.invariant.0, c.loop-i.invariant.1, p.1))

pub frame_end-next-requires : goal.frame_end-next-requires
frame_end-next-requires c =
    let inside : c.loop-i.next + 8 ≤ length c.args.log.now =
    let p = c.requires.0 in
    log-room p.frames _ c.loop-i.i c.loop-i.next p.log.begins (omega (arith, p.log.whole))
    (c.loop-i.invariant.2 p.frames p.log).here
    in
    inside

pub loop-i-preserved : goal.loop-i-preserved
loop-i-preserved c =
    let r = c.put_issue-end.ensures in
    let h = c.read-h.ensures in (
      c.put_issue-end.auto.out ∙ c.loop-i.invariant.0,
      omega (arith, c.loop-i.invariant.1, r.0),
      λ f g.
          let s = c.loop-i.invariant.2 f g in
          let part = log-part f _ c.loop-i.i c.loop-i.next c.frame_end-next.result g.begins (omega (arith, g.whole)) s.here c.frame_end-next.ensures in
          issuing_goes _ _ f _ _ _ _ c.loop-i.i _ _ _ _ s (omega (arith, g.whole))
          (h ∙ ap header (rest-lent _ c.loop-i.next) ∙ part.head) part.next r.1.0 r.1.1,
    )

pub shape_of-out : goal.shape_of-out
shape_of-out c = c.loop-i.invariant.0

pub returns : goal.returns
returns c = (omega (arith, c.requires.0.order, c.loop-i.invariant.1), λ f g. issuing-ends _ _ f _ _ _ _ c.loop-i.i (c.loop-i.invariant.2 f g) (omega (arith, g.whole)))
