-- Line by line: what is printed so far and the definition on what is left make the whole output. Assumes nothing.
use mathlib.Core.Bool.{not}
use mathlib.Core.Path.{◌∙◌, ap, refl}
use native.Mathlib.Omega.{arith}
use Rattle.simulation.proofs.Lines.{parted-length, running_ends, running_goes, running_standing, running_starts}
use Rattle.simulation.proofs.run_lines.Goals as goal

pub loop-line-init : goal.loop-line-init
loop-line-init c = (refl, refl, refl, omega arith, λ n caps h. running_starts n caps _ _ _ _ _ h c.default-counters.ensures)

pub take-end-requires : goal.take-end-requires
take-end-requires c =
    let p = c.requires in
    let i = c.loop-line.invariant in
    let r = i.4 p.0.n p.0.caps p.0.holds in (
      running_standing _ _ _ _ _ _ _ _ _ _ r (omega (arith, p.1)),
      omega (arith, i.2, i.3, r.stands.world.issued, r.stands.world.below, p.1, p.2),
    )

pub loop-line-smaller : goal.loop-line-smaller
loop-line-smaller c = omega (arith, parted-length _ _ _ c.in-Some.ensures)

pub loop-line-preserved : goal.loop-line-preserved
loop-line-preserved c =
    let t = c.take-end in
    let i = c.loop-line.invariant in
    let e = c.in-Some.ensures in
    let l = parted-length _ _ _ e in (
      t.auto.queues ∙ i.0,
      t.auto.log ∙ i.1,
      t.auto.out ∙ i.2,
      omega (arith, t.ensures.0, i.3, l),
      λ n caps h.
          let r = i.4 n caps h in
          running_goes n caps _ _ _ _ _ _ _ _ r _ _ e _ _ _ _ _
          (t.ensures.1 n caps r.steps r.yard (omega (arith, r.few, c.requires.1, l)) r.stands),
    )

pub put_ending-requires : goal.put_ending-requires
put_ending-requires c =
    let p = c.requires in
    let i = c.loop-line.invariant in
    let r = i.4 p.0.n p.0.caps p.0.holds in
    omega (arith, i.2, i.3, r.stands.world.issued, r.stands.world.below, p.1, p.2)

pub returns : goal.returns
returns c =
    let p = c.requires in
    let i = c.loop-line.invariant in
    let r = i.4 p.0.n p.0.caps p.0.holds in
    let e = c.put_ending.ensures in (
      omega (arith, e.0, i.3, r.stands.world.issued, r.stands.world.below, p.1),
      λ n caps h. running_ends n caps _ _ _ _ _ _ _ _ (i.4 n caps h) c.in_default.ensures _ (ap not c.is_empty.ensures) _ _ e.1,
    )
