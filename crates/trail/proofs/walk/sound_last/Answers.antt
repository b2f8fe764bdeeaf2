-- The three tests of a bad end, in the definition's order. Assumes nothing.
use Prim.Native.Nat.{◌+◌, ◌-◌, ◌≤◌}
use mathlib.Core.Bool.{false}
use mathlib.Core.Path.{◌∙◌, ◌≡◌, sym}
use native.Mathlib.Omega.{arith}
use lib.ListN.{length}
use Rattle.trail.proofs.Ends.{bad-frame, bad_points, bad-short, good-end, none-bad, some_good}
use Rattle.trail.specs.Sound.{unsound}
use Rattle.trail.specs.Walk.{last_frame, last_length, last_start}
use Rattle.wire.proofs.Bytes.{rest-lent}
use Rattle.wire.specs.Trailer.{count_back}
use Rattle.trail.proofs.walk.sound_last.Goals as goal
use Rattle.trail.proofs.walk.sound_last.Goals.{then-end-length-via-then-end-length, then-end-length-via-else-end-length+then-unsound}

pub returns-then-end-lt4 : goal.returns-then-end-lt4
returns-then-end-lt4 c = (none-bad _ (bad-short _ c.if-end-lt4.true))

pub returns-then-end-length : goal.returns-then-end-length
unfolding count_back
returns-then-end-length c =
    let s = c.args.s.now in
    elim c.then-end-length.branch [
      | then-end-length-via-then-end-length w ↦ none-bad s (bad_points s (omega (arith, c.get_u16.ensures, w.if-end-length.true)))
      | then-end-length-via-else-end-length+then-unsound w ↦
          let e : length s - (c.get_u16.result + 4) ≡ last_start s = omega (arith, c.get_u16.ensures) in
          none-bad s (bad-frame s (rw (← e, ← rest-lent s _) (sym w.unsound.ensures ∙ w.if-unsound.true)))
    ]

pub returns : goal.returns
unfolding count_back
returns c =
    let s = c.args.s.now in
    let e : length s - (c.get_u16.result + 4) ≡ last_start s = omega (arith, c.get_u16.ensures) in
    let inside : last_length s ≤ length s = omega (arith, c.get_u16.ensures, c.if-end-length.false) in
    let sound : unsound (last_frame s) ≡ false = rw (← e, ← rest-lent s _) (sym c.unsound.ensures ∙ c.if-unsound.false) in
    let size : c.get_u16.result + 4 ≡ last_length s = omega (arith, c.get_u16.ensures) in
    rw size (some_good s (good-end s c.if-end-lt4.false inside sound))
