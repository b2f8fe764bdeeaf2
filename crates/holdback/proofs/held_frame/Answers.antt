-- The frame's own length keeps it in its slot. Assumes nothing.
use native.Mathlib.Omega.{arith}
use Rattle.holdback.proofs.Parts.{HeldPart, held-part}
use Rattle.holdback.proofs.held_frame.Goals as goal

part : (c : goal.After-frame_end-end) → HeldPart c.args.q.now c.args.i c.frame_end-end.result
part c = held-part c.args.held c.args.q.now c.args.i c.frame_end-end.result c.requires.0 c.requires.1 c.frame_end-end.ensures

pub frame_end-end-requires : goal.frame_end-end-requires
frame_end-end-requires c = omega (arith, c.requires.0.size, c.requires.0.most)

pub slice_bounds-result-start : goal.slice_bounds-result-start
slice_bounds-result-start c = let p = part c in omega (arith, p.from)

pub slice_bounds-result-end : goal.slice_bounds-result-end
slice_bounds-result-end c = let p = part c in omega (arith, p.inside)

pub returns : goal.returns
returns c =
    let p : HeldPart c.args.q.now c.args.i c.frame_end-end.result =
    held-part c.args.held c.args.q.now c.args.i c.frame_end-end.result c.requires.0 c.requires.1 c.frame_end-end.ensures in
    record { same = p.same; sound = rw p.same p.checked }
