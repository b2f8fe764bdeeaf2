-- The header, the body, the entries and the number. Assumes nothing.
use native.Mathlib.Omega.{arith}
use Rattle.arrival.proofs.Sound.{header-room}
use Rattle.node.proofs.Taking.{bodied, body-part, taken_in}
use Rattle.node.proofs.Node.take_in.Goals as goal

pub read-h-requires : goal.read-h-requires
read-h-requires c = header-room _ c.requires.0

pub slice_bounds-copy-end : goal.slice_bounds-copy-end
slice_bounds-copy-end c = omega (arith, (bodied _ c.read-h.result c.requires.0 c.read-h.ensures).inside)

pub copy-requires : goal.copy-requires
copy-requires c =
    let y = bodied _ c.read-h.result c.requires.0 c.read-h.ensures in
    rw (body-part _ c.read-h.result) (omega (arith, y.size, y.short, c.requires.4))

pub returns : goal.returns
returns c =
    taken_in c.args.s.now c.read-h.result _ c.args.self.now _ c.args.out.now _ c.args.body.now _
    c.args.tried _ _ _ c.requires.0 c.read-h.ensures c.of-kind.ensures c.number-number.ensures c.learn-t.ensures c.copy.ensures
