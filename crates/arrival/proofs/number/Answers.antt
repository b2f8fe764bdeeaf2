-- The loop has passed the entries before entry k, none of which stands in row from and column to. Assumes nothing.
use mathlib.Core.Path.{◌∙◌, sym}
use native.Mathlib.Nat.{sub-zero}
use native.Mathlib.Omega.{arith}
use borrow.Author.Rules.{rules}
use Rattle.arrival.proofs.Arrived.{look_end, look_found, look_passed, number_look}
use Rattle.arrival.proofs.Sound.{entry-room, header-room, inside-read}
use Rattle.arrival.proofs.number.Goals as goal

pub read-h-requires : goal.read-h-requires
read-h-requires c = header-room c.args.s.now c.requires

pub loop-k-init : goal.loop-k-init
loop-k-init c = rw sub-zero

pub read-a-requires : goal.read-a-requires
read-a-requires c = entry-room c.args.s.now c.read-h.result c.loop-k.k c.requires c.read-h.ensures (search rules)

pub overflow_add-result : goal.overflow_add-result
overflow_add-result c =
    let within = inside-read c.args.s.now c.read-h.result c.loop-k.k c.read-a.result c.requires
    c.read-h.ensures (search rules) c.read-a.ensures in
    record { fits = omega (arith, within.most) }

pub returns-then-stands_at : goal.returns-then-stands_at
returns-then-stands_at c =
    let a = c.args in
    let h = c.read-h.result in
    let here = sym c.stands_at.ensures ∙ c.if-stands_at.true in
    let found = look_found a.s.now c.loop-k.k h.e h.from h.to c.read-a.result (search rules) c.read-a.ensures here in
    omega (arith, number_look a.s.now h c.read-h.ensures, c.loop-k.invariant, found)

pub loop-k-preserved : goal.loop-k-preserved
loop-k-preserved c =
    let h = c.read-h.result in
    let other = sym c.stands_at.ensures ∙ c.if-stands_at.false in
    c.loop-k.invariant ∙ look_passed c.args.s.now c.loop-k.k h.e h.from h.to c.read-a.result
    (search rules) c.read-a.ensures other

pub returns : goal.returns
returns c =
    let a = c.args in
    let h = c.read-h.result in
    let end = look_end a.s.now c.loop-k.k h.e h.from h.to (search rules) in
    omega (arith, number_look a.s.now h c.read-h.ensures, c.loop-k.invariant, end)
