-- The loop has passed the entries before entry k, none of which exceeds the matrix. Assumes nothing.
use mathlib.Core.Path.{◌∙◌, sym}
use native.Mathlib.Nat.{sub-zero}
use borrow.Author.Rules.{rules}
use Rattle.arrival.proofs.Arrived.{claims-entries}
use Rattle.arrival.proofs.Sound.{entry-room, header-room, inside-read}
use Rattle.arrival.proofs.Walks.{some_end, some-found, some-passed}
use Rattle.arrival.specs.Tests.{exceeds}
use Rattle.matrix.specs.Array.{entry}
use Rattle.arrival.proofs.claims_too_much.Goals as goal

pub read-h-requires : goal.read-h-requires
read-h-requires c = header-room c.args.s.now c.requires

pub loop-k-init : goal.loop-k-init
loop-k-init c = rw sub-zero

pub read-requires : goal.read-requires
read-requires c = entry-room c.args.s.now c.read-h.result c.loop-k.k c.requires c.read-h.ensures (search rules)

pub exceeds-requires : goal.exceeds-requires
exceeds-requires c =
    let within = inside-read c.args.s.now c.read-h.result c.loop-k.k c.read.result c.requires
    c.read-h.ensures (search rules) c.read.ensures in
    (within.row, within.column)

pub returns-then-exceeds : goal.returns-then-exceeds
returns-then-exceeds c =
    let a = c.args in
    let over = sym c.exceeds.ensures ∙ c.if-exceeds.true in
    let found = some-found (exceeds a.me (entry a.m.now)) a.s.now c.loop-k.k c.read-h.result.e c.read.result
    (search rules) c.read.ensures over in
    λ n cap deliv l. sym (claims-entries a.s.now c.read-h.result a.me a.m.now c.requires c.read-h.ensures n cap deliv l ∙ c.loop-k.invariant ∙ found)

pub loop-k-preserved : goal.loop-k-preserved
loop-k-preserved c =
    let a = c.args in
    let under = sym c.exceeds.ensures ∙ c.if-exceeds.false in
    c.loop-k.invariant ∙ some-passed (exceeds a.me (entry a.m.now)) a.s.now c.loop-k.k c.read-h.result.e c.read.result
    (search rules) c.read.ensures under

pub returns : goal.returns
returns c =
    let a = c.args in
    let end = some_end (exceeds a.me (entry a.m.now)) a.s.now c.loop-k.k c.read-h.result.e (search rules) in
    λ n cap deliv l. sym (claims-entries a.s.now c.read-h.result a.me a.m.now c.requires c.read-h.ensures n cap deliv l ∙ c.loop-k.invariant ∙ end)
