-- No key before place i is equal to a later one. Assumes nothing.
use Prim.Native.Nat.{◌+◌, ◌-◌, ℕ}
use mathlib.Core.List.{List}
use mathlib.Core.Path.{◌∙◌, sym}
use lib.ListN.{drop, get_or, length, take}
use borrow.Author.Rules.{rules}
use Rattle.holdback.proofs.Pairs.{equal_end, equal_hit, equal_next, among-any}
use Rattle.wire.proofs.Bytes.{rest-lent}
use Rattle.holdback.proofs.some_equal.Goals as goal

pub returns-then-contains : goal.returns-then-contains
returns-then-contains c =
    let l : List ℕ = c.args.keys.now in
    let i : ℕ = c.loop-i.i in
    let found = among-any (get_or l i 0) (take (length l - (i + 1)) (drop (i + 1) l)) ∙ sym c.contains.ensures.value ∙ c.if-contains.true in
    sym (c.loop-i.invariant ∙ equal_hit l i (search rules) (rw rest-lent at found))

pub loop-i-preserved : goal.loop-i-preserved
loop-i-preserved c =
    let l : List ℕ = c.args.keys.now in
    let i : ℕ = c.loop-i.i in
    let none = among-any (get_or l i 0) (take (length l - (i + 1)) (drop (i + 1) l)) ∙ sym c.contains.ensures.value ∙ c.if-contains.false in
    c.loop-i.invariant ∙ equal_next l i (search rules) (rw rest-lent at none)

pub returns : goal.returns
returns c = sym (c.loop-i.invariant ∙ equal_end c.args.keys.now c.loop-i.i c.loop-i-test.false)
