-- The loop has passed the entries before entry k, and the walk goes on from place `least`. Assumes nothing.
use mathlib.Core.Bool.{false, true}
use mathlib.Core.Path.{◌∙◌, ◌≡◌}
use Prim.Native.Nat.{◌-◌}
use borrow.Author.Rules.{rules}
use Rattle.frame.proofs.Checks.{entries-done, entries-rest, ok_from, walk-early, walk_end, walk_fails, walk-holds, walk-passed, walk-wrong}
use Rattle.frame.specs.Entries.{entries_from}
use Rattle.wire.proofs.Tests.{denied, passed}
use Rattle.std.proofs.lemmas.Bool.{not_from_true, not_from_false}
use Rattle.frame.proofs.check.wrong_entries.Goals as goal

pub returns-then-not-entry_ok : goal.returns-then-not-entry_ok
returns-then-not-entry_ok c =
    let a = c.args in
    let fails : ok_from a.n a.h c.loop-k.least (entries_from a.s.now c.loop-k.k (c.from-e.result - c.loop-k.k)) ≡ false =
    rw (entries-rest a.s.now c.loop-k.k c.from-e.result (search rules), ← c.read-a.ensures)
    (walk-wrong a.n a.h c.loop-k.least c.read-a.result _ (denied _ _ c.entry_ok.ensures (not_from_false _ c.if-not-entry_ok.true))) in
    walk_fails a.n a.h a.s.now a.h.e (λ i. (c.type_inv.s i).fits) (rw c.from-e.ensures at (c.loop-k.invariant.1 ∙ fails))

pub returns-then-place-least : goal.returns-then-place-least
returns-then-place-least c =
    let a = c.args in
    let fails : ok_from a.n a.h c.loop-k.least (entries_from a.s.now c.loop-k.k (c.from-e.result - c.loop-k.k)) ≡ false =
    rw (entries-rest a.s.now c.loop-k.k c.from-e.result (search rules), ← c.read-a.ensures)
    (walk-early a.n a.h c.loop-k.least c.read-a.result _ (passed _ _ c.entry_ok.ensures (not_from_true _ c.if-not-entry_ok.false))
    (rw (c.from.ensures, c.from-in-loop-k.ensures) at c.if-place-least.true)) in
    walk_fails a.n a.h a.s.now a.h.e (λ i. (c.type_inv.s i).fits) (rw c.from-e.ensures at (c.loop-k.invariant.1 ∙ fails))

pub loop-k-preserved : goal.loop-k-preserved
loop-k-preserved c =
    let a = c.args in
    let right = passed _ _ c.entry_ok.ensures (not_from_true _ c.if-not-entry_ok.false) in
    rw (c.from.ensures, c.from-in-loop-k.ensures) (
      search rules,
      c.loop-k.invariant.1
          ∙ rw (
            entries-rest a.s.now c.loop-k.k c.from-e.result (search rules),
            ← c.read-a.ensures,
          ) (walk-passed a.n a.h c.loop-k.least c.read-a.result _ right (rw (c.from.ensures, c.from-in-loop-k.ensures) at c.if-place-least.false)),
    )

pub returns : goal.returns
returns c =
    let a = c.args in
    let holds : ok_from a.n a.h c.loop-k.least (entries_from a.s.now c.loop-k.k (c.from-e.result - c.loop-k.k)) ≡ true =
    rw (entries-done a.s.now c.loop-k.k c.from-e.result (search rules)) (walk_end a.n a.h c.loop-k.least) in
    walk-holds a.n a.h a.s.now a.h.e (λ i. (c.type_inv.s i).fits) (rw c.from-e.ensures at (c.loop-k.invariant.1 ∙ holds))
