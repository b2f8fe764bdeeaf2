-- 8 to 11 first, and 12 to 14 of a frame that has passed them. Assumes nothing.
use mathlib.Core.List.{[]}
use mathlib.Core.Path.{sym}
use Rattle.arrival.specs.View.{node_with}
use Rattle.holdback.proofs.Keys.{judged-arrival, judged-frame}
use Rattle.std.proofs.lemmas.Result.{err_from_is_err_and}
use Rattle.holdback.proofs.judged.Goals as goal

pub returns-in_err-check : goal.returns-in_err-check
returns-in_err-check c =
    let a = c.args in
    let told = err_from_is_err_and c.from_residual.result c.from_residual.ensures.1 in
    λ cap. rw told.1 (judged-frame (node_with a.me a.n cap a.m.now a.deliv.now []) a.s.now _ c.in_err-check.ensures)

pub check-requires-2 : goal.check-requires-2
check-requires-2 c = record { n = c.args.n; few = c.requires; passes = sym c.in_ok-check.ensures }

pub returns : goal.returns
returns c =
    let a = c.args in
    λ cap. judged-arrival (node_with a.me a.n cap a.m.now a.deliv.now []) a.s.now c.in_ok-check.ensures _ (c.check-2.ensures a.n cap [])
