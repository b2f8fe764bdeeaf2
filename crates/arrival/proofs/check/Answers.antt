-- The three tests, in rising order. Assumes nothing.
use mathlib.Core.Path.{◌∙◌, sym}
use Rattle.arrival.proofs.Arrived.{arrival_12, arrival_13, arrival_14, arrival_none, decode-from, decode-to}
use Rattle.arrival.proofs.Sound.{header-room, sender-below}
use Rattle.arrival.specs.View.{node_with}
use Rattle.frame.specs.Frame.{decode}
use Rattle.arrival.proofs.check.Goals as goal

pub read-h-requires : goal.read-h-requires
read-h-requires c = header-room c.args.s.now c.requires

pub returns-then-h-me : goal.returns-then-h-me
returns-then-h-me c =
    let a = c.args in
    let to = decode-to a.s.now c.read-h.result c.read-h.ensures in
    λ n cap l. sym (arrival_12 (node_with a.me n cap a.m.now a.deliv.now l) (decode a.s.now) (λ e. c.if-h-me.true (sym to ∙ e)))

pub returns-then-claims_too_much : goal.returns-then-claims_too_much
returns-then-claims_too_much c =
    let a = c.args in
    let to = decode-to a.s.now c.read-h.result c.read-h.ensures ∙ c.if-h-me.false in
    λ n cap l. sym (arrival_13 (node_with a.me n cap a.m.now a.deliv.now l) (decode a.s.now) to
    (sym (c.claims_too_much.ensures n cap a.deliv.now l) ∙ c.if-claims_too_much.true))

pub bounds-deliv-h : goal.bounds-deliv-h
bounds-deliv-h c = sender-below c.args.s.now c.read-h.result c.requires c.read-h.ensures

pub returns-then-number-deliv : goal.returns-then-number-deliv
returns-then-number-deliv c =
    let a = c.args in
    let to = decode-to a.s.now c.read-h.result c.read-h.ensures ∙ c.if-h-me.false in
    let from = decode-from a.s.now c.read-h.result c.read-h.ensures in
    λ n cap l. sym (arrival_14 (node_with a.me n cap a.m.now a.deliv.now l) (decode a.s.now) to
    (sym (c.claims_too_much.ensures n cap a.deliv.now l) ∙ c.if-claims_too_much.false) (rw (← c.number.ensures, from) c.if-number-deliv.true))

pub returns : goal.returns
returns c =
    let a = c.args in
    let to = decode-to a.s.now c.read-h.result c.read-h.ensures ∙ c.if-h-me.false in
    let from = decode-from a.s.now c.read-h.result c.read-h.ensures in
    λ n cap l. sym (arrival_none (node_with a.me n cap a.m.now a.deliv.now l) (decode a.s.now) to
    (sym (c.claims_too_much.ensures n cap a.deliv.now l) ∙ c.if-claims_too_much.false) (rw (← c.number.ensures, from) c.if-number-deliv.false))
