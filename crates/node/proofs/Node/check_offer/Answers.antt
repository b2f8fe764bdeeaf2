-- A record and a frame that pass their checks are sound. Assumes nothing.
use mathlib.Core.Path.{sym}
use borrow.Author.Rules.{rules}
use Rattle.node.proofs.Shared.{checked-queue, record_passed}
use Rattle.node.proofs.Node.check_offer.Goals as goal

pub check_hold-requires : goal.check_hold-requires
check_hold-requires c =
    let p = record_passed _ _ c.args.short _ (sym c.in_ok-check_record.ensures) in
    (checked-queue _ _ _ p, record { n = c.args.self.now.n; few = p.sound.range.at_most12; passes = search rules })
