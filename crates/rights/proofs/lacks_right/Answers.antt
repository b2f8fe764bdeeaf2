-- The class's bound, and the byte of the table, if it is there. Assumes nothing.
use Rattle.std.proofs.Common.{◌≡◌, ◌+◌, ◌*◌, ◌∙◌, not, get_or, arith, ap, ℕ, rules, sym}
use lib.Dec.{eqb}
use Rattle.std.specs.Option.{unwrap_or}
use Rattle.rights.proofs.Groups.{by_byte, may, no_class}
use Rattle.rights.specs.Topics.{group, group_of}
use Rattle.rights.specs.Rights.{place}
use Rattle.rights.proofs.lacks_right.Goals as goal

pub returns-then-class-gt-PANEL : goal.returns-then-class-gt-PANEL
returns-then-class-gt-PANEL c = sym (no_class _ _ _ c.if-class-gt-PANEL.true)

pub returns : goal.returns
returns c =
    let found : c.group.result ≡ place (group_of c.args.body.now) = c.group.ensures ∙ ap (λ (t : ℕ). place (group t)) c.topic.ensures in
    let byte : unwrap_or c.copied.result 0 ≡ get_or c.args.table.now (4 * c.args.class + c.group.result) 0 = search rules in
    c.ne.ensures ∙ ap not (may c.copied.result ∙ ap (λ (v : ℕ). eqb v 1) byte) ∙ by_byte _ _ _ _ (omega arith) found
