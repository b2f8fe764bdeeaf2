-- The refusal, or what the send issues. Assumes nothing.
use mathlib.Core.Path.{◌∙◌, sym}
use Rattle.refusal.proofs.Laws.{number-none}
use Rattle.node.proofs.Sending.{passes-at, send-accepted, send-refused}
use Rattle.node.proofs.Shared.{passed_on}
use Rattle.node.proofs.Node.send_in_place.Goals as goal

pub returns-in_err-check_send : goal.returns-in_err-check_send
returns-in_err-check_send c =
    rw (passed_on c.from_residual.result _ c.from_residual.ensures.1)
    (send-refused _ _ _ _ _ _ c.in_err-check_send.ensures (number-none _))

pub issue-requires : goal.issue-requires
issue-requires c = passes-at (record { class = c.args.class; passes = sym c.in_ok-check_send.ensures })

pub returns : goal.returns
returns c = c.issue.ensures ∙ send-accepted _ _ _ _ _ (sym c.in_ok-check_send.ensures)
