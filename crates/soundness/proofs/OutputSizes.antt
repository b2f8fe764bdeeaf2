-- How much of the frame output one call can fill: what the answers tell. Assumes nothing.
use Prim.Native.Nat.{ℕ, ◌≤◌}
use mathlib.Core.List.{List}
use native.Mathlib.Omega.{arith}
use Rattle.node.proofs.Told.{DeliverTold, SendTold, deliver-told, send-told}
use Rattle.node.specs.Answers.{AfterDeliver, AfterSend, deliver_bytes, send_bytes}
use Rattle.node.specs.Calls.{deliver_call, send_call}
use Rattle.node.specs.DeliverAnswer.{DeliverAnswer}
use Rattle.node.specs.DeliverAnswer as deliver_answer
use Rattle.node.specs.declared.Node.{Node as Record}
use Rattle.node.specs.SendAnswer.{SendAnswer}
use Rattle.node.specs.SendAnswer as send_answer
use Rattle.soundness.specs.OutputSizes.{OutputSizes}

-- by the answer: a refusal counts none
sent : (out : List ℕ) (a : SendAnswer) (c : AfterSend) → SendTold out a c → send_bytes a ≤ 814
sent out (send_answer.Refused k) c t = omega arith
sent out (send_answer.Sent bytes extras) c t = omega (arith, t.most)

delivered : (r : Record) (q out : List ℕ) (a : DeliverAnswer) (c : AfterDeliver) → DeliverTold r q out a c → deliver_bytes a ≤ 846
delivered r q out (deliver_answer.Refused k) c t = omega arith
delivered r q out (deliver_answer.Nothing tried) c t = omega arith
delivered r q out (deliver_answer.Frame d) c t = omega (arith, t.most)

pub output_sizes : OutputSizes
output_sizes = record {
  sends = λ r to class body out. let c = send_call r to class body out in omega (arith, sent out c.result.answer c (send-told r to class body out));
  delivers = λ r q out body. let c = deliver_call r q out body in omega (arith, delivered r q out c.result.answer c (deliver-told r q out body));
}
