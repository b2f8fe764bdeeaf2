-- How much of the frame output one call can fill, from any record, queue, buffers and input: the figures for whoever keeps room for issued frames.
-- A delivered frame may carry more entries than the receiver's cap.
use Rattle.std.specs.Prelude.{ℕ, ◌≤◌, List}
use Rattle.node.specs.declared.Node.{Node as Record}
use Rattle.node.specs.Answers.{deliver_bytes, send_bytes}
use Rattle.node.specs.Calls.{deliver_call, send_call}

-- sends: the user frame and its extra frames; delivers: the extra frames
pub record OutputSizes : Type 0 where
  pub sends : (r : Record) (to class : ℕ) (body out : List ℕ) → send_bytes (send_call r to class body out).result.answer ≤ 814
  pub delivers : (r : Record) (q out body : List ℕ) → deliver_bytes (deliver_call r q out body).result.answer ≤ 846
