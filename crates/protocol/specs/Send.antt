-- Send, at node d: the message carries the matrix as it was, then column `to` is cleared behind it, then trim.
use Rattle.std.specs.Prelude.{ℕ, Bool, cond, not, ◌||◌, List, ◌∷◌, eqb, ltb, length}
use Rattle.wire.specs.Limits.{max_body}
use Rattle.matrix.specs.Matrix.{clear}
use Rattle.matrix.specs.Message.{Message, user_message}
use Rattle.protocol.specs.Node.{Node, at_limit}
use Rattle.protocol.specs.Answer.{sent, Outcome, refuse}
use Rattle.protocol.specs.Trim.{Trimmed, trim}

-- refusal 6: the destination is me or not below n
abbrev pub bad_destination : Node → ℕ → Bool
bad_destination d to = eqb to d.me || not (ltb to d.n)

-- refusal 7: the body is longer than 64
abbrev pub long_body : List ℕ → Bool
long_body body = ltb max_body (length body)

-- the user message: it carries every non-zero entry of M
abbrev pub sent_message : Node → ℕ → List ℕ → Message
sent_message d to body = user_message d.me to d.n d.cap d.matrix body

-- column to becomes zero, except M[me,to], which becomes its old value plus one; then trim
abbrev pub sent_matrix : Node → ℕ → Trimmed
sent_matrix d to = trim d (clear d.me to d.matrix)

-- a send that is not refused
abbrev pub sending : Node → ℕ → List ℕ → Outcome
sending d to body =
    record {
      answer = sent (sent_message d to body ∷ (sent_matrix d to).extras);
      node = record { me = d.me; n = d.n; cap = d.cap; matrix = (sent_matrix d to).matrix; deliv = d.deliv; held = d.held };
    }

-- send, checks in rising order
unfoldable pub send : Node → ℕ → List ℕ → Outcome
send d to body =
    cond (at_limit d) (refuse 5 d)
    (cond (bad_destination d to) (refuse 6 d)
    (cond (long_body body) (refuse 7 d)
    (sending d to body)))
