-- Deliver at node d: the held messages are tried in the order in which they were held, and the first deliverable one is delivered.
use Rattle.std.specs.Prelude.{ℕ, suc, Bool, cond, List, [], ◌∷◌, eqb, length}
use Rattle.matrix.specs.Matrix.{Matrix, merge}
use Rattle.matrix.specs.Message.{Kind, user, extra, Message}
use Rattle.protocol.specs.Node.{Node, at_limit}
use Rattle.protocol.specs.Answer.{label, nothing, delivered, Outcome, refuse}
use Rattle.protocol.specs.Trim.{Trimmed, untouched, trim}
use Rattle.protocol.specs.Offer.{deliverable}

-- the result of a search: none passed the test, or the place of the first that did (counted from 1), the message there, and the others
pub data Search : Type 0 where
  absent : Search
  found : (place : ℕ) → Message → List Message → Search

-- the search went past g
abbrev pub past : Message → Search → Search
past g absent = absent
past g (found k m others) = found (suc k) m (g ∷ others)

-- the first of the list that passes the test
abbrev pub search : (Message → Bool) → List Message → Search
search p [] = absent
search p (g ∷ l) = cond (p g) (found 1 g l) (past g (search p l))

-- DELIV[from] goes up by one
abbrev pub count_up : ℕ → (ℕ → ℕ) → ℕ → ℕ
count_up from v x = cond (eqb x from) (suc (v x)) (v x)

-- the entries of a user message are merged, then trim; an extra message changes nothing else
abbrev pub learn : Kind → Node → Matrix → Trimmed
learn user d e = trim d (merge d.me d.matrix e)
learn extra d e = untouched d.matrix

-- with no deliverable message the answer says that all held were tried
abbrev pub conclude : Node → Search → Outcome
conclude d absent = record { answer = nothing (length d.held); node = d }
conclude d (found k m others) =
    record {
      answer = delivered (label m) k m.body (learn m.kind d m.entries).extras;
      node =
          record { me = d.me; n = d.n; cap = d.cap; matrix = (learn m.kind d m.entries).matrix; deliv = count_up m.from d.deliv; held = others };
    }

-- deliver, after its one check
unfoldable pub deliver : Node → Outcome
deliver d = cond (at_limit d) (refuse 5 d) (conclude d (search (deliverable d) d.held))
