-- A record's fields as the protocol's node, and what it says of an arriving message.
use Rattle.std.specs.Prelude.{ℕ, cond, List}
use Rattle.matrix.specs.Array.{entry, vector}
use Rattle.matrix.specs.Message.{Message}
use Rattle.protocol.specs.Node.{Node}
use Rattle.protocol.specs.Offer.{claims_too_much, delivered_before, not_for_me}

-- the protocol's node of a record's fields and the messages held
abbrev pub node_with : ℕ → ℕ → ℕ → List ℕ → List ℕ → List Message → Node
node_with me n cap m deliv held = record { me = me; n = n; cap = cap; matrix = entry m; deliv = vector deliv; held = held }

-- the number of the first of 12 to 14 that is met, and 0 where none is
unfoldable pub arrival_refusal : Node → Message → ℕ
arrival_refusal d m = cond (not_for_me d m) 12 (cond (claims_too_much d m) 13 (cond (delivered_before d m) 14 0))
