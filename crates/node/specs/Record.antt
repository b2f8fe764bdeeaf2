-- The record, its rules (check 2), and the protocol's node that it stands for.
use Rattle.std.specs.Prelude.{ℕ, Bool, List}
use Rattle.matrix.specs.Array.{entry, vector}
use Rattle.matrix.specs.Message.{Message}
use Rattle.protocol.specs.Node.{Node}
use Rattle.rules.specs.Rules.{broken_rules}
use Rattle.holdback.specs.Slots.{held_messages}
use Rattle.arrival.specs.View.{node_with}
use Rattle.node.specs.declared.Node.{Node as Record}

-- 2. The record breaks a record rule.
unfoldable pub broken_record : Record → Bool
broken_record r = broken_rules r.me r.n r.cap (entry r.m) (vector r.deliv) r.held

-- the protocol's node of a record and the messages held
abbrev pub node_of : Record → List Message → Node
node_of r held = node_with r.me r.n r.cap r.m r.deliv held

-- the protocol's node of a record and its queue
abbrev pub node_at : Record → List ℕ → Node
node_at r q = node_of r (held_messages r.held q)
