-- What the calls that read the queue ask of it.
use Rattle.std.specs.Prelude.{◌≤◌, ℕ, false, List, ◌≡◌, length}
use Rattle.holdback.specs.WrongQueue.{wrong_queue}
use Rattle.holdback.specs.Slots.{queue_size}
use Rattle.protocol.specs.Node.{Node}
use Rattle.wire.specs.Limits.{max_held, max_nodes}

-- a queue of the right length that has passed check 4, at some node whose n is at most 12
pub record CheckedQueue (held : ℕ) (q : List ℕ) : Type 0 where
  pub node : Node
  pub few : node.n ≤ max_nodes
  pub most : held ≤ max_held
  pub size : length q ≡ queue_size
  pub passes : wrong_queue node held q ≡ false
