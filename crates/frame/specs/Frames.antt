-- The frames of messages, end to end.
use Rattle.std.specs.Prelude.{ℕ, List, [], ◌∷◌, ◌++◌}
use Rattle.matrix.specs.Message.{Message}
use Rattle.frame.specs.Frame.{encode}

-- issued frames end to end, in issue order
unfoldable pub frames_of : List Message → List ℕ
frames_of [] = []
frames_of (m ∷ l) = encode m ++ frames_of l
