-- The lengths of the lent buffers, beside the queue's.
use Rattle.std.specs.Prelude.{ℕ}

-- the shortest frame output
abbrev pub out_size : ℕ
out_size = 2048
