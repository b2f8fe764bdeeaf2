-- How long the frames of a list of demand 3 are at most, for whoever plans the bus: by n, and a user frame by its sender's cap.
use Rattle.std.specs.Prelude.{ℕ, ◌+◌, ◌*◌, ◌-◌, ◌≤◌, ◌<◌, min, List, length}
use Rattle.wire.specs.Limits.{max_body}
use Rattle.matrix.specs.Message.{EachInRange}
use Rattle.frame.specs.Header.{header}
use Rattle.causality.specs.Demand3.{Step, BodiesOfBytes, Issue, World, IssueAt, User, start, run}
use Rattle.causality.specs.Rights.{Extra}

-- header and trailer have 12 bytes, an entry 6, a body at most 64; a matrix of n nodes has (n - 1) * (n - 1) places, of which cap may be filled
abbrev pub user_size : (n cap : ℕ) → ℕ
user_size n cap = 12 + 6 * min cap ((n - 1) * (n - 1)) + max_body

-- an extra frame carries entries of one column, which has n - 1 places, and no body
abbrev pub extra_size : ℕ → ℕ
extra_size n = 12 + 6 * (n - 1)

-- of n nodes with these caps
pub record FrameSizesFor (n : ℕ) (caps : ℕ → ℕ) (w : World) : Type 0 where
  pub user : (p : ℕ) (g : Issue) → IssueAt w p g → User g.frame → length g.frame ≤ user_size n (caps (header g.frame).from)
  pub extra : (p : ℕ) (g : Issue) → IssueAt w p g → Extra g.frame → length g.frame ≤ extra_size n

-- for the lists of demand 3
abbrev pub FrameSizes : Type 0
FrameSizes = (n : ℕ) (caps : ℕ → ℕ) → EachInRange n caps → (steps : List Step) → BodiesOfBytes steps → length steps < 1000000000
    → FrameSizesFor n caps (run n (start n caps) steps)
