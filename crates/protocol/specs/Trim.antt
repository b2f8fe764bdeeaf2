-- Trim: while more than cap entries are non-zero, an extra message to the fullest column clears it.
use Rattle.std.specs.Prelude.{ℕ, zero, suc, cond, List, [], ◌∷◌, leb}
use Rattle.wire.specs.Limits.{max_nodes}
use Rattle.matrix.specs.Matrix.{Matrix, count, fullest, clear}
use Rattle.matrix.specs.Message.{Message, extra_message}
use Rattle.protocol.specs.Node.{Node}

-- the matrix that is left, and the extra messages in the order of issue
pub record Trimmed : Type 0 where
  pub matrix : Matrix
  pub extras : List Message

-- nothing to trim
abbrev pub untouched : Matrix → Trimmed
untouched m = record { matrix = m; extras = [] }

-- a round that issued the message, before the others
abbrev pub issuing : Message → Trimmed → Trimmed
issuing f t = record { matrix = t.matrix; extras = f ∷ t.extras }

-- at most k rounds at node me: the paper's k, from which it clears, is cap + 1, since cap is what may stand
unfoldable pub trim_for : (k me n cap : ℕ) → Matrix → Trimmed
trim_for zero me n cap m = untouched m
trim_for (suc k) me n cap m =
    let round : Trimmed = issuing (extra_message me (fullest m) n cap m) (trim_for k me n cap (clear me (fullest m) m)) in
    cond (leb (count m) cap) (untouched m) round

-- twelve rounds are enough: more than cap entries are more than n, so the fullest column has two or more; a round takes it down to one,
-- so none of the twelve columns is cleared twice. By the laws `trim-ends` and `trim-enough` (proofs/Trim), for every matrix that keeps
-- the record rules, at most cap entries are left, and a further round would change nothing.
abbrev pub trim : Node → Matrix → Trimmed
trim d m = trim_for max_nodes d.me d.n d.cap m
