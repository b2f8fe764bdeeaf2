-- A message, as the algorithm has it: what a frame says, without its bytes.
use Rattle.std.specs.Prelude.{ℕ, suc, ◌*◌, ◌≤◌, ◌<◌, ◌≡◌, List, [], length}
use Rattle.wire.specs.Limits.{max_nodes, max_body, max_count}
use Rattle.wire.specs.Bytes.{AllBytes}
use Rattle.matrix.specs.Matrix.{Matrix, count, only}

-- a user message, or an extra one that trim issues
pub data Kind : Type 0 where
  user : Kind
  extra : Kind

-- n and cap are the sender's; entries is the matrix that the message carries
pub record Message : Type 0 where
  pub kind : Kind
  pub from : ℕ
  pub to : ℕ
  pub n : ℕ
  pub cap : ℕ
  pub entries : Matrix
  pub body : List ℕ

-- one more than the entry in row from, column to; user and extra messages share the numbering
abbrev pub number : Message → ℕ
number m = suc (m.entries m.from m.to)

-- what a user message carries: every non-zero entry of the sender's matrix
abbrev pub user_message : ℕ → ℕ → ℕ → ℕ → Matrix → List ℕ → Message
user_message from to n cap m body =
    record { kind = user; from = from; to = to; n = n; cap = cap; entries = m; body = body }

-- what an extra message to l carries: the non-zero entries of column l
abbrev pub extra_message : ℕ → ℕ → ℕ → ℕ → Matrix → Message
extra_message from l n cap m =
    record { kind = extra; from = from; to = l; n = n; cap = cap; entries = only l m; body = [] }

-- n and cap are in range: n is 2 to 12 and cap is n to n * n
pub record InRange (n cap : ℕ) : Type 0 where
  pub at_least2 : 2 ≤ n
  pub at_most12 : n ≤ max_nodes
  pub cap_from : n ≤ cap
  pub cap_to : cap ≤ n * n

-- a cap for each of n nodes, which may differ (document 02, (x)), each in range; of no nodes it asks nothing
abbrev pub EachInRange : ℕ → (ℕ → ℕ) → Type 0
EachInRange n caps = (i : ℕ) → i < n → InRange n (caps i)

-- the rules of an entry (x, y) that is not zero: row and column below n and unequal, column ≠ from,
-- value at most 1,000,000,000, and in an extra the column is to
pub record SoundEntry (m : Message) (x y : ℕ) : Type 0 where
  pub row : x < m.n
  pub column : y < m.n
  pub apart : x ≡ y → ⊥
  pub not_from : y ≡ m.from → ⊥
  pub value : m.entries x y ≤ max_count
  pub extra_to : m.kind ≡ extra → y ≡ m.to

-- a message whose fields keep document 01's rules of a frame
pub record Sound (m : Message) : Type 0 where
  pub range : InRange m.n m.cap
  pub from : m.from < m.n
  pub to : m.to < m.n
  pub apart : m.from ≡ m.to → ⊥
  pub entries : (x y : ℕ) → (m.entries x y ≡ 0 → ⊥) → SoundEntry m x y
  pub few : count m.entries ≤ m.cap
  pub short : length m.body ≤ max_body
  pub bare : m.kind ≡ extra → m.body ≡ []
  pub bytes : AllBytes m.body
