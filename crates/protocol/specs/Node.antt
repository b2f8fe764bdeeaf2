-- The node on messages: document 01's record with its matrix and vector as functions, and the held messages themselves.
use Rattle.std.specs.Prelude.{ℕ, zero, suc, Bool, true, false, cond, ◌&&◌, ◌||◌, List, eqb}
use Rattle.wire.specs.Limits.{max_nodes, max_count}
use Rattle.matrix.specs.Matrix.{Matrix}
use Rattle.matrix.specs.Message.{Message}

-- deliv x counts the messages from x delivered here (DELIV); held is the hold-back queue in holding order (document 01: the shelf)
pub record Node : Type 0 where
  pub me : ℕ
  pub n : ℕ
  pub cap : ℕ
  pub matrix : Matrix
  pub deliv : ℕ → ℕ
  pub held : List Message

-- whether the test holds of some number below k
abbrev pub some_below : ℕ → (ℕ → Bool) → Bool
some_below zero p = false
some_below (suc k) p = some_below k p || p k

-- whether the test holds of each number below k
abbrev pub each_below : ℕ → (ℕ → Bool) → Bool
each_below zero p = true
each_below (suc k) p = each_below k p && p k

-- the function v, with a at i
abbrev pub update : {A : Type 0} → (ℕ → A) → ℕ → A → ℕ → A
update v i a k = cond (eqb k i) a (v k)

-- refusal 5: an M entry in row me, or a DELIV entry, is 1,000,000,000
unfoldable pub at_limit : Node → Bool
at_limit d = some_below max_nodes (λ y. eqb (d.matrix d.me y) max_count) || some_below max_nodes (λ x. eqb (d.deliv x) max_count)
