-- How many extra messages a step issues: a send at most one, the delivery of a user message at most n - 1, that of an extra message none,
-- and a node whose cap is (n - 1) * (n - 1) or more none at all. Assumes nothing.
use Prim.Native.Nat.{ℕ, ◌*◌, ◌-◌, ◌≤◌, ◌<◌}
use mathlib.Core.Logic.{◌≢◌}
use mathlib.Core.Path.{◌≡◌}
use native.Mathlib.Omega.{arith}
use lib.ListN.{length}
use Rattle.matrix.proofs.Bounds.{rules_square}
use Rattle.matrix.proofs.Columns.{MatrixRules, clear-count, clear-rules, crowded-few, merge-rules}
use Rattle.matrix.specs.Matrix.{Matrix, clear, count, merge}
use Rattle.matrix.specs.Message.{Kind, user, extra}
use Rattle.protocol.proofs.Trim.{rounds-crowded, trim_excess, trim-rounds}
use Rattle.protocol.specs.Deliver.{learn}
use Rattle.protocol.specs.Node.{Node}
use Rattle.protocol.specs.Send.{sent_matrix}
use Rattle.protocol.specs.Trim.{trim}
use Rattle.wire.specs.Limits.{max_nodes}

-- 1 for a user message
abbrev pub one_user : Kind → ℕ
one_user user = 1
one_user extra = 0

-- a node that keeps the record rules
module _ (d : Node) (me : d.me < d.n) (twelve : d.n ≤ max_nodes) (least : d.n ≤ d.cap) (rules : MatrixRules d.n d.me d.matrix) where
  -- what any trim issues
  trim-most : (m : Matrix) → MatrixRules d.n d.me m → length (trim d m).extras ≤ d.n - 1
  trim-most m f =
      omega (
        arith,
        rounds-crowded d.n d.cap d.me m _ _ me twelve (trim-rounds max_nodes d.n d.me d.cap m me least f),
        crowded-few d.n d.me m me twelve f,
      )

  trim-none : (m : Matrix) → MatrixRules d.n d.me m → (d.n - 1) * (d.n - 1) ≤ d.cap → length (trim d m).extras ≡ 0
  trim-none m f large =
      omega (arith, trim_excess max_nodes d.n d.me d.cap m me twelve least f, rules_square d.n d.me m me twelve f, large)

  -- a send
  module _ (to : ℕ) (below : to < d.n) (other : to ≢ d.me) where
    cleared : MatrixRules d.n d.me (clear d.me to d.matrix)
    cleared = clear-rules d.n d.me to d.matrix rules me below other

    pub send-one : count d.matrix ≤ d.cap → length (sent_matrix d to).extras ≤ 1
    send-one few =
        omega (
          arith,
          trim_excess max_nodes d.n d.me d.cap (clear d.me to d.matrix) me twelve least cleared,
          clear-count d.me to d.matrix (omega arith) (omega arith),
        )

    pub send-none : (d.n - 1) * (d.n - 1) ≤ d.cap → length (sent_matrix d to).extras ≡ 0
    send-none large = trim-none (clear d.me to d.matrix) cleared large

  -- the delivery of a message with these entries
  module _ (e : Matrix) (j : ℕ) (carried : MatrixRules d.n j e) where
    merged : MatrixRules d.n d.me (merge d.me d.matrix e)
    merged = merge-rules d.n d.me j d.matrix e rules carried

    pub delivery-most : (k : Kind) → length (learn k d e).extras ≤ (d.n - 1) * one_user k
    delivery-most user = omega (arith, trim-most (merge d.me d.matrix e) merged)
    delivery-most extra = omega arith

    pub delivery-none : (k : Kind) → (d.n - 1) * (d.n - 1) ≤ d.cap → length (learn k d e).extras ≡ 0
    delivery-none user large = trim-none (merge d.me d.matrix e) merged large
    delivery-none extra large = omega arith
