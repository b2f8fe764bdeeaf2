-- What a step makes of a matrix that keeps the record rules: one that keeps them, with a row of me that does not go down. Assumes nothing.
use Prim.Native.Nat.{◌<◌, ◌≤◌, suc, ℕ}
use mathlib.Core.List.{List}
use mathlib.Core.Logic.{◌⊎◌, inl, inr, ⊎_elim}
use mathlib.Core.Path.{◌≡◌, subst, sym}
use native.Mathlib.Decide.{dec_lt, ℕ_discrete}
use native.Mathlib.Omega.{arith}
use Rattle.matrix.proofs.Cleared.{clear-limit, clear-row, rules-back}
use Rattle.matrix.proofs.Columns.{MatrixRules, clear-one, clear-rules}
use Rattle.matrix.proofs.Matrix.{clear_keep}
use Rattle.matrix.specs.Array.{entry, flat}
use Rattle.matrix.specs.Matrix.{Matrix, clear, column_count, count}
use Rattle.matrix.specs.Message.{Kind, Message}
use Rattle.protocol.proofs.Learning.{learn-few, learn-rounds, learned, learned-from, learned-le, learned-rules}
use Rattle.protocol.proofs.Trim.{Rounds, rounds-grows, rounds_lower, rounds-row, rounds-rules, trim-ends, trim-rounds}
use Rattle.protocol.specs.Deliver.{learn}
use Rattle.protocol.specs.Node.{Node}
use Rattle.protocol.specs.Trim.{trim_for}
use Rattle.rules.proofs.Facts.{Ranged}
use Rattle.wire.specs.Limits.{max_count}

-- the matrix m' keeps the record rules of node me, and its row of me is at least that of m
pub record Keeps (n me cap : ℕ) (m m' : Matrix) : Type 0 where
  pub rules : MatrixRules n me m'
  pub few : count m' ≤ cap
  pub limit : (x y : ℕ) → m' x y ≤ max_count
  pub grows : (y : ℕ) → m me y ≤ m' me y

-- the array of such a matrix has it
pub keeps_array : (n me cap : ℕ) (m m' : Matrix) → n ≤ 12 → Keeps n me cap m m' → Keeps n me cap m (entry (flat m'))
keeps_array n me cap m m' h k = subst (Keeps n me cap m) (sym (rules-back n me m' h k.rules)) k

-- what keeps the rules behind a matrix keeps them behind one whose row of me is lower
keeps_from : (n me cap : ℕ) (m m₁ m' : Matrix) → ((y : ℕ) → m me y ≤ m₁ me y) → Keeps n me cap m₁ m' → Keeps n me cap m m'
keeps_from n me cap m m₁ m' h k = record { rules = k.rules; few = k.few; limit = k.limit; grows = λ y. omega (arith, h y, k.grows y) }

-- a run of trim that ends within the cap, from a matrix whose counts of row me are below the limit where their column has two entries or more
module _ (n me cap : ℕ) (range : Ranged me n cap) (m m' : Matrix) (extras : List Message) (rounds : Rounds n cap me m extras m') (few : count m' ≤ cap)
    (rules : MatrixRules n me m) (limit : (x y : ℕ) → m x y ≤ max_count) (below : (y : ℕ) → y < n → (m me y < max_count) ⊎ (column_count m y ≤ 1)) where
  after : MatrixRules n me m'
  after = rounds-rules n cap me m extras m' range.below rules rounds

  own_row : (y : ℕ) → m' me y ≤ max_count
  own_row y = go (dec_lt y n)
    where
      row : (m' me y ≤ suc (m me y)) × (column_count m y ≤ 1 → m' me y ≡ m me y)
      row = rounds-row n cap me m extras m' range.below range.at_most12 rounds y

      go : Dec (y < n) → m' me y ≤ max_count
      go (yes h) = ⊎_elim (λ a. omega (arith, a, row.0)) (λ a. omega (arith, row.1 a, limit me y)) (below y h)
      go (no h) = omega (arith, after.columns me y (omega arith))

  rounds_keeps : Keeps n me cap m m'
  rounds_keeps = record { rules = after; few = few; limit = λ x y. go x y (ℕ_discrete x me); grows = λ y. rounds-grows n cap me m extras m' rounds y }
    where
      go : (x y : ℕ) → Dec (x ≡ me) → m' x y ≤ max_count
      go x y (yes e) = rw e (own_row y)
      go x y (no e) = omega (arith, rounds_lower n cap me m extras m' rounds x y e, limit x y)

-- a send and a delivery, at a node none of whose counts of row me is at the limit
module _ (n me cap : ℕ) (range : Ranged me n cap) (m : Matrix) (rules : MatrixRules n me m) (few : count m ≤ cap) (limit : (x y : ℕ) → m x y ≤ max_count)
    (below : (y : ℕ) → y < 12 → m me y < max_count) where
  module _ (to : ℕ) (inside : to < n) (other : to ≡ me → ⊥) where
    abbrev c : Matrix
    c = clear me to m

    pub send_keeps : Keeps n me cap m (trim_for 12 me n cap (clear me to m)).matrix
    send_keeps =
        keeps_from n me cap m c _ (clear-row me to m)
        (rounds_keeps n me cap range c _ _ (trim-rounds 12 n me cap c range.below range.cap_from cleared)
        (trim-ends n me cap c range.below range.at_most12 range.cap_from cleared) cleared
        (clear-limit me to max_count m limit (below to (omega (arith, range.at_most12)))) (λ y h. free y h (ℕ_discrete y to)))
      where
        cleared : MatrixRules n me c
        cleared = clear-rules n me to m rules range.below inside other

        free : (y : ℕ) → y < n → Dec (y ≡ to) → (c me y < max_count) ⊎ (column_count c y ≤ 1)
        free y h (yes e) = inr (rw e (omega (arith, clear-one me to m (omega (arith, range.below, range.at_most12)))))
        free y h (no e) = inl (omega (arith, clear_keep me to m me y e, below y (omega (arith, range.at_most12))))

  -- a message with these entries, which claim no more of row me than stands there, at the node with any vector and queue
  module _ (e : Matrix) (j : ℕ) (carried : MatrixRules n j e) (most : (x y : ℕ) → e x y ≤ max_count) (claims : (y : ℕ) → y < 12 → e me y ≤ m me y)
      (k : Kind) (v : ℕ → ℕ) (l : List Message) where
    abbrev d : Node
    d = record { me = me; n = n; cap = cap; matrix = m; deliv = v; held = l }

    pub learn-keeps : Keeps n me cap m (learn k (record { me = me; n = n; cap = cap; matrix = m; deliv = v; held = l }) e).matrix
    learn-keeps =
        keeps_from n me cap m (learned k me m e) _ (learned-le k me m e me)
        (rounds_keeps n me cap range (learned k me m e) _ _ (learn-rounds k d j e range.below range.cap_from rules carried)
        (learn-few k d j e range.below range.at_most12 range.cap_from rules carried few) (learned-rules k n me j m e rules carried)
        (λ x y. ⊎_elim (λ q. omega (arith, q, limit x y)) (λ q. omega (arith, q, most x y)) (learned-from k me m e x y))
        (λ y h. inl (own y (omega (arith, range.at_most12)))))
      where
        own : (y : ℕ) → y < 12 → learned k me m e me y < max_count
        own y h = ⊎_elim (λ q. omega (arith, q, below y h)) (λ q. omega (arith, q, below y h, claims y h)) (learned-from k me m e me y)
