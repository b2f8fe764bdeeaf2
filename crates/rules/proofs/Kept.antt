-- A record that keeps each rule breaks none: the way back from `unbroken`. Assumes nothing.
use Prim.Native.Nat.{◌*◌, ◌<◌, ℕ}
use mathlib.Core.Bool.{◌&&◌, ◌||◌, false, not}
use mathlib.Core.Logic.{inl, inr}
use mathlib.Core.Path.{◌≡◌}
use native.Mathlib.Decide.{dec_lt}
use native.Mathlib.Omega.{arith}
use lib.Dec.{T, eqb, leb, le→leb, ltb, lt→ltb}
use Rattle.matrix.specs.Matrix.{Matrix, count}
use Rattle.protocol.proofs.Below.{all-each}
use Rattle.protocol.specs.Node.{each_below}
use Rattle.rules.proofs.Facts.{Ranged, Unbroken}
use Rattle.rules.specs.Rules.{broken_rules, in_range, within_limit, zero_column, zero_diagonal, zero_from}
use Rattle.wire.proofs.Tests.{T_and, T_not-not, either_T, eq→eqb, is_false}
use Rattle.wire.specs.Limits.{max_count}

-- n, me and cap
pub range-T : (me n cap : ℕ) → Ranged me n cap → T (in_range me n cap)
unfolding in_range
range-T me n cap r =
    T_and (leb 2 n && leb n 12 && ltb me n && leb n cap) (leb cap (n * n))
    (T_and (leb 2 n && leb n 12 && ltb me n) (leb n cap)
    (T_and (leb 2 n && leb n 12) (ltb me n) (T_and (leb 2 n) (leb n 12) (le→leb 2 n r.at_least2) (le→leb n 12 r.at_most12)) (lt→ltb me n r.below))
    (le→leb n cap r.cap_from))
    (le→leb cap (n * n) r.cap_to)

-- the matrix and the vector
module _ (me n cap : ℕ) (m : Matrix) (v : ℕ → ℕ) (held : ℕ) (k : Unbroken me n cap m v held) where
  diagonal-T : T (zero_diagonal m)
  unfolding zero_diagonal
  diagonal-T = all-each 12 (λ x. eqb (m x x) 0) (λ x _. eq→eqb (m x x) 0 (k.rules.diagonal x))

  column-T : T (zero_column me m)
  unfolding zero_column
  column-T = all-each 12 (λ x. eqb (m x me) 0) (λ x _. eq→eqb (m x me) 0 (k.rules.own x))

  limit-T : T (within_limit m v)
  unfolding within_limit
  limit-T =
      T_and (each_below 12 (λ x. each_below 12 (λ y. leb (m x y) max_count))) (each_below 12 (λ x. leb (v x) max_count))
      (all-each 12 (λ x. each_below 12 (λ y. leb (m x y) max_count))
      (λ x _. all-each 12 (λ y. leb (m x y) max_count) (λ y _. le→leb (m x y) max_count (k.limit x y))))
      (all-each 12 (λ x. leb (v x) max_count) (λ x h. le→leb (v x) max_count (k.vector_limit x h)))

  cell : (x y : ℕ) → Dec (x < n) → Dec (y < n) → T (ltb x n && ltb y n || eqb (m x y) 0)
  cell x y (yes a) (yes b) = either_T (ltb x n && ltb y n) (eqb (m x y) 0) (inl (T_and (ltb x n) (ltb y n) (lt→ltb x n a) (lt→ltb y n b)))
  cell x y (yes a) (no b) = either_T (ltb x n && ltb y n) (eqb (m x y) 0) (inr (eq→eqb (m x y) 0 (k.rules.columns x y (omega arith))))
  cell x y (no a) b = either_T (ltb x n && ltb y n) (eqb (m x y) 0) (inr (eq→eqb (m x y) 0 (k.rules.rows x y (omega arith))))

  element : (x : ℕ) → x < 12 → Dec (x < n) → T (ltb x n || eqb (v x) 0)
  element x h (yes a) = either_T (ltb x n) (eqb (v x) 0) (inl (lt→ltb x n a))
  element x h (no a) = either_T (ltb x n) (eqb (v x) 0) (inr (eq→eqb (v x) 0 (k.vector_zero x h (omega arith))))

  from-T : T (zero_from n m v)
  unfolding zero_from
  from-T =
      T_and (each_below 12 (λ x. each_below 12 (λ y. ltb x n && ltb y n || eqb (m x y) 0))) (each_below 12 (λ x. ltb x n || eqb (v x) 0))
      (all-each 12 (λ x. each_below 12 (λ y. ltb x n && ltb y n || eqb (m x y) 0))
      (λ x _. all-each 12 (λ y. ltb x n && ltb y n || eqb (m x y) 0) (λ y _. cell x y (dec_lt x n) (dec_lt y n))))
      (all-each 12 (λ x. ltb x n || eqb (v x) 0) (λ x h. element x h (dec_lt x n)))

  -- all of them together
  pub rules-kept : broken_rules me n cap m v held ≡ false
  unfolding broken_rules
  rules-kept =
      is_false (not (in_range me n cap && zero_diagonal m && zero_column me m && leb (count m) cap && eqb (v me) 0
      && within_limit m v && leb held 16 && zero_from n m v))
      (T_not-not (in_range me n cap && zero_diagonal m && zero_column me m && leb (count m) cap && eqb (v me) 0
      && within_limit m v && leb held 16 && zero_from n m v)
      (T_and (in_range me n cap && zero_diagonal m && zero_column me m && leb (count m) cap && eqb (v me) 0 && within_limit m v && leb held 16) (zero_from n m v)
      (T_and (in_range me n cap && zero_diagonal m && zero_column me m && leb (count m) cap && eqb (v me) 0 && within_limit m v) (leb held 16)
      (T_and (in_range me n cap && zero_diagonal m && zero_column me m && leb (count m) cap && eqb (v me) 0) (within_limit m v)
      (T_and (in_range me n cap && zero_diagonal m && zero_column me m && leb (count m) cap) (eqb (v me) 0)
      (T_and (in_range me n cap && zero_diagonal m && zero_column me m) (leb (count m) cap)
      (T_and (in_range me n cap && zero_diagonal m) (zero_column me m)
      (T_and (in_range me n cap) (zero_diagonal m) (range-T me n cap k.range) diagonal-T)
      column-T)
      (le→leb (count m) cap k.few))
      (eq→eqb (v me) 0 k.own))
      limit-T)
      (le→leb held 16 k.room))
      from-T))
