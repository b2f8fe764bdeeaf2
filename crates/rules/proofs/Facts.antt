-- What the record rules tell, and the tests of a record one after the other. Assumes nothing.
use Prim.Native.Nat.{◌*◌, ◌<◌, ◌≤◌, ℕ}
use mathlib.Core.Bool.{Bool, ◌&&◌, ◌||◌, and-false, and-true, false, not, true}
use mathlib.Core.List.{List}
use mathlib.Core.Logic.{⊎_elim}
use mathlib.Core.Path.{◌≡◌, refl, subst}
use native.Mathlib.Decide.{dec_lt}
use native.Mathlib.Omega.{arith}
use borrow.Author.Tests.{eq-eqb, le-leb, lt-leb, ne_eqb}
use lib.Dec.{T, eqb, eqb→eq, leb, leb→le, ltb, ltb→lt}
use Rattle.matrix.proofs.Array.{entry-out}
use Rattle.matrix.proofs.Columns.{MatrixRules}
use Rattle.matrix.specs.Array.{entry}
use Rattle.matrix.specs.Matrix.{Matrix, count}
use Rattle.protocol.proofs.Below.{each_all, some-none}
use Rattle.protocol.specs.Node.{Node, at_limit, each_below, some_below}
use Rattle.rules.specs.Rules.{broken_rules, in_range, within_limit, zero_column, zero_diagonal, zero_from}
use Rattle.wire.proofs.Tests.{and_T, is_true, neqb→ne, of_true, or-T, or-not}
use Rattle.wire.specs.Limits.{max_count}

-- n, me and cap that are in range
pub record Ranged (me n cap : ℕ) : Type 0 where
  pub at_least2 : 2 ≤ n
  pub at_most12 : n ≤ 12
  pub below : me < n
  pub cap_from : n ≤ cap
  pub cap_to : cap ≤ n * n

pub ranged : (me n cap : ℕ) → in_range me n cap ≡ true → Ranged me n cap
unfolding in_range
ranged me n cap e =
    let p = and_T (leb 2 n && leb n 12 && ltb me n && leb n cap) (leb cap (n * n))
    (of_true (leb 2 n && leb n 12 && ltb me n && leb n cap && leb cap (n * n)) e) in
    let q = and_T (leb 2 n && leb n 12 && ltb me n) (leb n cap) p.0 in
    let r = and_T (leb 2 n && leb n 12) (ltb me n) q.0 in
    let s = and_T (leb 2 n) (leb n 12) r.0 in
    record {
      at_least2 = leb→le 2 n s.0;
      at_most12 = leb→le n 12 s.1;
      below = ltb→lt me n r.1;
      cap_from = leb→le n cap q.1;
      cap_to = leb→le cap (n * n) p.1;
    }

-- a record that breaks a rule, test by test
module _ (me n cap : ℕ) (m : Matrix) (v : ℕ → ℕ) (held : ℕ) where
  pub when_out_of_range : in_range me n cap ≡ false → broken_rules me n cap m v held ≡ true
  unfolding broken_rules
  when_out_of_range a = rw a

  pub too_many : cap < count m → broken_rules me n cap m v held ≡ true
  unfolding broken_rules
  too_many d = rw (lt-leb (count m) cap d, and-false (in_range me n cap && zero_diagonal m && zero_column me m))

  pub own-count : (v me ≡ 0 → ⊥) → broken_rules me n cap m v held ≡ true
  unfolding broken_rules
  own-count e = rw (ne_eqb (v me) 0 e, and-false (in_range me n cap && zero_diagonal m && zero_column me m && leb (count m) cap))

  pub too_full : 16 < held → broken_rules me n cap m v held ≡ true
  unfolding broken_rules
  too_full g = rw (lt-leb held 16 g, and-false (in_range me n cap && zero_diagonal m && zero_column me m && leb (count m) cap && eqb (v me) 0 && within_limit m v))

  pub rules-left : in_range me n cap ≡ true → count m ≤ cap → v me ≡ 0 → held ≤ 16
      → broken_rules me n cap m v held ≡ not (zero_diagonal m && zero_column me m && within_limit m v && zero_from n m v)
  unfolding broken_rules
  rules-left a d e g =
      rw (
        a,
        le-leb (count m) cap d,
        eq-eqb (v me) 0 e,
        le-leb held 16 g,
        and-true (zero_diagonal m && zero_column me m),
        and-true (zero_diagonal m && zero_column me m),
        and-true (zero_diagonal m && zero_column me m && within_limit m v),
      )

-- a count at its limit
pub limit_either : (d : Node) (me : ℕ) (m : Matrix) (v : ℕ → ℕ) → d.me ≡ me → d.matrix ≡ m → d.deliv ≡ v
    → (some_below 12 (λ y. eqb (m me y) max_count) || some_below 12 (λ x. eqb (v x) max_count)) ≡ at_limit d
unfolding at_limit
limit_either d me m v p q r = rw (← p, ← q, ← r)

-- what a record that breaks no rule keeps, on the matrix and the vector of its arrays
pub record Unbroken (me n cap : ℕ) (m : Matrix) (v : ℕ → ℕ) (held : ℕ) : Type 0 where
  pub range : Ranged me n cap
  pub rules : MatrixRules n me m
  pub few : count m ≤ cap
  pub own : v me ≡ 0
  pub limit : (x y : ℕ) → m x y ≤ max_count
  pub vector_limit : (x : ℕ) → x < 12 → v x ≤ max_count
  pub vector_zero : (x : ℕ) → x < 12 → n ≤ x → v x ≡ 0
  pub room : held ≤ 16

-- a test that is not met: its eight parts
parts : (a b c d e f g h : Bool) → not (a && b && c && d && e && f && g && h) ≡ false → T a × T b × T c × T d × T e × T f × T g × T h
parts true true true true true true true true p = (tt, tt, tt, tt, tt, tt, tt, tt)
parts true true true true true true true false p = absurd (subst T p tt)
parts true true true true true true false h p = absurd (subst T p tt)
parts true true true true true false g h p = absurd (subst T p tt)
parts true true true true false f g h p = absurd (subst T p tt)
parts true true true false e f g h p = absurd (subst T p tt)
parts true true false d e f g h p = absurd (subst T p tt)
parts true false c d e f g h p = absurd (subst T p tt)
parts false b c d e f g h p = absurd (subst T p tt)

-- what holds of zero, and of the entries inside the twelve rows and columns, holds of every entry
everywhere : (l : List ℕ) (Q : ℕ → Type 0) (x y : ℕ) → Q 0 → (x < 12 → y < 12 → Q (entry l x y)) → Q (entry l x y)
everywhere l Q x y z h = go (dec_lt x 12) (dec_lt y 12)
  where
    go : Dec (x < 12) → Dec (y < 12) → Q (entry l x y)
    go (yes a) (yes b) = h a b
    go (yes a) (no b) = rw (entry-out l x y (λ _ q. b q)) z
    go (no a) d = rw (entry-out l x y (λ q _. a q)) z

-- an entry outside the first n rows and columns that is zero by its test
zero-outside : (a b v : ℕ) (n : ℕ) → T (ltb a n && ltb b n || eqb v 0) → (a < n → b < n → ⊥) → v ≡ 0
zero-outside a b v n t h =
    ⊎_elim (λ p. let q = and_T (ltb a n) (ltb b n) p in
    absurd (h (ltb→lt a n q.0) (ltb→lt b n q.1))) (λ e. eqb→eq v 0 e) (or-T (ltb a n && ltb b n) (eqb v 0) t)

module _ (me n cap : ℕ) (l : List ℕ) (v : ℕ → ℕ) (held : ℕ) where
  abbrev m : Matrix
  m = entry l

  pub unbroken : broken_rules me n cap (entry l) v held ≡ false → Unbroken me n cap (entry l) v held
  unfolding broken_rules within_limit zero_from zero_diagonal zero_column
  unbroken e =
      let p = parts (in_range me n cap) (zero_diagonal m) (zero_column me m) (leb (count m) cap) (eqb (v me) 0)
      (within_limit m v) (leb held 16) (zero_from n m v) e in
      let w = and_T (each_below 12 (λ x. each_below 12 (λ y. leb (m x y) max_count))) (each_below 12 (λ x. leb (v x) max_count)) p.5 in
      let z = and_T (each_below 12 (λ x. each_below 12 (λ y. ltb x n && ltb y n || eqb (m x y) 0))) (each_below 12 (λ x. ltb x n || eqb (v x) 0)) p.7 in
      let out : (x y : ℕ) → (x < n → y < n → ⊥) → m x y ≡ 0 =
      λ x y h. everywhere l (λ (u : ℕ). u ≡ 0) x y refl
      (λ a b. zero-outside x y (m x y) n
      (each_all 12 (λ y. ltb x n && ltb y n || eqb (m x y) 0) (each_all 12 (λ x. each_below 12 (λ y. ltb x n && ltb y n || eqb (m x y) 0)) z.0 x a) y b) h) in
      record {
        range = ranged me n cap (is_true (in_range me n cap) p.0);
        rules =
            record {
              rows = λ x y h. out x y (λ a b. omega arith);
              columns = λ x y h. out x y (λ a b. omega arith);
              diagonal = λ x. everywhere l (λ (u : ℕ). u ≡ 0) x x refl (λ a b. eqb→eq (m x x) 0 (each_all 12 (λ x. eqb (m x x) 0) p.1 x a));
              own = λ x. everywhere l (λ (u : ℕ). u ≡ 0) x me refl (λ a b. eqb→eq (m x me) 0 (each_all 12 (λ x. eqb (m x me) 0) p.2 x a));
            };
        few = leb→le (count m) cap p.3;
        own = eqb→eq (v me) 0 p.4;
        limit =
            λ x y. everywhere l (λ (u : ℕ). u ≤ max_count) x y (omega arith) (λ a b. leb→le (m x y) max_count
            (each_all 12 (λ y. leb (m x y) max_count) (each_all 12 (λ x. each_below 12 (λ y. leb (m x y) max_count)) w.0 x a) y b));
        vector_limit = λ x h. leb→le (v x) max_count (each_all 12 (λ x. leb (v x) max_count) w.1 x h);
        vector_zero =
            λ x h k. ⊎_elim (λ t. absurd (omega (arith, ltb→lt x n t))) (λ t. eqb→eq (v x) 0 t)
            (or-T (ltb x n) (eqb (v x) 0) (each_all 12 (λ x. ltb x n || eqb (v x) 0) z.1 x h));
        room = leb→le held 16 p.6;
      }

-- a node none of whose counts is at its limit
pub limit-row : (d : Node) → T (not (at_limit d)) → ((x y : ℕ) → d.matrix x y ≤ max_count) → (y : ℕ) → y < 12 → d.matrix d.me y < max_count
unfolding at_limit
limit-row d t h y l =
    let p = or-not (some_below 12 (λ y. eqb (d.matrix d.me y) max_count)) (some_below 12 (λ x. eqb (d.deliv x) max_count)) t in
    let q = neqb→ne (d.matrix d.me y) max_count (some-none 12 (λ y. eqb (d.matrix d.me y) max_count) p.0 y l) in
    let r = h d.me y in
    omega arith

pub limit-vector : (d : Node) → T (not (at_limit d)) → (x : ℕ) → x < 12 → d.deliv x ≤ max_count → d.deliv x < max_count
unfolding at_limit
limit-vector d t x l h =
    let p = or-not (some_below 12 (λ y. eqb (d.matrix d.me y) max_count)) (some_below 12 (λ x. eqb (d.deliv x) max_count)) t in
    let q = neqb→ne (d.deliv x) max_count (some-none 12 (λ x. eqb (d.deliv x) max_count) p.1 x l) in
    omega arith
