-- Counts of the columns of a matrix, the rules of a node's matrix, and what the steps do to both.
use Prim.Native.Nat.{ℕ, suc, ◌+◌, ◌*◌, ◌-◌, ◌≤◌, ◌<◌}
use mathlib.Core.Bool.{cond}
use mathlib.Core.Logic.{◌≢◌}
use mathlib.Core.Path.{◌≡◌, sym, ap, ◌∙◌}
use native.Mathlib.Decide.{ℕ_discrete, dec_le}
use native.Mathlib.Omega.{arith}
use lib.Dec.{leb, le→leb}
use Rattle.matrix.proofs.Matrix.{largest-lt, largest-le, clear-mine, clear-gone, clear_keep, only_col, only_zero, merge-kept, merge-own, non_zero_le}
use Rattle.matrix.proofs.Sums.{sum-above, sum_ext, sum-at, sum-cut, sum_less, sum_ones, sum-le, sum_change, sum-single, sum_times}
use Rattle.matrix.specs.Matrix.{Matrix, sum, non_zero, column_count, count, fullest, clear, only, merge}
use Rattle.wire.proofs.Tests.{cond_elim, cond_yes, cond_no, lt→nleb}

-- the record rules of node me's matrix: rows and columns from n on, the diagonal and column me are zero
pub record MatrixRules (n me : ℕ) (m : Matrix) : Type 0 where
  pub rows : (x y : ℕ) → n ≤ x → m x y ≡ 0
  pub columns : (x y : ℕ) → n ≤ y → m x y ≡ 0
  pub diagonal : (x : ℕ) → m x x ≡ 0
  pub own : (x : ℕ) → m x me ≡ 0

-- zero does not count
non_zero-zero : (v : ℕ) → v ≡ 0 → non_zero v ≡ 0
non_zero-zero v e = rw e

-- a column that is zero from row n on has at most n entries
pub column-few : (m : Matrix) (y n : ℕ) → ((x : ℕ) → n ≤ x → m x y ≡ 0) → column_count m y ≤ n
unfolding column_count
column-few m y n h = sum-le 12 n (λ x. non_zero (m x y)) (λ x _. non_zero_le (m x y)) (λ x l. non_zero-zero (m x y) (h x l))

-- a zero column has no entries
pub column-zero : (m : Matrix) (y : ℕ) → ((x : ℕ) → m x y ≡ 0) → column_count m y ≡ 0
column-zero m y h = omega (arith, column-few m y 0 (λ x _. h x))

-- with at most one entry in each of n columns there are at most n
pub count-few : (m : Matrix) (n : ℕ) → ((y : ℕ) → y < 12 → column_count m y ≤ 1) → ((y : ℕ) → n ≤ y → column_count m y ≡ 0) → count m ≤ n
unfolding count
count-few m n h z = sum-le 12 n (column_count m) h z

-- a matrix with one column
pub count-only : (m : Matrix) (l n : ℕ) → ((x : ℕ) → n ≤ x → m x l ≡ 0) → count (only l m) ≤ n
unfolding count
count-only m l n h =
    omega (
      arith,
      sum-single 12 l (column_count (only l m)) (λ y ne. column-zero (only l m) y (λ x. only_zero l m x y ne)),
      column-few (only l m) l n (λ x le. only_col l m x ∙ h x le),
    )

-- no column has more entries than the fullest, which is one of the twelve
pub fullest-le : (m : Matrix) (y : ℕ) → y < 12 → column_count m y ≤ column_count m (fullest m)
unfolding fullest
fullest-le m y h = largest-le 12 (column_count m) y h

-- the fullest column is one of the twelve
pub fullest-lt : (m : Matrix) → fullest m < 12
unfolding fullest
fullest-lt m = largest-lt 11 (column_count m)

-- where there are more entries than cap, and so than columns, the fullest column has two or more
pub fullest-two : (n me cap : ℕ) (m : Matrix) → MatrixRules n me m → n ≤ cap → cap < count m → 2 ≤ column_count m (fullest m)
fullest-two n me cap m f c h = go (dec_le 2 (column_count m (fullest m)))
  where
    go : Dec (2 ≤ column_count m (fullest m)) → 2 ≤ column_count m (fullest m)
    go (yes l) = l
    go (no l) = absurd (omega (arith, count-few m n (λ y q. omega (arith, fullest-le m y q)) (λ y q. column-zero m y (λ x. f.columns x y q))))

-- such a column is a node's, and another's than me
pub two-below : (n me l : ℕ) (m : Matrix) → MatrixRules n me m → 2 ≤ column_count m l → l < n
two-below n me l m f h = go (dec_le n l)
  where
    go : Dec (n ≤ l) → l < n
    go (yes q) = absurd (omega (arith, column-zero m l (λ x. f.columns x l q)))
    go (no q) = omega arith

-- such a column is not the own one, which is zero
pub two-other : (n me l : ℕ) (m : Matrix) → MatrixRules n me m → 2 ≤ column_count m l → l ≢ me
two-other n me l m f h e = omega (arith, column-zero m l (λ x. rw e (f.own x)))

-- a column cleared keeps the rules, has one entry, and leaves the other columns
pub clear-rules : (n me l : ℕ) (m : Matrix) → MatrixRules n me m → me < n → l < n → l ≢ me → MatrixRules n me (clear me l m)
clear-rules n me l m f hi hl ne =
    record {
      rows = rows;
      columns = λ x y q. clear_keep me l m x y (omega arith) ∙ f.columns x y q;
      diagonal = diagonal;
      own = λ x. clear_keep me l m x me (λ e. ne (sym e)) ∙ f.own x;
    }
  where
    rows : (x y : ℕ) → n ≤ x → clear me l m x y ≡ 0
    rows x y q = go (ℕ_discrete y l)
      where
        go : Dec (y ≡ l) → clear me l m x y ≡ 0
        go (yes e) = rw e (clear-gone me l m x (omega arith))
        go (no e) = clear_keep me l m x y e ∙ f.rows x y q

    diagonal : (x : ℕ) → clear me l m x x ≡ 0
    diagonal x = go (ℕ_discrete x l)
      where
        go : Dec (x ≡ l) → clear me l m x x ≡ 0
        go (yes e) = rw e (clear-gone me l m l ne)
        go (no e) = clear_keep me l m x x e ∙ f.diagonal x

-- a cleared column has one entry
pub clear-one : (me l : ℕ) (m : Matrix) → me < 12 → column_count (clear me l m) l ≡ 1
unfolding column_count
clear-one me l m h =
    let a : non_zero (clear me l m me l) ≡ 1 = ap non_zero (clear-mine me l m) in
    omega (
      arith,
      sum-single 12 me (λ x. non_zero (clear me l m x l)) (λ x ne. ap non_zero (clear-gone me l m x ne)),
      sum-at 12 (λ x. non_zero (clear me l m x l)) me h,
    )

-- the other columns keep theirs
pub clear-same : (me l : ℕ) (m : Matrix) (y : ℕ) → y ≢ l → column_count (clear me l m) y ≡ column_count m y
unfolding column_count
clear-same me l m y ne = sum_ext 12 (λ x. non_zero (clear me l m x y)) (λ x. non_zero (m x y)) (λ x. ap non_zero (clear_keep me l m x y ne))

-- so of all entries those of that column go, but for one
pub clear-count : (me l : ℕ) (m : Matrix) → me < 12 → l < 12 → count (clear me l m) + column_count m l ≡ count m + 1
unfolding count
clear-count me l m hi hl =
    omega (arith, sum_change 12 l (column_count (clear me l m)) (column_count m) hl (λ y ne. clear-same me l m y ne), clear-one me l m hi)

-- one column alone keeps the rules
pub only-rules : (n me l : ℕ) (m : Matrix) → MatrixRules n me m → l ≢ me → MatrixRules n me (only l m)
only-rules n me l m f ne = record {
  rows = λ x y h. zero x y (f.rows x y h) (ℕ_discrete y l);
  columns = λ x y h. zero x y (f.columns x y h) (ℕ_discrete y l);
  diagonal = λ x. zero x x (f.diagonal x) (ℕ_discrete x l);
  own = λ x. zero x me (f.own x) (ℕ_discrete me l);
}
  where
    zero : (x y : ℕ) → m x y ≡ 0 → Dec (y ≡ l) → only l m x y ≡ 0
    zero x y h (yes q) = let z : m x l ≡ 0 = rw q at h in rw q (only_col l m x ∙ z)
    zero x y h (no q) = only_zero l m x y q

-- a merge keeps the rules
pub merge-rules : (n me k : ℕ) (m e : Matrix) → MatrixRules n me m → MatrixRules n k e → MatrixRules n me (merge me m e)
merge-rules n me k m e f f' = record {
  rows = λ x y h. merge-kept me m e x y (f'.rows x y h) ∙ f.rows x y h;
  columns = λ x y h. merge-kept me m e x y (f'.columns x y h) ∙ f.columns x y h;
  diagonal = λ x. merge-kept me m e x x (f'.diagonal x) ∙ f.diagonal x;
  own = λ x. merge-own me m e x ∙ f.own x;
}

-- how many columns have two entries or more: a trim's round takes one off
wide : Matrix → ℕ → ℕ
wide m y = cond (leb 2 (column_count m y)) 1 0

-- a column counts once at most
wide-le : (m : Matrix) (y : ℕ) → wide m y ≤ 1
unfolding wide
wide-le m y = cond_elim (λ (z : ℕ). z ≤ 1) (leb 2 (column_count m y)) 1 0 (λ t. omega arith) (λ t. omega arith)

-- a column of two entries or more counts
wide_yes : (m : Matrix) (y : ℕ) → 2 ≤ column_count m y → wide m y ≡ 1
unfolding wide
wide_yes m y h = cond_yes (leb 2 (column_count m y)) 1 0 (le→leb 2 (column_count m y) h)

-- a column of one entry or none does not
wide_no : (m : Matrix) (y : ℕ) → column_count m y ≤ 1 → wide m y ≡ 0
unfolding wide
wide_no m y h = cond_no (leb 2 (column_count m y)) 1 0 (lt→nleb 2 (column_count m y) (omega arith))

-- how many columns have two entries or more
pub crowded : Matrix → ℕ
crowded m = sum 12 (wide m)

-- there are twelve columns
pub crowded-le : (m : Matrix) → crowded m ≤ 12
unfolding crowded
crowded-le m = sum_ones 12 (wide m) (λ y _. wide-le m y)

-- clearing such a column takes one off
pub crowded-down : (me l : ℕ) (m : Matrix) → me < 12 → l < 12 → 2 ≤ column_count m l → suc (crowded (clear me l m)) ≡ crowded m
unfolding crowded wide
crowded-down me l m hi hl h =
    omega (
      arith,
      sum_change 12 l (wide (clear me l m)) (wide m) hl (λ y ne. ap (λ (z : ℕ). cond (leb 2 z) 1 0) (clear-same me l m y ne)),
      wide_yes m l h,
      wide_no (clear me l m) l (omega (arith, clear-one me l m hi)),
    )

-- with such a column there is one
pub crowded-some : (l : ℕ) (m : Matrix) → l < 12 → 2 ≤ column_count m l → 1 ≤ crowded m
unfolding crowded
crowded-some l m hl h = omega (arith, sum-at 12 (wide m) l hl, wide_yes m l h)

-- a node's matrix has at most n - 1 of them: its own column is zero
pub crowded-few : (n me : ℕ) (m : Matrix) → me < n → n ≤ 12 → MatrixRules n me m → crowded m ≤ n - 1
unfolding crowded
crowded-few n me m hi hn f =
    omega (
      arith,
      sum-cut 12 n (wide m) hn (λ y h _. wide_no m y (omega (arith, column-zero m y (λ x. f.columns x y h)))),
      sum_less n 1 me (wide m) hi (wide_no m me (omega (arith, column-zero m me f.own))) (λ y _. wide-le m y),
    )

-- where no column has more than ten entries, each such column has nine besides the one that each of eleven may have
crowded_ten : (me : ℕ) (m : Matrix) → me < 12 → ((x : ℕ) → m x me ≡ 0) → ((y : ℕ) → y < 12 → column_count m y ≤ 10) → count m ≤ 11 + 9 * crowded m
unfolding count crowded
crowded_ten me m hi own ten =
    omega (
      arith,
      sum-above 12 (column_count m) (λ y. 9 * wide m y),
      sum_times 12 9 (wide m),
      sum_less 12 1 me (λ y. column_count m y - 9 * wide m y) hi (omega (arith, column-zero m me own)) (λ y h. one y h (dec_le 2 (column_count m y))),
    )
  where
    one : (y : ℕ) → y < 12 → Dec (2 ≤ column_count m y) → column_count m y - 9 * wide m y ≤ 1
    one y h (yes l) = omega (arith, ten y h, wide_yes m y l)
    one y h (no l) = omega arith

-- so where there are more, the fullest column has more than ten
pub fullest_eleven : (me : ℕ) (m : Matrix) → me < 12 → ((x : ℕ) → m x me ≡ 0) → 11 + 9 * crowded m < count m → 10 < column_count m (fullest m)
fullest_eleven me m hi own h = go (dec_le (column_count m (fullest m)) 10)
  where
    go : Dec (column_count m (fullest m) ≤ 10) → 10 < column_count m (fullest m)
    go (yes l) = absurd (omega (arith, crowded_ten me m hi own (λ y q. omega (arith, fullest-le m y q))))
    go (no l) = omega arith
