-- How many entries a matrix can have: at most 144, at most (n - 1) * (n - 1) in n rows and columns with a zero diagonal and a zero column,
-- and those of its column where it is one column alone. Assumes nothing.
use Prim.Native.Nat.{◌*◌, ◌+◌, ◌-◌, ◌<◌, ◌≤◌, suc, ℕ}
use mathlib.Core.Logic.{◌≢◌}
use mathlib.Core.Path.{◌≡◌, ◌∙◌, ap}
use native.Mathlib.Decide.{dec_lt}
use native.Mathlib.Nat.{mul-le-mul, mul-suc}
use native.Mathlib.Omega.{arith}
use lib.ListN.{get_or}
use Rattle.matrix.proofs.Array.{count-flat}
use Rattle.matrix.proofs.Columns.{MatrixRules, column-zero}
use Rattle.matrix.proofs.Matrix.{non_zero_le, non_zero-none, only_col, only_zero}
use Rattle.matrix.proofs.Sums.{sum-at, sum-cut, sum_ext, sum_less, sum_less_two, sum_ones, sum-single}
use Rattle.matrix.specs.Array.{flat}
use Rattle.matrix.specs.Matrix.{Matrix, column_count, count, non_zero, only}
use Rattle.matrix.specs.Message.{InRange}

-- a matrix whose diagonal, one of whose columns, and whose rows and columns from n on are zero: a column has at most n - 1 entries, and n - 1 columns have any
module _ (n i : ℕ) (m : Matrix) (hi : i < n) (twelve : n ≤ 12) (rows : (x y : ℕ) → n ≤ x → x < 12 → m x y ≡ 0)
    (columns : (x y : ℕ) → n ≤ y → y < 12 → m x y ≡ 0) (diagonal : (x : ℕ) → m x x ≡ 0) (own : (x : ℕ) → m x i ≡ 0) where
  column-most : (y : ℕ) → y < n → column_count m y ≤ n - 1
  unfolding column_count
  column-most y h =
      omega (
        arith,
        sum-cut 12 n (λ x. non_zero (m x y)) twelve (λ x a b. non_zero-none (m x y) (rows x y a b)),
        sum_less n 1 y (λ x. non_zero (m x y)) h (non_zero-none (m y y) (diagonal y)) (λ x _. non_zero_le (m x y)),
      )

  pub count_square : count m ≤ (n - 1) * (n - 1)
  unfolding count
  count_square =
      omega (
        arith,
        sum-cut 12 n (column_count m) twelve (λ y a b. column-zero m y (λ x. columns x y a b)),
        sum_less n (n - 1) i (column_count m) hi (column-zero m i own) (λ y h. column-most y h),
        square,
      )
    where
      square : (n - 1) * n ≡ (n - 1) * (n - 1) + (n - 1)
      square = let e : n ≡ suc (n - 1) = omega arith in ap (λ (j : ℕ). (n - 1) * j) e ∙ mul-suc (n - 1) (n - 1)

-- of twelve rows and columns
pub count_121 : (i : ℕ) (m : Matrix) → i < 12 → ((x : ℕ) → m x x ≡ 0) → ((x : ℕ) → m x i ≡ 0) → count m ≤ 121
count_121 i m h diagonal own = count_square 12 i m h (omega arith) (λ x y a b. absurd (omega arith)) (λ x y a b. absurd (omega arith)) diagonal own

-- a node's matrix has at most (n - 1) * (n - 1) places for entries that are not zero
pub rules_square : (n me : ℕ) (m : Matrix) → me < n → n ≤ 12 → MatrixRules n me m → count m ≤ (n - 1) * (n - 1)
rules_square n me m h twelve f = count_square n me m h twelve (λ x y a _. f.rows x y a) (λ x y a _. f.columns x y a) f.diagonal f.own

-- and at most n - 1 in a column
pub rules-column : (n me : ℕ) (m : Matrix) → me < n → n ≤ 12 → MatrixRules n me m → (y : ℕ) → column_count m y ≤ n - 1
rules-column n me m h twelve f y = go (dec_lt y n)
  where
    go : Dec (y < n) → column_count m y ≤ n - 1
    go (yes l) = column-most n me m h twelve (λ x y a _. f.rows x y a) (λ x y a _. f.columns x y a) f.diagonal f.own y l
    go (no l) = omega (arith, column-zero m y (λ x. f.columns x y (omega arith)))

-- a matrix with another zero column than its own has at most ten columns of at most eleven
pub count_110 : (n me l : ℕ) (m : Matrix) → me < n → n ≤ 12 → MatrixRules n me m → l < n → l ≢ me → column_count m l ≡ 0 → count m ≤ 110
unfolding count
count_110 n me l m h twelve f hl ne z =
    omega (
      arith,
      sum_less_two 12 11 me l (column_count m) (omega arith) (omega arith) ne (column-zero m me f.own) z
          (λ y _. omega (arith, rules-column n me m h twelve f y)),
    )

-- where one column alone has any, at most n - 1
pub rules-lone : (n me l : ℕ) (m : Matrix) → me < n → n ≤ 12 → MatrixRules n me m → l < n → ((x y : ℕ) → y ≢ l → m x y ≡ 0) → count m ≤ n - 1
unfolding count
rules-lone n me l m h twelve f hl lone =
    omega (
      arith,
      sum-single 12 l (column_count m) (λ y ne. column-zero m y (λ x. lone x y ne)),
      rules-column n me m h twelve f l,
    )

-- a column alone has the entries of that column
column-alone : (m : Matrix) (l : ℕ) → column_count (only l m) l ≡ column_count m l
unfolding column_count
column-alone m l = sum_ext 12 (λ x. non_zero (only l m x l)) (λ x. non_zero (m x l)) (λ x. ap non_zero (only_col l m x))

pub only-count : (m : Matrix) (l : ℕ) → l < 12 → count (only l m) ≡ column_count m l
unfolding count
only-count m l h =
    omega (
      arith,
      column-alone m l,
      sum-at 12 (column_count (only l m)) l h,
      sum-single 12 l (column_count (only l m)) (λ y n. column-zero (only l m) y (λ x. only_zero l m x y n)),
    )

-- at most 144
pub count-le : (m : Matrix) → count m ≤ 144
count-le m = rw (← count-flat m) (sum_ones 144 (λ k. non_zero (get_or (flat m) k 0)) (λ k _. non_zero_le (get_or (flat m) k 0)))

-- a cap in range is at most 144
pub cap-most : (n cap : ℕ) → InRange n cap → cap ≤ 144
cap-most n cap r = omega (arith, r.cap_to, mul-le-mul r.at_most12 r.at_most12)
