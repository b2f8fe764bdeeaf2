-- What is printed for a request by its test, and that a table is never taken for a refusal. Assumes nothing.
use Prim.Native.Nat.{ℕ, suc, ◌+◌, ◌-◌, ◌*◌, ◌≤◌}
use Rattle.std.specs.Prelude.{None, Option, Some}
use mathlib.Core.Bool.{false, true}
use mathlib.Core.List.{List}
use mathlib.Core.Path.{◌≡◌, ap, refl, sym, ◌∙◌}
use native.Mathlib.Decide.{dec_le}
use native.Mathlib.Omega.{arith}
use lib.ListN.{length, get_or, take}
use lib.Seq.{take_all, length-take-le}
use Rattle.text.specs.Print.{number_row, refusal_row, row}
use Rattle.text.proofs.Print.{decimal-one}
use Rattle.request.proofs.Laws.{long-refused}
use Rattle.request.specs.Refusal18.{refused18, wrong}
use Rattle.request.specs.Request.{request}
use Rattle.request.specs.declared.Load.{Load}
use Rattle.sweep.specs.Load.{answered, cap_rows, output, printed, refused, table, tabled}
use Rattle.sweep.specs.Run.{FirstBytes}
use Rattle.sweep.proofs.Tables.{last-least}

-- ---- by the test

-- a request that is refused
pub answered-refused : (r : Option Load) → wrong r ≡ true → answered r ≡ refused 18
unfolding answered wrong
answered-refused (Some load) e = rw e
answered-refused None e = refl

-- one that is not
pub answered-table : (r : Option Load) (load : Load) → r ≡ Some load → wrong r ≡ false → answered r ≡ tabled load.n load.seed load.draws
unfolding answered wrong
answered-table r load e h = ap answered e ∙ rw (rw e at h)

-- ---- a table begins with a digit, and a refusal with a letter
first_digit : (n seed draws : ℕ) → 2 ≤ n → n ≤ 4 → get_or (table n seed draws) 0 0 ≡ 48 + n
unfolding cap_rows number_row
first_digit n seed draws two four =
    let e : n * n + 1 - n ≡ suc (n * n - n) = omega (arith, last-least n two) in
    ap (λ (k : ℕ). get_or (cap_rows n seed draws n k) 0 0) e ∙ rw (decimal-one n (omega arith))

pub not-refusal : (n seed draws k : ℕ) → 2 ≤ n → n ≤ 4 → ¬ (table n seed draws ≡ refusal_row k)
unfolding row
not-refusal n seed draws k two four e =
    let z : 48 + n ≡ 82 = sym (first_digit n seed draws two four) ∙ ap (λ (l : List ℕ). get_or l 0 0) e in absurd (omega arith)

-- ---- the first bytes of an input
refused-output : (s : List ℕ) → refused18 s ≡ true → output s ≡ refusal_row 18
unfolding refused18
refused-output s e = ap printed (answered-refused (request s) e)

pub first_bytes : FirstBytes
first_bytes s = go (dec_le (length s) 34)
  where
    go : Dec (length s ≤ 34) → output (take 34 s) ≡ output s
    go (yes h) = ap output (take_all 34 s h)
    go (no h) =
        refused-output (take 34 s) (long-refused (take 34 s) (omega (arith, length-take-le 34 s (omega arith))))
        ∙ sym (refused-output s (long-refused s (omega arith)))
