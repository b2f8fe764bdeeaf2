-- What set-up's numbers are where they are in range, and a record's where no rule is broken. Assumes nothing.
use Prim.Native.Nat.{◌≤◌, ◌<◌, ℕ}
use mathlib.Core.Bool.{false, true}
use mathlib.Core.List.{List}
use mathlib.Core.Path.{◌≡◌}
use native.Mathlib.Nat.{mul-le-mul}
use native.Mathlib.Omega.{arith}
use Rattle.matrix.specs.Array.{entry, vector}
use Rattle.rules.proofs.Facts.{ranged, unbroken}
use Rattle.rules.specs.Rules.{broken_rules, in_range}

-- they fit a byte
pub ranged_small : (me n cap : ℕ) → in_range me n cap ≡ true → (me ≤ 12) × (n ≤ 12) × (cap ≤ 144)
ranged_small me n cap e = let r = ranged me n cap e in (omega (arith, r.below, r.at_most12), r.at_most12, omega (arith, r.cap_to, mul-le-mul r.at_most12 r.at_most12))

-- and so do a sound record's, whose node and queue are in range
pub record_small : (me n cap : ℕ) (m v : List ℕ) (held : ℕ) → broken_rules me n cap (entry m) (vector v) held ≡ false
    → (me < 12) × (n ≤ 12) × (held ≤ 16)
record_small me n cap m v held e =
    let u = unbroken me n cap m (vector v) held e in
    (omega (arith, u.range.below, u.range.at_most12), u.range.at_most12, u.room)
