-- What it tells of bytes that they are a sound frame on their own, and that fewer than 12 are none. Assumes nothing.
use Prim.Native.Nat.{◌*◌, ◌+◌, ◌-◌, ◌<◌, ◌≤◌, ℕ}
use mathlib.Core.Bool.{Bool, cond, false, not, true}
use mathlib.Core.List.{List}
use mathlib.Core.Path.{◌≡◌}
use native.Mathlib.Omega.{arith}
use borrow.Author.Tests.{eqb-true, lt-ltb, not-false}
use lib.Dec.{eqb}
use lib.ListN.{get_or, length}
use Rattle.frame.proofs.Passed.{passes_kept}
use Rattle.frame.specs.Header.{header}
use Rattle.frame.specs.Refusals.{frame_refusal, wrong_trailer}
use Rattle.trail.specs.Sound.{in_own_range, kind_bit, unsound}
use Rattle.wire.proofs.Tests.{either_second, neither}
use Rattle.wire.proofs.Trailer.{trailed}
use Rattle.wire.specs.Trailer.{count_back}

-- fewer than 12 bytes meet 8
pub short-unsound : (s : List ℕ) → length s < 12 → unsound s ≡ true
unfolding unsound frame_refusal wrong_trailer
short-unsound s h = either_second (not (in_own_range (header s).n)) _ (rw (lt-ltb (length s) 12 h))

-- a kind's bit is at most 1
pub bit-most : (kind : ℕ) → kind_bit kind ≤ 1
bit-most kind = go (eqb kind 2)
  where
    go : (b : Bool) → cond b 1 0 ≤ 1
    go true = omega arith
    go false = omega arith

-- what 8 and 11 tell of a sound frame: its length, and the count pointed back, which is that of its header
pub record Lone (s : List ℕ) : Type 0 where
  pub long : 12 ≤ length s
  pub back : count_back s ≡ length s - 4
  pub size : length s ≡ 12 + 6 * get_or s 3 0 + get_or s 4 0

-- a sound frame has its n in range and meets none of 8 to 11 with it
pub alone : (s : List ℕ) → unsound s ≡ false → (in_own_range (header s).n ≡ true) × (frame_refusal (header s).n s ≡ 0)
unfolding unsound
alone s e =
    let p = neither (not (in_own_range (header s).n)) (not (eqb (frame_refusal (header s).n s) 0)) e in
    (not-false _ p.0, eqb-true (frame_refusal (header s).n s) 0 (not-false _ p.1))

pub lone : (s : List ℕ) → unsound s ≡ false → Lone s
unfolding header
lone s e =
    let k = passes_kept (header s).n s (alone s e).1 in
    let t = trailed s k.trailer in
    record { long = k.long; back = t.count; size = omega (arith, k.long, k.size, t.count) }
