-- Laws of the table: how long its lines are, and the lines of the caps one after the other. Assumes nothing.
use Prim.Native.Nat.{ℕ, suc, ◌+◌, ◌-◌, ◌*◌, ◌≤◌, ◌<◌}
use mathlib.Core.List.{List, [], ◌++◌}
use mathlib.Core.Path.{◌≡◌, refl, sym, ap, ◌∙◌}
use native.Mathlib.Nat.{mul-le-mul, zero-add}
use native.Mathlib.Omega.{arith}
use lib.ListN.{length, length-append}
use Rattle.wire.specs.Bytes.{put}
use Rattle.wire.proofs.Bytes.{put_append}
use Rattle.text.specs.Print.{number_row}
use Rattle.text.proofs.Print.{decimal-few, five_numbers, length-numbers}
use Rattle.counters.specs.Counted.{totals}
use Rattle.counters.specs.declared.Counters.{Counters}
use Rattle.sweep.specs.Load.{cap_row, cap_rows}

-- a cap of two digits and five numbers of 32 bits
pub row-most : (cap : ℕ) (t : Counters) → cap < 100 → t.user < 4294967296 → t.extras < 4294967296 → t.delivered < 4294967296 → t.delays < 4294967296
    → t.share < 4294967296 → length (number_row cap (totals t)) ≤ 58
row-most cap t h a b c d e =
    omega (
      arith,
      length-numbers 84 cap (totals t),
      five_numbers 84 t.user t.extras t.delivered t.delays t.share a b c d e,
      decimal-few 2 cap (omega arith) h,
    )

-- at most four nodes have at most 16 as their last cap, and it is not below the first
pub last-most : (n : ℕ) → n ≤ 4 → n * n ≤ 16
last-most n h = mul-le-mul h h

pub last-least : (n : ℕ) → 2 ≤ n → n ≤ n * n
last-least n h = let a : 1 ≤ n = omega arith in let b : n ≤ n = omega arith in omega (arith, mul-le-mul a b)

-- the lines of the caps from `cap` on, of which the last is `last`: one line and the others, or none
module _ (n seed draws last : ℕ) where
  abbrev left : ℕ → List ℕ
  left cap = cap_rows n seed draws cap (last + 1 - cap)

  left-more : (cap : ℕ) → cap ≤ last → left cap ≡ cap_row n seed draws cap ++ left (cap + 1)
  unfolding cap_rows
  left-more cap h = let e : last + 1 - cap ≡ suc (last + 1 - (cap + 1)) = omega arith in ap (cap_rows n seed draws cap) e

  left-none : (cap : ℕ) → last < cap → left cap ≡ []
  unfolding cap_rows
  left-none cap h = let e : last + 1 - cap ≡ 0 = omega arith in ap (cap_rows n seed draws cap) e

  -- the loop over the caps: the lines up to `cap` stand in o up to `at`
  pub record Listing (o₀ o : List ℕ) (at cap : ℕ) : Type 0 where
    pub most : at + 58 * n ≤ 58 * cap
    pub room : at + length (left cap) ≡ length (left n)
    pub bytes : put o at (left cap) ≡ put o₀ 0 (left n)

  pub listing_starts : (o : List ℕ) → Listing o o 0 n
  listing_starts o = record { most = omega arith; room = zero-add _; bytes = refl }

  pub listing_goes : (o₀ o : List ℕ) (at cap : ℕ) → Listing o₀ o at cap → cap ≤ last → (row : List ℕ) → row ≡ cap_row n seed draws cap → (at' : ℕ) (o' : List ℕ)
      → at' ≤ at + 58 → at' ≡ at + length row → o' ≡ put o at row → Listing o₀ o' at' (cap + 1)
  listing_goes o₀ o at cap k h row e at' o' most ea eo =
      let m : left cap ≡ row ++ left (cap + 1) = left-more cap h ∙ ap (λ (x : List ℕ). x ++ left (cap + 1)) (sym e) in
      record {
        most = omega (arith, k.most);
        room = omega (arith, ap length m, length-append row (left (cap + 1)), k.room);
        bytes = rw (eo, ea) (sym (put_append o at row (left (cap + 1))) ∙ ap (put o at) (sym m) ∙ k.bytes);
      }

  pub listing_ends : (o₀ o : List ℕ) (at cap : ℕ) → Listing o₀ o at cap → last < cap → (at ≡ length (left n)) × (o ≡ put o₀ 0 (left n))
  unfolding put
  listing_ends o₀ o at cap k h =
      let m = left-none cap h in
      (omega (arith, k.room, ap length m), ap (put o at) (sym m) ∙ k.bytes)
