-- An image that is read: the first two reasons for 20, and the record of the numbers that stand in it. Assumes nothing.
use Prim.Native.Nat.{ℕ}
use mathlib.Core.Bool.{Bool, ◌||◌, false, not, true}
use mathlib.Core.List.{List}
use mathlib.Core.Path.{◌≡◌}
use lib.Dec.{T, eqb, eqb→eq}
use lib.ListN.{get_or, length}
use Rattle.wire.proofs.Tests.{is_false, no_three, not-not, of_false, or-not}
use Rattle.wire.specs.Trailer.{has_trailer}
use Rattle.node.specs.Record.{broken_record}
use Rattle.image.proofs.Numbers.{length-numbers}
use Rattle.image.specs.Image.{bad_image, image_size, record_in}

-- the first two reasons for 20
abbrev pub unsealed : List ℕ → Bool
unsealed i = not (eqb (length i) image_size) || not (has_trailer i)

pub sealed-size : (i : List ℕ) → unsealed i ≡ false → length i ≡ image_size
sealed-size i e =
    let w = or-not (not (eqb (length i) image_size)) (not (has_trailer i)) (of_false (unsealed i) e) in
    eqb→eq (length i) image_size (not-not (eqb (length i) image_size) w.0)

pub bad-unsealed : (i : List ℕ) → unsealed i ≡ true → bad_image i ≡ true
unfolding bad_image
bad-unsealed i e = rw e

pub bad-sealed : (i : List ℕ) → unsealed i ≡ false → bad_image i ≡ broken_record (record_in i)
unfolding bad_image
bad-sealed i e = rw e

-- what an image keeps that does not meet 20
pub record Good (i : List ℕ) : Type 0 where
  pub size : length i ≡ image_size
  pub trailer : T (has_trailer i)
  pub rules : broken_record (record_in i) ≡ false

pub good-image : (i : List ℕ) → bad_image i ≡ false → Good i
unfolding bad_image
good-image i e =
    let b = broken_record (record_in i) in
    let w = no_three (not (eqb (length i) image_size)) (not (has_trailer i)) b (of_false (bad_image i) e) in
    record {
      size = eqb→eq (length i) image_size (not-not (eqb (length i) image_size) w.0);
      trailer = not-not (has_trailer i) w.1;
      rules = is_false b w.2;
    }

-- the record of the numbers that are read
pub record_read : (i m v : List ℕ) → m ≡ (record_in i).m → v ≡ (record_in i).deliv
    → record { me = get_or i 0 0; n = get_or i 1 0; cap = get_or i 2 0; m = m; deliv = v; held = get_or i 627 0 } ≡ record_in i
unfolding record_in
record_read i m v p q = λ z. record { me = get_or i 0 0; n = get_or i 1 0; cap = get_or i 2 0; m = p z; deliv = q z; held = get_or i 627 0 }

-- its arrays have their lengths
pub record_cells : (i : List ℕ) → length (record_in i).m ≡ 144
unfolding record_in
record_cells i = length-numbers i 3 144

pub record_senders : (i : List ℕ) → length (record_in i).deliv ≡ 12
unfolding record_in
record_senders i = length-numbers i 579 12
