-- The laws of the node image: a sound record is read back from its image, and a sound image is the image of the record that it reads as. Of the sum in
-- the trailer they use nothing but `wire`'s laws. Assumes nothing.
use Prim.Native.Nat.{◌%◌, ◌*◌, ◌+◌, ◌-◌, ◌/◌, ◌<◌, ◌≤◌, suc, zero, ℕ}
use mathlib.Core.Bool.{false, not, true, ◌||◌}
use mathlib.Core.List.{List, [], ◌++◌, ◌∷◌, append_assoc}
use mathlib.Core.Path.{◌∙◌, ◌≡◌, ap, ap₂, refl, sym}
use native.Mathlib.Decide.{dec_lt}
use native.Mathlib.Nat.{add-zero, mul-le-mul}
use native.Mathlib.Omega.{arith}
use lib.Dec.{eqb}
use lib.ListN.{get_or-eq_default, drop, get_or, length, length-append, take}
use lib.Seq.{get_or-append-add, get_or_at, take_at}
use Rattle.wire.proofs.Bytes.{bytes_append, four-back, four_bytes, length-le32, rest, small_bytes}
use Rattle.wire.proofs.Exchange.{exchange_breaks_trailer}
use Rattle.wire.proofs.Tests.{either_second, eq→eqb, is_false, is_true, not-or, of_false, T_not-not}
use Rattle.wire.proofs.Trailer.{bytes-sealed, has_sealed, length-sealed, sealed_has}
use Rattle.wire.specs.Bytes.{AllBytes, le32, u32_at}
use Rattle.wire.specs.Exchange.{Unequal, exchanged}
use Rattle.wire.specs.Trailer.{has_trailer, sealed}
use Rattle.matrix.proofs.Array.{entry_place}
use Rattle.matrix.specs.Array.{entry, vector}
use Rattle.rules.proofs.Facts.{Unbroken, unbroken}
use Rattle.node.specs.Record.{broken_record}
use Rattle.node.specs.declared.Node.{Node as Record}
use Rattle.image.proofs.Numbers.{length_fields}
use Rattle.image.proofs.Reading.{Good, bad-unsealed, good-image, record_cells, record_senders}
use Rattle.image.specs.Image.{ImageLaws, SoundImage, SoundRecord, bad_image, fields, image, image_size, numbers_at, record_fields, record_in}

-- ---- Fields

-- every number fits in four bytes
abbrev AllFit : List ℕ → Type 0
AllFit l = (k : ℕ) → get_or l k 0 < 4294967296

-- the fields with any bytes behind them
pub fields_then : (r : Record) (t : List ℕ)
    → record_fields r ++ t ≡ r.me ∷ r.n ∷ r.cap ∷ (fields r.m ++ (fields r.deliv ++ (r.held ∷ t)))
unfolding record_fields
fields_then r t =
    ap (λ (x : List ℕ). r.me ∷ r.n ∷ r.cap ∷ x) (append_assoc (fields r.m) (fields r.deliv ++ (r.held ∷ [])) t
    ∙ ap (λ (x : List ℕ). fields r.m ++ x) (append_assoc (fields r.deliv) (r.held ∷ []) t))

pub length_record : (r : Record) → length r.m ≡ 144 → length r.deliv ≡ 12 → length (record_fields r) ≡ 628
unfolding record_fields
length_record r cells senders =
    omega (
      arith,
      length-append (fields r.m) (fields r.deliv ++ (r.held ∷ [])),
      length-append (fields r.deliv) (r.held ∷ []),
      length_fields r.m,
      length_fields r.deliv,
    )

bytes-le32 : (v : ℕ) → AllBytes (le32 v)
unfolding le32
bytes-le32 v = small_bytes (le32 v) (omega arith)

bytes-fields : (l : List ℕ) → AllBytes (fields l)
unfolding fields
bytes-fields [] = small_bytes [] tt
bytes-fields (v ∷ l) = bytes_append (le32 v) (fields l) (bytes-le32 v) (bytes-fields l)

-- ---- A record is what its fields read as

-- the four bytes of a number read as the number
number-back : (p : List ℕ) (v : ℕ) (t : List ℕ) → v < 4294967296 → u32_at (p ++ (le32 v ++ t)) (length p) ≡ v
unfolding u32_at le32
number-back p v t h =
    let s : List ℕ = v % 256 ∷ v / 256 % 256 ∷ v / 65536 % 256 ∷ v / 16777216 % 256 ∷ t in
    let a : get_or (p ++ s) (length p) 0 ≡ v % 256 = ap (λ (k : ℕ). get_or (p ++ s) k 0) (sym (add-zero (length p))) ∙ get_or-append-add p s 0 0 in
    omega (arith, a, get_or-append-add p s 1 0, get_or-append-add p s 2 0, get_or-append-add p s 3 0, four_bytes v h)

numbers-back : (l p t : List ℕ) → AllFit l → numbers_at (p ++ (fields l ++ t)) (length p) (length l) ≡ l
unfolding numbers_at fields le32
numbers-back [] p t f = refl
numbers-back (v ∷ l) p t f =
    let e : p ++ (le32 v ++ (fields l ++ t)) ≡ (p ++ le32 v) ++ (fields l ++ t) = sym (append_assoc p (le32 v) (fields l ++ t)) in
    let k : length p + 4 ≡ length (p ++ le32 v) = omega (arith, length-append p (le32 v), length-le32 v) in
    ap₂ ◌∷◌ (number-back p v (fields l ++ t) (f 0))
    (ap₂ (λ (x : List ℕ) (y : ℕ). numbers_at x y (length l)) e k ∙ numbers-back l (p ++ le32 v) t (λ i. f (suc i)))

module _ (r : Record) (cells : length r.m ≡ 144) (senders : length r.deliv ≡ 12) (matrix : AllFit r.m) (vector : AllFit r.deliv) (t : List ℕ) where
  abbrev run : List ℕ
  run = r.me ∷ r.n ∷ r.cap ∷ (fields r.m ++ (fields r.deliv ++ (r.held ∷ t)))

  matrix-back : numbers_at run 3 144 ≡ r.m
  matrix-back =
      ap (numbers_at run 3) (sym cells) ∙ numbers-back r.m (r.me ∷ r.n ∷ r.cap ∷ []) (fields r.deliv ++ (r.held ∷ t)) matrix

  vector-back : numbers_at run 579 12 ≡ r.deliv
  vector-back =
      let p : List ℕ = r.me ∷ r.n ∷ r.cap ∷ fields r.m in
      let k : 579 ≡ length p = omega (arith, length_fields r.m) in
      ap₂ (λ (x y : ℕ). numbers_at run x y) k (sym senders) ∙ numbers-back r.deliv p (r.held ∷ t) vector

  held_back : get_or run 627 0 ≡ r.held
  held_back =
      let p : List ℕ = r.me ∷ r.n ∷ r.cap ∷ (fields r.m ++ fields r.deliv) in
      let e : run ≡ p ++ (r.held ∷ t)
      = ap (λ (x : List ℕ). r.me ∷ r.n ∷ r.cap ∷ x) (sym (append_assoc (fields r.m) (fields r.deliv) (r.held ∷ t))) in
      let k : length p ≡ 627 = omega (arith, length-append (fields r.m) (fields r.deliv), length_fields r.m, length_fields r.deliv) in
      ap (λ (x : List ℕ). get_or x 627 0) e ∙ get_or_at p r.held t 0 627 k

  run-back : record_in run ≡ r
  unfolding record_in
  run-back = λ z. record { me = r.me; n = r.n; cap = r.cap; m = matrix-back z; deliv = vector-back z; held = held_back z }

  record_back : record_in (record_fields r ++ t) ≡ r
  record_back = ap record_in (fields_then r t) ∙ run-back

-- ---- 628 bytes are the fields of what they read as

module _ (s : List ℕ) (b : AllBytes s) where
  -- four bytes in front of the rest
  rest-four : (at : ℕ) → at + 4 ≤ length s → drop at s ≡ le32 (u32_at s at) ++ drop (at + 4) s
  unfolding u32_at
  rest-four at h =
      let one : at + 1 + 1 ≡ at + 2 = omega arith in
      let two : at + 2 + 1 ≡ at + 3 = omega arith in
      let three : at + 3 + 1 ≡ at + 4 = omega arith in
      rw (four-back (get_or s at 0) (get_or s (at + 1) 0) (get_or s (at + 2) 0) (get_or s (at + 3) 0) (b at) (b (at + 1)) (b (at + 2)) (b (at + 3)))
      (rest s at (omega arith)
      ∙ ap (λ (x : List ℕ). get_or s at 0 ∷ x) (rest s (at + 1) (omega arith) ∙ ap (λ (k : ℕ). get_or s (at + 1) 0 ∷ drop k s) one
      ∙ ap (λ (x : List ℕ). get_or s (at + 1) 0 ∷ x) (rest s (at + 2) (omega arith) ∙ ap (λ (k : ℕ). get_or s (at + 2) 0 ∷ drop k s) two
      ∙ ap (λ (x : List ℕ). get_or s (at + 2) 0 ∷ x) (rest s (at + 3) (omega arith) ∙ ap (λ (k : ℕ). get_or s (at + 3) 0 ∷ drop k s) three))))

  -- k numbers in front of the rest
  rest-numbers : (k at : ℕ) → at + 4 * k ≤ length s → drop at s ≡ fields (numbers_at s at k) ++ drop (at + 4 * k) s
  unfolding fields numbers_at
  rest-numbers zero at h = rw add-zero
  rest-numbers (suc k) at h =
      let e : at + 4 + 4 * k ≡ at + 4 * suc k = omega arith in
      rest-four at (omega arith)
      ∙ ap (λ (x : List ℕ). le32 (u32_at s at) ++ x) (rest-numbers k (at + 4) (omega arith) ∙ ap (λ (i : ℕ). fields (numbers_at s (at + 4) k) ++ drop i s) e)
      ∙ sym (append_assoc (le32 (u32_at s at)) (fields (numbers_at s (at + 4) k)) (drop (at + 4 * suc k) s))

  -- the fields in front of the rest
  pub rest-fields : 628 ≤ length s → s ≡ record_fields (record_in s) ++ drop 628 s
  unfolding record_in
  rest-fields h =
      let last : drop 627 s ≡ get_or s 627 0 ∷ drop 628 s = rest s 627 (omega arith) in
      let vector : drop 579 s ≡ fields (numbers_at s 579 12) ++ (get_or s 627 0 ∷ drop 628 s) = rest-numbers 12 579 (omega arith)
      ∙ ap (λ (x : List ℕ). fields (numbers_at s 579 12) ++ x) last in
      let matrix : drop 3 s ≡ fields (numbers_at s 3 144) ++ (fields (numbers_at s 579 12) ++ (get_or s 627 0 ∷ drop 628 s)) = rest-numbers 144 3 (omega arith)
      ∙ ap (λ (x : List ℕ). fields (numbers_at s 3 144) ++ x) vector in
      rest s 0 (omega arith)
      ∙ ap (λ (x : List ℕ). get_or s 0 0 ∷ x) (rest s 1 (omega arith)
      ∙ ap (λ (x : List ℕ). get_or s 1 0 ∷ x) (rest s 2 (omega arith)
      ∙ ap (λ (x : List ℕ). get_or s 2 0 ∷ x) matrix))
      ∙ sym (fields_then (record_in s) (drop 628 s))

  fields_back : 628 ≤ length s → take 628 s ≡ record_fields (record_in s)
  fields_back h =
      ap (take 628) (rest-fields h)
      ∙ take_at (record_fields (record_in s)) (drop 628 s) 628
      (length_record (record_in s) (record_cells s) (record_senders s))

-- ---- Sound records and sound images

-- what a sound record's rules tell of its bytes
module _ (r : Record) (h : SoundRecord r) where
  facts : Unbroken r.me r.n r.cap (entry r.m) (vector r.deliv) r.held
  unfolding broken_record
  facts = unbroken r.me r.n r.cap r.m (vector r.deliv) r.held h.rules

  matrix-fits : AllFit r.m
  matrix-fits k = go (dec_lt k 144)
    where
      go : Dec (k < 144) → get_or r.m k 0 < 4294967296
      go (yes l) = omega (arith, entry_place r.m k l, facts.limit (k / 12) (k % 12))
      go (no l) = omega (arith, get_or-eq_default r.m 0 {n = k} (omega (arith, h.cells)))

  vector-fits : AllFit r.deliv
  vector-fits k = go (dec_lt k 12)
    where
      go : Dec (k < 12) → get_or r.deliv k 0 < 4294967296
      go (yes l) = omega (arith, facts.vector_limit k l)
      go (no l) = omega (arith, get_or-eq_default r.deliv 0 {n = k} (omega (arith, h.senders)))

  back : record_in (image r) ≡ r
  unfolding image sealed
  back = record_back r h.cells h.senders matrix-fits vector-fits _

  bytes_record : AllBytes (record_fields r)
  unfolding record_fields
  bytes_record =
      let u = facts.range in
      let square : r.n * r.n ≤ 144 = mul-le-mul u.at_most12 u.at_most12 in
      bytes_append (r.me ∷ r.n ∷ r.cap ∷ []) (fields r.m ++ (fields r.deliv ++ (r.held ∷ [])))
      (small_bytes (r.me ∷ r.n ∷ r.cap ∷ []) (omega (arith, u.below, u.at_most12, u.cap_to, square)))
      (bytes_append (fields r.m) (fields r.deliv ++ (r.held ∷ [])) (bytes-fields r.m)
      (bytes_append (fields r.deliv) (r.held ∷ []) (bytes-fields r.deliv) (small_bytes (r.held ∷ []) (omega (arith, facts.room)))))

  few : length (record_fields r) ≡ 628
  few = length_record r h.cells h.senders

  -- an image of a sound record meets no 20
  good : bad_image (image r) ≡ false
  unfolding bad_image image
  good =
      let size : length (sealed (record_fields r)) ≡ 632 = omega (arith, length-sealed (record_fields r), few) in
      is_false (not (eqb (length (image r)) image_size) || not (has_trailer (image r)) || broken_record (record_in (image r)))
      (not-or (not (eqb (length (image r)) image_size) || not (has_trailer (image r))) (broken_record (record_in (image r)))
      (not-or (not (eqb (length (image r)) image_size)) (not (has_trailer (image r)))
      (T_not-not (eqb (length (image r)) image_size) (eq→eqb (length (image r)) image_size size))
      (T_not-not (has_trailer (image r)) (sealed_has (record_fields r) (omega (arith, few)))))
      (of_false (broken_record (record_in (image r))) (ap broken_record back ∙ h.rules)))

  written : SoundImage (image r)
  unfolding image
  written = record { bytes = bytes-sealed (record_fields r) bytes_record; good = good }

-- what a sound image keeps
module _ (s : List ℕ) (h : SoundImage s) where
  kept : Good s
  kept = good-image s h.good

  read : SoundRecord (record_in s)
  read = record { cells = record_cells s; senders = record_senders s; rules = kept.rules }

  spelled : image (record_in s) ≡ s
  unfolding image
  spelled =
      let front : length s - 4 ≡ 628 = omega (arith, kept.size) in
      ap sealed (sym (fields_back s h.bytes (omega (arith, kept.size))) ∙ ap (λ (k : ℕ). take k s) (sym front))
      ∙ sym (has_sealed s h.bytes kept.trailer)

  found : (k : ℕ) → Unequal s k → bad_image (exchanged s k) ≡ true
  found k u =
      let x = exchanged s k in
      let wrong = exchange_breaks_trailer s k h.bytes u (is_true (has_trailer s) kept.trailer) in
      bad-unsealed x (either_second (not (eqb (length x) image_size)) (not (has_trailer x)) (ap not wrong))

pub image_laws : ImageLaws
image_laws =
    record {
      written = written;
      back = back;
      read = read;
      spelled = spelled;
      one = λ s t a b e. sym (spelled s a) ∙ ap image e ∙ spelled t b;
      exchange = found;
    }
