-- Laws of bytes written over a list, of the rest of a list in a loop, and of little-endian fields. Assumes nothing.
use Rattle.std.proofs.Common.{◌≡◌, ℕ, zero, suc, ◌+◌, ◌-◌, ◌*◌, ◌/◌, ◌%◌, ◌<◌, ◌≤◌, List, [], ◌∷◌, ◌++◌, length, get_or, take, drop, set, sym, refl, ap, ◌∙◌, add-zero, add_assoc, mod-eq_of_lt, add-one, arith, length-drop, length-set, take-append-drop, length-take, length-take-le, get_or-drop, take_all, drop-cons, get_or-take, take-suc-set, drop-set-lt, drop_at}
use native.Mathlib.Decide.{dec_lt}
use native.Mathlib.Nat.{div-add-mod, div-div-eq-div-mul}
use lib.ListN.{get_or-eq_default}
use lib.Seq.{append_snoc, drop-length, take-append_seam}
use Rattle.wire.specs.Bytes.{AllBytes, le16, le32, put}

-- the rest of a list, one element further, in the form `i + 1` of the code
pub rest : (s : List ℕ) (i : ℕ) → i < length s → drop i s ≡ get_or s i 0 ∷ drop (i + 1) s
rest s i h = rw (add-one, drop-cons s i 0)

pub rest_end : (s : List ℕ) (i : ℕ) → length s ≤ i → i ≤ length s → drop i s ≡ []
rest_end s i h l = let e : i ≡ length s = omega arith in rw (e, drop-length)

-- the rest of a list as a slice has it that is lent from a place to the list's end
pub rest-lent : (s : List ℕ) (k : ℕ) → take (length s - k) (drop k s) ≡ drop k s
rest-lent s k = take_all (length s - k) (drop k s) (omega (arith, length-drop k s))

-- nothing written, one byte written, and a run of bytes written in two parts
pub put-nil : (o : List ℕ) (at : ℕ) → put o at [] ≡ o
unfolding put
put-nil o at = refl

pub length-put : (o : List ℕ) (at : ℕ) (bs : List ℕ) → length (put o at bs) ≡ length o
unfolding put
length-put o at [] = refl
length-put o at (b ∷ bs) = length-put (set o at b) (at + 1) bs ∙ length-set o at b

pub put_append : (o : List ℕ) (at : ℕ) (xs ys : List ℕ) → put o at (xs ++ ys) ≡ put (put o at xs) (at + length xs) ys
unfolding put
put_append o at [] ys = rw add-zero
put_append o at (x ∷ xs) ys =
    let e : at + suc (length xs) ≡ at + 1 + length xs = omega arith in
    rw e (put_append (set o at x) (at + 1) xs ys)

-- one byte more of a list that is written
pub put_rest : (o : List ℕ) (at : ℕ) (s : List ℕ) (i : ℕ) → i < length s
    → put o (at + i) (drop i s) ≡ put (set o (at + i) (get_or s i 0)) (at + (i + 1)) (drop (i + 1) s)
unfolding put
put_rest o at s i h = rw (rest s i h) (ap (λ (k : ℕ). put (set o (at + i) (get_or s i 0)) k (drop (i + 1) s)) (add_assoc at i 1))

-- the bytes written, between what stood before and behind them
pub put-eq : (o : List ℕ) (at : ℕ) (bs : List ℕ) → at + length bs ≤ length o → put o at bs ≡ take at o ++ (bs ++ drop (at + length bs) o)
unfolding put
put-eq o at [] h = rw add-zero (sym (take-append-drop at o))
put-eq o at (b ∷ bs) h =
    let k : at + 1 + length bs ≤ length (set o at b) = simp length-set (omega arith) in
    let e : at + 1 + length bs ≡ at + suc (length bs) = omega arith in
    let l : at < length o = omega arith in
    put-eq (set o at b) (at + 1) bs k ∙ rw (drop-set-lt (at + 1 + length bs) o at b (omega arith), e, add-one, take-suc-set o at b l, append_snoc)

-- the bytes stand where they were written
pub put_back : (o : List ℕ) (at : ℕ) (bs : List ℕ) → at + length bs ≤ length o → take (length bs) (drop at (put o at bs)) ≡ bs
put_back o at bs h =
    let l : length (take at o) ≡ at = length-take-le at o (omega arith) in
    rw (put-eq o at bs h, drop_at (take at o) (bs ++ drop (at + length bs) o) at l, take-append_seam)

-- a number's two bytes, and its four, make the number
pub two_bytes : (v : ℕ) → v < 65536 → v % 256 + 256 * (v / 256 % 256) ≡ v
two_bytes v h = omega arith

pub four_bytes : (v : ℕ) → v < 4294967296 → v % 256 + 256 * (v / 256 % 256) + 65536 * (v / 65536 % 256) + 16777216 * (v / 16777216 % 256) ≡ v
four_bytes v l =
    let t : v / 16777216 % 256 ≡ v / 16777216 = mod-eq_of_lt (omega arith) in
    let a : 256 * (v / 65536) + v / 256 % 256 ≡ v / 256 = rw (← div-div-eq-div-mul v 256 256) (div-add-mod (v / 256) 256) in
    let b : 256 * (v / 16777216) + v / 65536 % 256 ≡ v / 65536 = rw (← div-div-eq-div-mul v 65536 256) (div-add-mod (v / 65536) 256) in
    omega (arith, div-add-mod v 256)

-- the bytes of the number of two bytes, and of four, are these bytes
pub two_back : (a b : ℕ) → a < 256 → b < 256 → le16 (a + 256 * b) ≡ a ∷ b ∷ []
unfolding le16
two_back a b h k =
    let p : (a + 256 * b) % 256 ≡ a = omega arith in
    let d : (a + 256 * b) / 256 ≡ b = omega arith in
    rw (p, d, mod-eq_of_lt k)

pub four-back : (a b c d : ℕ) → a < 256 → b < 256 → c < 256 → d < 256 → le32 (a + 256 * b + 65536 * c + 16777216 * d) ≡ a ∷ b ∷ c ∷ d ∷ []
unfolding le32
four-back a b c d ha hb hc hd =
    let p : (a + 256 * b + 65536 * c + 16777216 * d) % 256 ≡ a = omega arith in
    let q : (a + 256 * b + 65536 * c + 16777216 * d) / 256 ≡ b + 256 * c + 65536 * d = omega arith in
    let q' : (b + 256 * c + 65536 * d) % 256 ≡ b = omega arith in
    let r : (a + 256 * b + 65536 * c + 16777216 * d) / 65536 ≡ c + 256 * d = omega arith in
    let r' : (c + 256 * d) % 256 ≡ c = omega arith in
    let t : (a + 256 * b + 65536 * c + 16777216 * d) / 16777216 ≡ d = omega arith in
    rw (p, q, q', r, r', t, mod-eq_of_lt hd)

pub length-le16 : (v : ℕ) → length (le16 v) ≡ 2
unfolding le16
length-le16 v = refl

pub length-le32 : (v : ℕ) → length (le32 v) ≡ 4
unfolding le32
length-le32 v = refl

-- a part of a list of bytes is one
pub bytes_drop : (k : ℕ) (s : List ℕ) → AllBytes s → AllBytes (drop k s)
bytes_drop k s b i = rw get_or-drop (b (k + i))

pub bytes_take : (k : ℕ) (s : List ℕ) → AllBytes s → AllBytes (take k s)
bytes_take k s b i = go (dec_lt i k)
  where
    go : Dec (i < k) → get_or (take k s) i 0 < 256
    go (yes h) = rw (get_or-take k s i 0 h) (b i)
    go (no h) = rw (get_or-eq_default (take k s) 0 {n = i} (rw length-take (omega arith))) (omega arith)

pub bytes_append : (s t : List ℕ) → AllBytes s → AllBytes t → AllBytes (s ++ t)
bytes_append [] t a b i = b i
bytes_append (x ∷ s) t a b zero = a 0
bytes_append (x ∷ s) t a b (suc i) = bytes_append s t (λ j. a (suc j)) b i

-- numbers below 256, one by one: of a list that is written out a fact that `omega` reads
abbrev pub Small : List ℕ → Type 0
Small [] = Unit {0}
Small (x ∷ s) = (x < 256) × Small s

pub small_bytes : (s : List ℕ) → Small s → AllBytes s
small_bytes [] h i = omega arith
small_bytes (x ∷ s) h zero = h.0
small_bytes (x ∷ s) h (suc i) = small_bytes s h.1 i

pub bytes-le16 : (v : ℕ) → AllBytes (le16 v)
unfolding le16
bytes-le16 v = small_bytes (le16 v) (omega arith)
