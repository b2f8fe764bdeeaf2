-- Laws of the checksum and the trailer. Assumes nothing.
use Rattle.std.proofs.Common.{◌≡◌, ℕ, suc, ◌+◌, ◌-◌, ◌*◌, ◌/◌, ◌%◌, ◌<◌, ◌≤◌, ◌&&◌, T, eqb, leb, List, [], ◌∷◌, ◌++◌, length, get_or, take, drop, sym, refl, ap, ◌∙◌, ap₂, append_assoc, add_assoc, mul_assoc, add-mul, add-one, arith, le→leb, eqb→eq, leb→le, length-append, length-drop, take-append-drop, length-take-le, take_all, drop-cons, drop-drop, take_at, get_or-append-add, take-add, drop_at}
use native.Mathlib.Nat.{add-mul-mod_self_left, mod-add-div}
use Rattle.wire.proofs.Bytes.{bytes_append, bytes-le16, length-le16, put_append, put_back, put-eq, rest, rest_end, two_back, two_bytes}
use Rattle.wire.proofs.Tests.{T_and, and_T, eq→eqb}
use Rattle.wire.specs.Bytes.{AllBytes, le16, put, u16_at}
use Rattle.wire.specs.Trailer.{checksum, count_back, counted, has_trailer, sealed, sum_back, trailer, weighted}

-- the u16 total by wrapping add, begun at acc with weight w
unfoldable pub wrapped : ℕ → ℕ → List ℕ → ℕ
wrapped acc w [] = acc
wrapped acc w (b ∷ s) = wrapped ((acc + w * b % 65536) % 65536) ((w + 1) % 65536) s

-- a weight modulo 65,536 weighs as the weight itself
weighed_mod : (w b : ℕ) → w % 65536 * b % 65536 ≡ w * b % 65536
weighed_mod w b =
    let parts : w * b ≡ w % 65536 * b + 65536 * (w / 65536 * b) =
    ap (λ (k : ℕ). k * b) (sym (mod-add-div w 65536)) ∙ rw (add-mul, mul_assoc) in
    rw parts (sym (add-mul-mod_self_left (w % 65536 * b) 65536 (w / 65536 * b)))

-- it is the list's sum modulo 65,536; wrapped_checksum, below, is the one lemma that the code's proof cites
from : (acc w : ℕ) (s : List ℕ) → acc < 65536 → wrapped acc (w % 65536) s ≡ (acc + weighted w s) % 65536
unfolding wrapped
from acc w [] h = omega arith
from acc w (b ∷ s) h =
    let next : (w % 65536 + 1) % 65536 ≡ (w + 1) % 65536 = omega arith in
    rw (weighed_mod w b, next) (from ((acc + w * b % 65536) % 65536) (w + 1) s (omega arith) ∙ omega arith)

pub wrapped_checksum : (s : List ℕ) → wrapped 0 1 s ≡ checksum s
unfolding checksum
wrapped_checksum s = from 0 1 s (omega arith) ∙ omega arith

pub checksum-lt : (s : List ℕ) → checksum s < 65536
unfolding checksum
checksum-lt s = omega arith

-- one more byte of a loop that adds, and its end
pub wrapped_rest : (acc w : ℕ) (s : List ℕ) (i : ℕ) → i < length s
    → wrapped acc w (drop i s) ≡ wrapped ((acc + w * get_or s i 0 % 65536) % 65536) ((w + 1) % 65536) (drop (i + 1) s)
unfolding wrapped
wrapped_rest acc w s i h = rw (rest s i h)

pub wrapped_end : (acc w : ℕ) (s : List ℕ) (i : ℕ) → length s ≤ i → i ≤ length s → wrapped acc w (drop i s) ≡ acc
unfolding wrapped
wrapped_end acc w s i h l = rw (rest_end s i h l)

-- lengths
pub length-trailer : (s : List ℕ) → length (trailer s) ≡ 4
unfolding trailer le16
length-trailer s = refl

pub length-sealed : (s : List ℕ) → length (sealed s) ≡ length s + 4
unfolding sealed
length-sealed s = rw (length-append, length-trailer)

-- the trailer, field by field, as it is written behind the bytes from `at` to `end`
module _ (o : List ℕ) (at end : ℕ) (h : at ≤ end) (room : end + 4 ≤ length o) where
  abbrev run : List ℕ
  run = take (end - at) (drop at o)

  run_length : length run ≡ end - at
  run_length = length-take-le (end - at) (drop at o) (simp length-drop (omega arith))

  -- what stands from `at` on once the count is written
  with_count : take (end + 2 - at) (drop at (put o end (le16 (end - at)))) ≡ counted run
  unfolding counted
  with_count =
      let two = length-le16 (end - at) in
      let seam : at + (end - at) ≡ end = omega arith in
      let size : length (run ++ le16 (end - at)) ≡ end + 2 - at = rw (length-append, run_length, two) (omega arith) in
      let front : take end o ≡ take at o ++ run = ap (λ (k : ℕ). take k o) (sym seam) ∙ take-add at (end - at) o in
      let rest = drop (end + length (le16 (end - at))) o in
      rw (
        put-eq o end (le16 (end - at)) (omega arith),
        front,
        append_assoc,
        drop_at (take at o) (run ++ (le16 (end - at) ++ rest)) at (length-take-le at o (omega arith)),
        ← append_assoc run (le16 (end - at)) rest,
        take_at (run ++ le16 (end - at)) rest (end + 2 - at) size,
        run_length,
      )

  pub put_trailer : put (put o end (le16 (end - at))) (end + 2)
      (le16 (checksum (take (end + 2 - at) (drop at (put o end (le16 (end - at))))))) ≡ put o end (trailer run)
  unfolding trailer
  put_trailer = rw (with_count, put_append, length-le16, run_length)

-- the trailer written behind bytes that were written from `at` on
pub put-sealed : (o f : List ℕ) (at : ℕ) → at + length f ≤ length o
    → put (put o at f) (at + length f) (trailer (take (at + length f - at) (drop at (put o at f)))) ≡ put o at (sealed f)
unfolding sealed
put-sealed o f at h =
    let e : at + length f - at ≡ length f = omega arith in
    rw (e, put_back o at f h, put_append)

-- the two fields of a trailer, read back
pub sealed-count : (s : List ℕ) → length s < 65536 → count_back (sealed s) ≡ length s
unfolding count_back u16_at sealed trailer le16
sealed-count s h =
    let e : length (s ++ trailer s) - 4 ≡ length s + 0 = rw (length-append, length-trailer) (omega arith) in
    rw (e, get_or-append-add, add_assoc, get_or-append-add) (two_bytes (length s) h)

pub sealed-sum : (s : List ℕ) → sum_back (sealed s) ≡ checksum (counted s)
unfolding sum_back u16_at sealed trailer le16
sealed-sum s =
    let e : length (s ++ trailer s) - 2 ≡ length s + 2 = rw (length-append, length-trailer) (omega arith) in
    rw (e, get_or-append-add, add_assoc, get_or-append-add) (two_bytes (checksum (counted s)) (checksum-lt (counted s)))

-- what stands before the sum
sealed-split : (s : List ℕ) → sealed s ≡ counted s ++ le16 (checksum (counted s))
unfolding sealed trailer counted
sealed-split s = sym (append_assoc s (le16 (length s)) (le16 (checksum (counted s))))

length-counted : (s : List ℕ) → length (counted s) ≡ length s + 2
unfolding counted
length-counted s = rw (length-append, length-le16)

pub sealed-front : (s : List ℕ) → take (length (sealed s) - 2) (sealed s) ≡ counted s
sealed-front s =
    let size : length (counted s) ≡ length (sealed s) - 2 = omega (arith, length-counted s, length-sealed s) in
    ap (take (length (sealed s) - 2)) (sealed-split s) ∙ take_at (counted s) (le16 (checksum (counted s))) (length (sealed s) - 2) size

-- bytes with their trailer behind them pass the test
pub sealed_has : (s : List ℕ) → length s < 65536 → T (has_trailer (sealed s))
unfolding has_trailer
sealed_has s h =
    let l = length-sealed s in
    T_and (leb 4 (length (sealed s)) && eqb (count_back (sealed s)) (length (sealed s) - 4))
    (eqb (sum_back (sealed s)) (checksum (take (length (sealed s) - 2) (sealed s))))
    (T_and (leb 4 (length (sealed s))) (eqb (count_back (sealed s)) (length (sealed s) - 4)) (le→leb 4 (length (sealed s)) (omega arith))
    (eq→eqb (count_back (sealed s)) (length (sealed s) - 4) (sealed-count s h ∙ omega arith)))
    (eq→eqb (sum_back (sealed s)) (checksum (take (length (sealed s) - 2) (sealed s))) (sealed-sum s ∙ ap checksum (sym (sealed-front s))))

-- what a test that is passed tells
pub record Trailed (s : List ℕ) : Type 0 where
  pub long : 4 ≤ length s
  pub count : count_back s ≡ length s - 4
  pub sum : sum_back s ≡ checksum (take (length s - 2) s)

pub trailed : (s : List ℕ) → T (has_trailer s) → Trailed s
unfolding has_trailer
trailed s t =
    let p = and_T (leb 4 (length s) && eqb (count_back s) (length s - 4)) (eqb (sum_back s) (checksum (take (length s - 2) s))) t in
    let q = and_T (leb 4 (length s)) (eqb (count_back s) (length s - 4)) p.0 in
    record {
      long = leb→le 4 (length s) q.0;
      count = eqb→eq (count_back s) (length s - 4) q.1;
      sum = eqb→eq (sum_back s) (checksum (take (length s - 2) s)) p.1;
    }

-- two bytes that stand from place k on
two_at : (s : List ℕ) (k : ℕ) → k + 2 ≤ length s → take 2 (drop k s) ≡ get_or s k 0 ∷ get_or s (k + 1) 0 ∷ []
two_at s k h = rw (drop-cons s k 0 (omega arith), drop-cons s (suc k) 0 (omega arith), add-one)

-- bytes that pass the test are those in front of their trailer, with the trailer of these behind them
pub has_sealed : (s : List ℕ) → AllBytes s → T (has_trailer s) → s ≡ sealed (take (length s - 4) s)
unfolding sealed trailer counted count_back sum_back u16_at
has_sealed s b e = go (length s - 4) (trailed s e) refl
  where
    go : (k : ℕ) → Trailed s → k ≡ length s - 4 → s ≡ sealed (take k s)
    go k t p =
        let f = take k s in
        let mid : length s - 2 ≡ k + 2 = omega (arith, t.long) in
        let count : get_or s k 0 + 256 * get_or s (k + 1) 0 ≡ k = rw p t.count in
        let sum : get_or s (k + 2) 0 + 256 * get_or s (k + 2 + 1) 0 ≡ checksum (take (k + 2) s) = rw (← mid) t.sum in
        let first : le16 (length f) ≡ get_or s k 0 ∷ get_or s (k + 1) 0 ∷ [] =
        ap le16 (length-take-le k s (omega (arith, t.long)) ∙ sym count) ∙ two_back (get_or s k 0) (get_or s (k + 1) 0) (b k) (b (k + 1)) in
        let front : take (k + 2) s ≡ counted f =
        take-add k 2 s ∙ ap (λ (l : List ℕ). f ++ l) (two_at s k (omega (arith, t.long)) ∙ sym first) in
        let second : le16 (checksum (counted f)) ≡ get_or s (k + 2) 0 ∷ get_or s (k + 2 + 1) 0 ∷ [] =
        ap (λ (l : List ℕ). le16 (checksum l)) (sym front) ∙ ap le16 (sym sum)
        ∙ two_back (get_or s (k + 2) 0) (get_or s (k + 2 + 1) 0) (b (k + 2)) (b (k + 2 + 1)) in
        let last : drop (k + 2) s ≡ le16 (checksum (counted f)) =
        sym (take_all 2 (drop (k + 2) s) (simp length-drop (omega (arith, t.long)))) ∙ two_at s (k + 2) (omega (arith, t.long)) ∙ sym second in
        sym (take-append-drop k s) ∙ ap (λ (l : List ℕ). f ++ l)
        (sym (take-append-drop 2 (drop k s)) ∙ ap₂ ◌++◌ (two_at s k (omega (arith, t.long)) ∙ sym first) (drop-drop 2 k s ∙ last))

-- bytes with their trailer behind them are bytes
pub bytes-sealed : (s : List ℕ) → AllBytes s → AllBytes (sealed s)
unfolding sealed trailer
bytes-sealed s b =
    bytes_append s (le16 (length s) ++ le16 (checksum (counted s))) b
    (bytes_append (le16 (length s)) (le16 (checksum (counted s))) (bytes-le16 (length s)) (bytes-le16 (checksum (counted s))))
