-- Laws of printed numbers and lines. Assumes nothing.
use Prim.Native.Nat.{◌%◌, ◌*◌, ◌+◌, ◌-◌, ◌/◌, ◌<◌, ◌^◌, ◌≤◌, suc, zero, ℕ}
use Rattle.std.specs.Prelude.{Result, Ok, Err, Some}
use mathlib.Core.List.{List, [], ◌++◌, ◌∷◌, append_assoc}
use mathlib.Core.Path.{◌∙◌, ◌≡◌, ap, ap₂, refl, subst, sym}
use native.Mathlib.Decide.{dec_lt}
use native.Mathlib.Nat.{pow-le-pow_right, pow-suc}
use native.Mathlib.Omega.{arith}
use borrow.Author.Tests.{le-ltb, lt-ltb}
use lib.ListN.{drop, get_or, length, length-append, length-set, set}
use Rattle.wire.specs.Bytes.{put}
use Rattle.wire.proofs.Bytes.{length-put, put_append, rest, rest_end}
use Rattle.text.specs.Fields.{continued, value}
use Rattle.text.specs.Output.{Fits, after_run, print_into, too_short}
use Rattle.text.specs.Print.{decimal, digits, line_end, number_row, row, spaced}
use Rattle.text.specs.Wrote.{Wrote, WroteWhole}
use Rattle.text.specs.declared.TooShort.{TooShort}
use Rattle.text.proofs.Fields.{continued_append, digit_is, value-whole}

-- a number of one digit, and one of more
digits-one : (k v : ℕ) → v < 10 → digits (suc k) v ≡ (48 + v) ∷ []
unfolding digits
digits-one k v h = rw (lt-ltb v 10 h)

digits_more : (k v : ℕ) → 10 ≤ v → digits (suc k) v ≡ digits k (v / 10) ++ ((48 + v % 10) ∷ [])
unfolding digits
digits_more k v h = rw (le-ltb v 10 h)

-- a number of two digits or more, and its number of digits without the last one
part-below : (k v : ℕ) → v < 10 ^ suc k → v / 10 < 10 ^ k
part-below k v h = omega (arith, pow-suc 10 k)

two_digits : (k v : ℕ) → v < 10 ^ suc k → 10 ≤ v → 1 ≤ k
two_digits zero v h l = absurd (omega (arith, pow-suc 10 0))
two_digits (suc k) v h l = omega arith

-- k digits are enough for a number below 10 to the k
digits-enough : (k v : ℕ) → 1 ≤ k → v < 10 ^ k → digits (suc k) v ≡ digits k v
digits-enough zero v p h = absurd (omega arith)
digits-enough (suc k) v p h = go (dec_lt v 10) (λ q. digits-enough k (v / 10) q (part-below k v h))
  where
    go : Dec (v < 10) → (1 ≤ k → digits (suc k) (v / 10) ≡ digits k (v / 10)) → digits (suc (suc k)) v ≡ digits (suc k) v
    go (yes l) more = digits-one (suc k) v l ∙ sym (digits-one k v l)
    go (no l) more =
        let m : 10 ≤ v = omega arith in
        digits_more (suc k) v m ∙ rw (more (two_digits k v h m)) (sym (digits_more k v m))

-- at least one digit, and at most k for a number below 10 to the k
digits-some : (k v : ℕ) → 1 ≤ length (digits (suc k) v)
digits-some k v = go (dec_lt v 10)
  where
    go : Dec (v < 10) → 1 ≤ length (digits (suc k) v)
    go (yes l) = rw (digits-one k v l) (omega arith)
    go (no l) = let m : 10 ≤ v = omega arith in rw (digits_more k v m, length-append) (omega arith)

digits-few : (j k v : ℕ) → 1 ≤ k → v < 10 ^ k → length (digits j v) ≤ k
unfolding digits
digits-few zero k v p h = omega arith
digits-few (suc j) zero v p h = absurd (omega arith)
digits-few (suc j) (suc k) v p h = go (dec_lt v 10) (λ q. digits-few j k (v / 10) q (part-below k v h))
  where
    go : Dec (v < 10) → (1 ≤ k → length (digits j (v / 10)) ≤ k) → length (digits (suc j) v) ≤ suc k
    go (yes l) more = rw (digits-one j v l) (omega arith)
    go (no l) more =
        let m : 10 ≤ v = omega arith in
        let f = more (two_digits k v h m) in
        rw (digits_more j v m, length-append) (omega arith)

-- the digits of a number are read back as it
last_digit : (u d w : ℕ) → d < 10 → 10 * u + d ≡ w → continued u ((48 + d) ∷ []) ≡ Some w
unfolding continued
last_digit u d w l e = let q : 10 * u + (48 + d - 48) ≡ w = omega arith in rw (digit_is d l, q)

digits-read : (k v : ℕ) → 1 ≤ k → v < 10 ^ k → continued 0 (digits k v) ≡ Some v
digits-read zero v p h = absurd (omega arith)
digits-read (suc k) v p h = go (dec_lt v 10) (λ q. digits-read k (v / 10) q (part-below k v h))
  where
    go : Dec (v < 10) → (1 ≤ k → continued 0 (digits k (v / 10)) ≡ Some (v / 10)) → continued 0 (digits (suc k) v) ≡ Some v
    go (yes l) more = rw (digits-one k v l) (last_digit 0 v v l (omega arith))
    go (no l) more =
        let m : 10 ≤ v = omega arith in
        rw (digits_more k v m) (continued_append 0 (v / 10) (digits k (v / 10)) ((48 + v % 10) ∷ []) (more (two_digits k v h m))
        ∙ last_digit (v / 10) (v % 10) v (omega arith) (omega arith))

-- of a number of one digit, and of a number below 10,000,000,000 with more
pub decimal-one : (v : ℕ) → v < 10 → decimal v ≡ (48 + v) ∷ []
unfolding decimal
decimal-one v h = digits-one 9 v h

pub decimal-more : (v : ℕ) → 10 ≤ v → v < 10000000000 → decimal v ≡ decimal (v / 10) ++ ((48 + v % 10) ∷ [])
unfolding decimal
decimal-more v h l = digits_more 9 v h ∙ ap (λ (s : List ℕ). s ++ ((48 + v % 10) ∷ [])) (sym (digits-enough 9 (v / 10) (omega arith) (omega arith)))

-- the ten digits that `decimal` goes up to are enough: a number below 10 to the k has 1 to k digits, and is read back
pub decimal-some : (v : ℕ) → 1 ≤ length (decimal v)
unfolding decimal
decimal-some v = digits-some 9 v

pub decimal-few : (k v : ℕ) → 1 ≤ k → v < 10 ^ k → length (decimal v) ≤ k
unfolding decimal
decimal-few k v p h = digits-few 10 k v p h

pub decimal-read : (k v : ℕ) → 1 ≤ k → k ≤ 10 → v < 10 ^ k → value k (decimal v) ≡ Some v
unfolding decimal
decimal-read k v p m h =
    let w : 10 ^ k ≤ 10 ^ 10 = pow-le-pow_right {n = 10} (omega arith) {i = k} {j = 10} m in
    value-whole k (decimal v) (decimal-some v) (decimal-few k v p h) ∙ digits-read 10 v (omega arith) (omega arith)

-- a digit more
pub decimal-longer : (v : ℕ) → 10 ≤ v → v < 10000000000 → length (decimal v) ≡ length (decimal (v / 10)) + 1
decimal-longer v h l = ap length (decimal-more v h l) ∙ length-append (decimal (v / 10)) ((48 + v % 10) ∷ [])

-- the last digit of a number with more than one, written behind the others
pub writes_more : (v at r : ℕ) (o p : List ℕ) → 10 ≤ v → v < 10000000000 → r ≡ at + length (decimal (v / 10)) → p ≡ put o at (decimal (v / 10))
    → (r + 1 ≡ at + length (decimal v)) × (set p r (48 + v % 10) ≡ put o at (decimal v))
unfolding put
writes_more v at r o p h l e q = (omega (arith, decimal-longer v h l), rw (decimal-more v h l, put_append o at (decimal (v / 10)) ((48 + v % 10) ∷ []), e, q))

-- the length of a printed line by its parts
pub length-row-nil : (l : ℕ) → length (row l []) ≡ 2
unfolding row line_end spaced
length-row-nil l = refl

pub length-row-cons : (l v : ℕ) (vs : List ℕ) → length (row l (v ∷ vs)) ≡ 1 + length (decimal v) + length (row l vs)
unfolding row line_end spaced
length-row-cons l v vs = simp length-append (omega arith)

-- of a number below 1000 behind a letter
pub one_number : (l a : ℕ) → a < 1000 → length (row l (a ∷ [])) ≤ 6
one_number l a h = omega (arith, length-row-cons l a [], length-row-nil l, decimal-few 3 a (omega arith) h)

-- of five numbers of 32 bits behind a letter
pub five_numbers : (l a b c d e : ℕ) → a < 4294967296 → b < 4294967296 → c < 4294967296 → d < 4294967296 → e < 4294967296
    → length (row l (a ∷ b ∷ c ∷ d ∷ e ∷ [])) ≤ 57
five_numbers l a b c d e ha hb hc hd he =
    omega (
      arith,
      length-row-cons l a (b ∷ c ∷ d ∷ e ∷ []),
      length-row-cons l b (c ∷ d ∷ e ∷ []),
      length-row-cons l c (d ∷ e ∷ []),
      length-row-cons l d (e ∷ []),
      length-row-cons l e [],
      length-row-nil l,
      decimal-few 10 a (omega arith) (omega arith),
      decimal-few 10 b (omega arith) (omega arith),
      decimal-few 10 c (omega arith) (omega arith),
      decimal-few 10 d (omega arith) (omega arith),
      decimal-few 10 e (omega arith) (omega arith),
    )

-- a line with a letter and one without end alike
pub length-row : (l : ℕ) (vs : List ℕ) → length (row l vs) ≡ 1 + length (line_end vs)
unfolding row
length-row l vs = omega arith

pub length-numbers : (l v : ℕ) (vs : List ℕ) → length (number_row v vs) + 1 ≡ length (decimal v) + length (row l vs)
unfolding number_row
length-numbers l v vs = omega (arith, length-append (decimal v) (line_end vs), length-row l vs)

-- what is left of a line behind some of its numbers: nothing but the line feed, or a number and what is left behind it
end-last : (vs : List ℕ) (i : ℕ) → length vs ≤ i → i ≤ length vs → line_end (drop i vs) ≡ 10 ∷ []
unfolding line_end spaced
end-last vs i h l = rw (rest_end vs i h l)

end_goes : (vs : List ℕ) (i : ℕ) → i < length vs → line_end (drop i vs) ≡ 32 ∷ (decimal (get_or vs i 0) ++ line_end (drop (i + 1) vs))
unfolding line_end spaced
end_goes vs i h = rw (rest vs i h) (ap (λ (s : List ℕ). 32 ∷ s) (append_assoc (decimal (get_or vs i 0)) (spaced (drop (i + 1) vs)) (10 ∷ [])))

-- the loop that prints the end of a line: what stands in o up to place `end`, with i numbers printed, where the first stands from `start` on
pub record Printing (start : ℕ) (vs o₀ o : List ℕ) (end i : ℕ) : Type 0 where
  pub turns : i ≤ length vs
  pub same : length o ≡ length o₀
  pub room : end + length (line_end (drop i vs)) ≡ start + length (line_end vs)
  pub bytes : put o end (line_end (drop i vs)) ≡ put o₀ start (line_end vs)

pub printing_starts : (start : ℕ) (vs o : List ℕ) → Printing start vs o o start 0
printing_starts start vs o = record { turns = omega arith; same = refl; room = refl; bytes = refl }

module _ (start : ℕ) (vs o₀ o : List ℕ) (end i : ℕ) (k : Printing start vs o₀ o end i) where
  -- where there is room for the whole, there is for the next number, and for the line feed
  pub printing_fits : start + length (line_end vs) ≤ length o₀ → i < length vs → end + 1 + length (decimal (get_or vs i 0)) ≤ length o
  printing_fits f h =
      omega (arith, ap length (end_goes vs i h), length-append (decimal (get_or vs i 0)) (line_end (drop (i + 1) vs)), k.room, k.same)

  pub printing_last : start + length (line_end vs) ≤ length o₀ → length vs ≤ i → end + 1 ≤ length o
  printing_last f h = omega (arith, ap length (end-last vs i h k.turns), k.room, k.same)

  pub printing_goes : (p : List ℕ) (next : ℕ) → i < length vs → next ≡ end + 1 + length (decimal (get_or vs i 0))
      → p ≡ put (set o end 32) (end + 1) (decimal (get_or vs i 0)) → Printing start vs o₀ p next (i + 1)
  unfolding put
  printing_goes p next h e q =
      let m = end_goes vs i h in record {
        turns = omega arith;
        same = ap length q ∙ length-put (set o end 32) (end + 1) (decimal (get_or vs i 0)) ∙ length-set o end 32 ∙ k.same;
        room = omega (arith, ap length m, length-append (decimal (get_or vs i 0)) (line_end (drop (i + 1) vs)), k.room);
        bytes = rw (q, e) (sym (put_append (set o end 32) (end + 1) (decimal (get_or vs i 0)) (line_end (drop (i + 1) vs))) ∙ rw m at k.bytes);
      }

  pub printing_ends : length vs ≤ i → (end + 1 ≡ start + length (line_end vs)) × (set o end 10 ≡ put o₀ start (line_end vs))
  unfolding put
  printing_ends h = let m = end-last vs i h k.turns in (omega (arith, ap length m, k.room), rw m at k.bytes)

-- what is written is what is printed
pub shown : (p q : List ℕ) (at r : ℕ) (o o' : List ℕ) → p ≡ q → r ≡ at + length q → o' ≡ put o at q → Wrote p at o r o'
shown p q at r o o' e l b = (l ∙ ap (λ (x : List ℕ). at + length x) (sym e), b ∙ ap (put o at) (sym e))

-- the same from the output's front on
pub shown-first : (p q : List ℕ) (r : ℕ) (o o' : List ℕ) → p ≡ q → r ≡ length q → o' ≡ put o 0 q → WroteWhole p o r o'
shown-first p q r o o' e l b = (l ∙ ap length (sym e), b ∙ ap (put o 0) (sym e))

-- one text behind the other
pub shown-both : (p q : List ℕ) (at r s : ℕ) (o o' o'' : List ℕ) → r ≡ at + length p → o' ≡ put o at p → s ≡ r + length q
    → o'' ≡ put o' r q → Wrote (p ++ q) at o s o''
shown-both p q at r s o o' o'' l b m d = (omega (arith, length-append p q), rw (d, b, l) (sym (put_append o at p q)))

-- what a run that prints leaves: of an output that is too short, and of one that is not
module _ (size : ℕ) (p o : List ℕ) where
  pub run_short : length o < size → after_run (Err too_short) o ≡ print_into size p o
  unfolding print_into
  run_short h = rw (lt-ltb (length o) size h)

  pub run-written : size ≤ length o → (q : List ℕ) → p ≡ q → (r : ℕ) (o' : List ℕ) → r ≡ length q → o' ≡ put o 0 q
      → after_run (Ok r) o' ≡ print_into size p o
  unfolding print_into
  run-written h q e r o' er eo =
      rw (le-ltb (length o) size h) (ap₂ (λ (x : ℕ) (y : List ℕ). after_run (Ok x) y) (er ∙ ap length (sym e)) (eo ∙ ap (put o 0) (sym e)))

-- and what it wrote fits an output that is long enough
pub written-fits : (size : ℕ) (r : Result ℕ TooShort) (k : ℕ) (o : List ℕ) → r ≡ Ok k → Fits size r → size ≤ length o → k ≤ length o
written-fits size r k o e f h = let g : k ≤ size = subst (Fits size) e f in omega arith

-- for the functions that write a number, the end of a line, and a line
pub ruleset decimals = (decimal-some, decimal-one, decimal-longer, writes_more)

pub ruleset printing = (printing_starts, printing_fits, printing_last, printing_goes, printing_ends)

pub ruleset rows = (length-row, length-numbers, one_number)
