-- What a request that is not refused has, and that a long input is refused. Assumes nothing.
use Prim.Native.Nat.{◌+◌, ◌<◌, ◌≤◌, ◌^◌, ℕ}
use Rattle.std.specs.Prelude.{None, Option, Some}
use mathlib.Core.Bool.{false, true}
use mathlib.Core.List.{List, [], ◌∷◌}
use mathlib.Core.Path.{◌≡◌, refl}
use native.Mathlib.Decide.{dec_lt}
use native.Mathlib.Omega.{arith}
use borrow.Author.Tests.{ltb-false}
use lib.Dec.{eqb, ltb}
use lib.ListN.{length}
use Rattle.wire.proofs.Tests.{is_false, neqb→ne, no_three, of_false, or-not}
use Rattle.text.specs.Pieces.{split}
use Rattle.text.specs.Fields.{value}
use Rattle.text.proofs.Fields.{value-long}
use Rattle.text.proofs.Pieces.{split-total, total}
use Rattle.request.proofs.Parts.{third_not}
use Rattle.request.specs.Request.{of_fields, of_lines, of_numbers, request}
use Rattle.request.specs.Refusal18.{out_of_range, refused18, wrong, wrong_draws, wrong_n, wrong_seed}
use Rattle.request.specs.declared.Load.{Load}

-- the ranges of a request's numbers
pub record InRange (load : Load) : Type 0 where
  pub two_nodes : 2 ≤ load.n
  pub four_nodes : load.n ≤ 4
  pub some_seed : 0 < load.seed
  pub bits32 : load.seed < 2 ^ 32
  pub one_draw : 1 ≤ load.draws
  pub few_draws : load.draws ≤ 400

-- the numbers of a request that is not refused are in range
pub in_range_lem : (r : Option Load) (load : Load) → r ≡ Some load → wrong r ≡ false → InRange load
unfolding wrong out_of_range wrong_n wrong_seed wrong_draws
in_range_lem r load e h =
    let n : ℕ = load.n in
    let seed : ℕ = load.seed in
    let draws : ℕ = load.draws in
    let t = no_three (wrong_n n) (wrong_seed seed) (wrong_draws draws) (of_false (out_of_range n seed draws) (rw e at h)) in
    let a = or-not (ltb n 2) (ltb 4 n) t.0 in
    let b = or-not (eqb seed 0) (ltb 4294967295 seed) t.1 in
    let d = or-not (ltb draws 1) (ltb 400 draws) t.2 in
    record {
      two_nodes = ltb-false n 2 (is_false (ltb n 2) a.0);
      four_nodes = ltb-false 4 n (is_false (ltb 4 n) a.1);
      some_seed = omega (arith, neqb→ne seed 0 b.0);
      bits32 = omega (arith, ltb-false 4294967295 seed (is_false (ltb 4294967295 seed) b.1));
      one_draw = ltb-false draws 1 (is_false (ltb draws 1) d.0);
      few_draws = ltb-false 400 draws (is_false (ltb 400 draws) d.1);
    }

-- a request of another form is refused
pub other-refused : (r : Option Load) → r ≡ None → wrong r ≡ true
unfolding wrong
other-refused r e = rw e

-- fields of which the second is no number
second-not : (n draws : Option ℕ) → of_numbers n None draws ≡ None
unfolding of_numbers
second-not (Some n) draws = refl
second-not None draws = refl

-- three fields with more than 30 bytes, pieces with more than 32 and their two spaces, a line with more than 33 and its line feed
numbers-long : (a b c : List ℕ) → 30 < length a + length b + length c → of_numbers (value 10 a) (value 10 b) (value 10 c) ≡ None
unfolding of_numbers
numbers-long a b c h = go (dec_lt 10 (length a)) (dec_lt 10 (length b))
  where
    go : Dec (10 < length a) → Dec (10 < length b) → of_numbers (value 10 a) (value 10 b) (value 10 c) ≡ None
    go (yes l) d = rw (value-long 10 a l)
    go (no l) (yes m) = rw (value-long 10 b m) (second-not (value 10 a) (value 10 c))
    go (no l) (no m) = rw (value-long 10 c (omega arith)) (third_not (value 10 a) (value 10 b))

fields-long : (ps : List (List ℕ)) → 33 < total ps → of_fields ps ≡ None
unfolding of_fields total
fields-long [] h = refl
fields-long (a ∷ []) h = refl
fields-long (a ∷ b ∷ []) h = refl
fields-long (a ∷ b ∷ c ∷ []) h = numbers-long a b c (omega arith)
fields-long (a ∷ b ∷ c ∷ p ∷ ps) h = refl

lines_long : (ls : List (List ℕ)) → 34 < total ls → of_lines ls ≡ None
unfolding of_lines total
lines_long [] h = refl
lines_long (line ∷ []) h = refl
lines_long (line ∷ [] ∷ []) h = fields-long (split 32 line) (omega (arith, split-total 32 line))
lines_long (line ∷ [] ∷ p ∷ ps) h = refl
lines_long (line ∷ (b ∷ s) ∷ ps) h = refl

-- so an input of more than 33 bytes has another form and is refused, and 34 bytes of it show this
pub long-other : (s : List ℕ) → 33 < length s → request s ≡ None
unfolding request
long-other s h = lines_long (split 10 s) (omega (arith, split-total 10 s))

pub long-refused : (s : List ℕ) → 33 < length s → refused18 s ≡ true
unfolding refused18
long-refused s h = other-refused (request s) (long-other s h)
