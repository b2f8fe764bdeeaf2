-- The pairwise test, key by key. Assumes nothing.
use Prim.Native.Nat.{◌+◌, ◌<◌, ◌≤◌, ℕ}
use mathlib.Core.Bool.{Bool, ◌||◌, false, true}
use mathlib.Core.List.{List, [], ◌∷◌}
use mathlib.Core.Path.{◌≡◌, ap, refl}
use lib.Dec.{eqb}
use Rattle.std.specs.List.{list_any}
use lib.ListN.{drop, drop_of_length-le, get_or, length}
use Rattle.holdback.specs.Steps.{among, some_equal}
use Rattle.wire.proofs.Bytes.{rest}

-- one of a list is equal to k
pub among-any : (k : ℕ) (l : List ℕ) → among k l ≡ list_any (λ j. eqb j k) l
unfolding among
among-any k [] = refl
among-any k (j ∷ l) = ap (λ (t : Bool). eqb j k || t) (among-any k l)

module _ (l : List ℕ) (j : ℕ) (h : j < length l) where
  pub equal_hit : among (get_or l j 0) (drop (j + 1) l) ≡ true → some_equal (drop j l) ≡ true
  unfolding some_equal
  equal_hit e = rw (rest l j h, e)

  pub equal_next : among (get_or l j 0) (drop (j + 1) l) ≡ false → some_equal (drop j l) ≡ some_equal (drop (j + 1) l)
  unfolding some_equal
  equal_next e = rw (rest l j h, e)

pub equal_end : (l : List ℕ) (j : ℕ) → length l ≤ j → some_equal (drop j l) ≡ false
unfolding some_equal
equal_end l j h = rw (drop_of_length-le l {i = j} h)
