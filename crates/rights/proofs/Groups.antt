-- The topic of a body, the group of a topic by its range, and the byte of a table that a right is. Assumes nothing.
use Prim.Native.Nat.{ℕ, ◌+◌, ◌*◌, ◌<◌, ◌≤◌}
use mathlib.Core.Bool.{not, true}
use mathlib.Core.List.{List, [], ◌∷◌}
use mathlib.Core.Path.{◌≡◌, refl}
use native.Mathlib.Omega.{arith}
use borrow.Author.Tests.{le-leb, le-ltb, lt-leb, lt-ltb}
use lib.Dec.{eqb}
use lib.ListN.{get_or}
use Rattle.std.proofs.Common.{Option, Some, None}
use Rattle.std.specs.List.{slice_get}
use Rattle.std.specs.Option.{option_eq, unwrap_or}
use Rattle.rights.specs.Topics.{motion, exposure, filing, notes, group, group_of, topic}
use Rattle.rights.specs.Rights.{lacks_right, panel, place}

pub in_motion : (t : ℕ) → t ≤ 31 → group t ≡ motion
unfolding group
in_motion t h = rw (le-leb t 31 h)

pub in_exposure : (t : ℕ) → 31 < t → t ≤ 95 → group t ≡ exposure
unfolding group
in_exposure t h k = rw (lt-leb t 31 h, le-leb t 95 k)

pub in_filing : (t : ℕ) → 95 < t → t ≤ 127 → group t ≡ filing
unfolding group
in_filing t h k = rw (lt-leb t 31 (omega arith), lt-leb t 95 h, le-leb t 127 k)

pub in_notes : (t : ℕ) → 127 < t → group t ≡ notes
unfolding group
in_notes t h = rw (lt-leb t 31 (omega arith), lt-leb t 95 (omega arith), lt-leb t 127 h)

-- the topic of a body, as the code takes it
pub topic_first : (body : List ℕ) → unwrap_or (slice_get body 0) 128 ≡ topic body
topic_first [] = refl
topic_first (b ∷ l) = refl

-- a class above 3 lacks every right
pub no_class : (table : List ℕ) (class : ℕ) (body : List ℕ) → panel < class → lacks_right table class body ≡ true
unfolding lacks_right
no_class table class body h = rw (lt-ltb panel class h)

-- a byte that is not there is not 1
pub may : (o : Option ℕ) → option_eq eqb o (Some 1) ≡ eqb (unwrap_or o 0) 1
may None = refl
may (Some x) = refl

-- another lacks it where the table has no byte 1 for it
pub by_byte : (table : List ℕ) (class i : ℕ) (body : List ℕ) → class ≤ panel → i ≡ place (group_of body)
    → not (eqb (get_or table (4 * class + i) 0) 1) ≡ lacks_right table class body
unfolding lacks_right
by_byte table class i body h e = rw (le-ltb panel class h, e)
