-- The end of what is left: where it is bad, and what a good one tells. Assumes nothing.
use Prim.Native.Nat.{◌<◌, ◌≤◌, ℕ}
use mathlib.Core.Bool.{Bool, cond, false, true, ◌||◌}
use mathlib.Core.List.{List, ◌++◌}
use mathlib.Core.Path.{◌≡◌, refl, sym}
use borrow.Author.Tests.{le-ltb, lt-ltb, ltb-false}
use lib.Dec.{ltb}
use lib.ListN.{length, take, take-append-drop}
use Rattle.std.proofs.Common.{None, Some}
use Rattle.trail.specs.Sound.{unsound}
use Rattle.trail.specs.SoundLast.{sound_last}
use Rattle.trail.specs.Walk.{bad_end, last_frame, last_length, last_start}
use Rattle.wire.proofs.Tests.{either_first, either_second, neither}

-- too short for a trailer
pub bad-short : (s : List ℕ) → length s < 4 → bad_end s ≡ true
unfolding bad_end
bad-short s h = rw (lt-ltb (length s) 4 h)

-- the trailer points before the start
pub bad_points : (s : List ℕ) → length s < last_length s → bad_end s ≡ true
unfolding bad_end
bad_points s h = either_first (ltb (length s) 4 || ltb (length s) (last_length s)) (unsound (last_frame s))
    (either_second (ltb (length s) 4) (ltb (length s) (last_length s)) (lt-ltb (length s) (last_length s) h))

-- the frame there is not sound
pub bad-frame : (s : List ℕ) → unsound (last_frame s) ≡ true → bad_end s ≡ true
unfolding bad_end
bad-frame s e = either_second (ltb (length s) 4 || ltb (length s) (last_length s)) (unsound (last_frame s)) e

-- none of the three
pub good-end : (s : List ℕ) → 4 ≤ length s → last_length s ≤ length s → unsound (last_frame s) ≡ false → bad_end s ≡ false
unfolding bad_end
good-end s h k e = rw (le-ltb (length s) 4 h, le-ltb (length s) (last_length s) k, e)

-- a good end: the frame lies inside, and is sound
pub record Good (s : List ℕ) : Type 0 where
  pub inside : last_length s ≤ length s
  pub sound : unsound (last_frame s) ≡ false

pub good : (s : List ℕ) → bad_end s ≡ false → Good s
unfolding bad_end
good s e =
    let p = neither (ltb (length s) 4 || ltb (length s) (last_length s)) (unsound (last_frame s)) e in
    let q = neither (ltb (length s) 4) (ltb (length s) (last_length s)) p.0 in
    record { inside = ltb-false (length s) (last_length s) q.1; sound = p.1 }

-- there is no sound frame there exactly where the end is bad
pub none-bad : (s : List ℕ) → bad_end s ≡ true → None ≡ sound_last s
unfolding sound_last
none-bad s e = rw e

pub some_good : (s : List ℕ) → bad_end s ≡ false → Some (last_length s) ≡ sound_last s
unfolding sound_last
some_good s e = rw e

pub bad-none : (s : List ℕ) → None ≡ sound_last s → bad_end s ≡ true
unfolding sound_last
bad-none s = go (bad_end s)
  where
    go : (b : Bool) → None ≡ cond b None (Some (last_length s)) → b ≡ true
    go true e = refl
    go false e = cc

pub good-some : (s : List ℕ) (k : ℕ) → Some k ≡ sound_last s → (bad_end s ≡ false) × (k ≡ last_length s)
unfolding sound_last
good-some s k = go (bad_end s)
  where
    go : (b : Bool) → Some k ≡ cond b None (Some (last_length s)) → (b ≡ false) × (k ≡ last_length s)
    go true e = cc
    go false e = (refl, cc)

-- what is left is what lies in front of the last frame, and that frame
pub split-last : (s : List ℕ) → s ≡ take (last_start s) s ++ last_frame s
split-last s = sym (take-append-drop (last_start s) s)
