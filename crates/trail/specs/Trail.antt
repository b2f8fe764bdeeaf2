-- A trail: frames end to end, and where each of them is.
use Rattle.std.specs.Prelude.{ℕ, ◌+◌, List, [], ◌∷◌, ◌++◌, length}

-- the trail of a list of frames, the first written first
unfoldable pub trail_of : List (List ℕ) → List ℕ
trail_of [] = []
trail_of (f ∷ l) = f ++ trail_of l

-- a frame as it is shown: its start in the file, and its length
pub record Place : Type 0 where
  pub start : ℕ
  pub length : ℕ

-- the places of frames that lie end to end from `at` on, the last first, in front of those that are given
unfoldable pub places_back : ℕ → List (List ℕ) → List Place → List Place
places_back at [] shown = shown
places_back at (f ∷ l) shown = places_back (at + length f) l (record { start = at; length = length f } ∷ shown)
