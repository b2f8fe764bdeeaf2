-- What the largest count is, said without listing windows: no run of at most w successive frames has more extra frames, and one run of w frames
-- (the whole trail where that is shorter) has that many.
use Rattle.std.specs.Prelude.{ℕ, ◌≤◌, min, List, ◌++◌, ◌≡◌, length}
use Rattle.trail.specs.Windows.{largest, total}

-- a run of w successive frames of a trail, or the whole of a shorter one, with as many extra frames as r
pub record Run (w : ℕ) (kinds : List ℕ) (r : ℕ) : Type 0 where
  pub before : List ℕ
  pub run : List ℕ
  pub behind : List ℕ
  pub whole : kinds ≡ before ++ (run ++ behind)
  pub size : length run ≡ min w (length kinds)
  pub extras : total run ≡ r

pub record LargestMeans : Type 0 where
  pub most : (w : ℕ) (before run behind : List ℕ) → length run ≤ w → total run ≤ largest w (before ++ (run ++ behind))
  pub met : (w : ℕ) (kinds : List ℕ) → Run w kinds (largest w kinds)
