-- The windows of a trail: every run of w successive frames. Frames are given by their kinds, 1 for an extra frame and 0 for a user frame, in the file's order.
use Rattle.std.specs.Prelude.{ℕ, ◌+◌, max, cond, List, [], ◌∷◌, leb, length, take}

-- every run of w successive frames; a trail of w frames or fewer is one window
unfoldable pub windows : ℕ → List ℕ → List (List ℕ)
windows w [] = [] ∷ []
windows w (x ∷ l) = cond (leb (length (x ∷ l)) w) ((x ∷ l) ∷ []) (take w (x ∷ l) ∷ windows w l)

-- the sum of a list: of kinds, how many of the frames are extra frames
unfoldable pub total : List ℕ → ℕ
total [] = 0
total (x ∷ l) = x + total l

-- the largest sum of a list of lists: of windows, the largest count of extra frames
unfoldable pub largest_total : List (List ℕ) → ℕ
largest_total [] = 0
largest_total (v ∷ l) = max (total v) (largest_total l)

-- the largest count of extra frames in any window of w successive frames
unfoldable pub largest : ℕ → List ℕ → ℕ
largest w kinds = largest_total (windows w kinds)
