-- What the largest count is: no run of at most w successive frames has more extra frames, and one run of w frames has that many. Assumes nothing.
use Prim.Native.Nat.{ℕ, suc, zero, ◌<◌, ◌≤◌}
use mathlib.Core.List.{List, [], ◌∷◌, ◌++◌}
use mathlib.Core.Path.{◌∙◌, ap, refl, sym}
use native.Mathlib.Decide.{dec_le}
use native.Mathlib.Omega.{arith}
use lib.ListN.{drop, length, length-take, take, take-append-drop}
use lib.Seq.{take_all}
use Rattle.trail.specs.LargestMeans.{LargestMeans, Run}
use Rattle.trail.specs.Windows.{largest, total}
use Rattle.trail.proofs.Windows.{largest-cons, largest-nil, largest-short}

-- a run at the front of at most w frames has no more extra frames than the first w frames
front-most : (w : ℕ) (run behind : List ℕ) → length run ≤ w → total run ≤ total (take w (run ++ behind))
unfolding total
front-most w [] behind h = omega arith
front-most zero (x ∷ run) behind h = absurd (omega arith)
front-most (suc w) (x ∷ run) behind h = omega (arith, front-most w run behind (omega arith))

-- and these have no more than the largest count
first-most : (w : ℕ) (kinds : List ℕ) → total (take w kinds) ≤ largest w kinds
unfolding total
first-most zero [] = omega arith
first-most (suc w) [] = omega arith
first-most w (x ∷ l) = omega (arith, largest-cons w x l)

-- so no run of at most w frames has more
most : (w : ℕ) (before run behind : List ℕ) → length run ≤ w → total run ≤ largest w (before ++ (run ++ behind))
most w [] run behind h = omega (arith, front-most w run behind h, first-most w (run ++ behind))
most w (x ∷ before) run behind h = omega (arith, most w before run behind h, largest-cons w x (before ++ (run ++ behind)))

-- the first window has the largest count where the frames behind the first have no larger one
met-first : (w x : ℕ) (l : List ℕ) → largest w l ≤ total (take w (x ∷ l)) → Run w (x ∷ l) (largest w (x ∷ l))
met-first w x l h =
    record {
      before = [];
      run = take w (x ∷ l);
      behind = drop w (x ∷ l);
      whole = sym (take-append-drop w (x ∷ l));
      size = length-take w (x ∷ l);
      extras = omega (arith, largest-cons w x l);
    }

-- else there are w frames behind the first
met-room : (w x : ℕ) (l : List ℕ) → total (take w (x ∷ l)) < largest w l → w ≤ length l
unfolding total
met-room w x l h = go (dec_le w (length l))
  where
    go : Dec (w ≤ length l) → w ≤ length l
    go (yes k) = k
    go (no k) = absurd (omega (arith, largest-short w l (omega arith), ap total (take_all w (x ∷ l) (omega arith))))

-- so the window that has their largest count has that of all
met-behind : (w x : ℕ) (l : List ℕ) → total (take w (x ∷ l)) < largest w l → Run w l (largest w l) → Run w (x ∷ l) (largest w (x ∷ l))
met-behind w x l h r =
    record {
      before = x ∷ r.before;
      run = r.run;
      behind = r.behind;
      whole = ap (λ (s : List ℕ). x ∷ s) r.whole;
      size = r.size ∙ omega (arith, met-room w x l h);
      extras = r.extras ∙ omega (arith, largest-cons w x l);
    }

-- so some window has the largest count
met : (w : ℕ) (kinds : List ℕ) → Run w kinds (largest w kinds)
unfolding total
met w [] = record { before = []; run = []; behind = []; whole = refl; size = omega arith; extras = sym (largest-nil w) }
met w (x ∷ l) = go (met w l) (dec_le (largest w l) (total (take w (x ∷ l))))
  where
    go : Run w l (largest w l) → Dec (largest w l ≤ total (take w (x ∷ l))) → Run w (x ∷ l) (largest w (x ∷ l))
    go r (yes h) = met-first w x l h
    go r (no h) = met-behind w x l (omega arith) r

-- the two together
pub largest_means : LargestMeans
largest_means = record { most = most; met = met }
