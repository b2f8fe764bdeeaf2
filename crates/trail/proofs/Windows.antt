-- Laws of the largest count of extra frames: of no frames, of a trail in one window, and of one frame more in front. Assumes nothing.
use Prim.Native.Nat.{ℕ, ◌+◌, ◌≤◌, max}
use mathlib.Core.Bool.{not}
use mathlib.Core.List.{List, [], ◌∷◌}
use mathlib.Core.Logic.{◌⊎◌, inl, inr}
use mathlib.Core.Path.{◌∙◌, ◌≡◌, ap, refl}
use native.Mathlib.Nat.{max-zero}
use native.Mathlib.Omega.{arith}
use lib.Dec.{T, leb, leb→le, le→leb}
use lib.ListN.{length, take}
use lib.Seq.{take_all}
use Rattle.wire.proofs.Tests.{cond_no, cond_yes, decide}
use Rattle.trail.specs.Windows.{largest, largest_total, total, windows}

-- no frames have no extra frame
pub largest-nil : (w : ℕ) → largest w [] ≡ 0
unfolding largest largest_total windows total
largest-nil w = refl

-- of a trail of w frames or fewer, which is one window, it is the count of all
pub largest-short : (w : ℕ) (l : List ℕ) → length l ≤ w → largest w l ≡ total l
unfolding largest largest_total windows total
largest-short w [] h = refl
largest-short w (x ∷ l) h =
    ap largest_total (cond_yes (leb (length (x ∷ l)) w) ((x ∷ l) ∷ []) (take w (x ∷ l) ∷ windows w l) (le→leb (length (x ∷ l)) w h))
    ∙ max-zero (x + total l)

-- of a longer one it is that of the first window, or of the frames behind the first where that is larger
largest-long : (w x : ℕ) (l : List ℕ) → T (not (leb (length (x ∷ l)) w)) → largest w (x ∷ l) ≡ max (total (take w (x ∷ l))) (largest w l)
unfolding largest largest_total windows
largest-long w x l t = ap largest_total (cond_no (leb (length (x ∷ l)) w) ((x ∷ l) ∷ []) (take w (x ∷ l) ∷ windows w l) t)

-- one frame more in front: the count of the frames behind it, or that of the first window where that is larger
pub largest-cons : (w x : ℕ) (l : List ℕ) → largest w (x ∷ l) ≡ max (largest w l) (total (take w (x ∷ l)))
unfolding total
largest-cons w x l = go (decide (leb (length (x ∷ l)) w))
  where
    go : T (leb (length (x ∷ l)) w) ⊎ T (not (leb (length (x ∷ l)) w)) → largest w (x ∷ l) ≡ max (largest w l) (total (take w (x ∷ l)))
    go (inl t) =
        let h = leb→le (length (x ∷ l)) w t in
        rw (take_all w (x ∷ l) h) (omega (arith, largest-short w (x ∷ l) h, largest-short w l (omega arith)))
    go (inr t) = omega (arith, largest-long w x l t)
