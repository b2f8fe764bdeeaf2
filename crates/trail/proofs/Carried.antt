-- What a cursor carries along: the kinds of the last 64 frames shown, the count of extra frames in the window, and the largest count. Assumes nothing.
use Prim.Native.Nat.{ℕ, suc, zero, ◌+◌, ◌-◌, ◌*◌, ◌/◌, ◌%◌, ◌^◌, ◌≤◌}
use mathlib.Core.List.{List, [], ◌∷◌}
use mathlib.Core.Path.{◌≡◌, ◌∙◌, ap, refl, sym}
use native.Mathlib.Nat.{div-div-eq-div-mul, pow-succ', zero-div}
use native.Mathlib.Omega.{arith}
use lib.ListN.{get_or, take}
use lib.Pow.{field, mod-mod-pow}
use lib.Seq.{take-nil}
use Rattle.trail.specs.Cursor.{begun, in_window, leaving, passing}
use Rattle.trail.specs.Windows.{largest, total}
use Rattle.trail.specs.declared.walk.Cursor.{Cursor}
use Rattle.trail.proofs.Windows.{largest-cons, largest-nil}

-- each kind is 0 or 1
abbrev pub Bits : List ℕ → Type 0
Bits [] = Unit {0}
Bits (x ∷ l) = (x ≤ 1) × Bits l

-- kinds as one number, the first as its lowest bit
unfoldable pub packed : List ℕ → ℕ
packed [] = 0
packed (x ∷ l) = x + 2 * packed l

-- what a cursor says of the kinds of the frames shown, the frame shown last in front
pub record Carried (w : ℕ) (kinds : List ℕ) (c : Cursor) : Type 0 where
  pub window : c.w ≡ w
  pub bits : Bits kinds
  pub number : c.kinds ≡ packed kinds % 2 ^ 64
  pub extras : c.extras ≡ total (take w kinds)
  pub most : c.most ≡ largest w kinds

-- bit k of the number is the kind in place k
bit : (l : List ℕ) (k : ℕ) → Bits l → packed l / 2 ^ k % 2 ≡ get_or l k 0
unfolding packed
bit [] k b = rw (zero-div (2 ^ k))
bit (x ∷ l) zero b = omega (arith, b.0)
bit (x ∷ l) (suc k) b =
    let half : (x + 2 * packed l) / 2 ≡ packed l = omega (arith, b.0) in
    rw (pow-succ' 2 k, ← div-div-eq-div-mul (x + 2 * packed l) 2 (2 ^ k), half) (bit l k b.1)

-- and so it is once the number is cut to 64 bits
bit_cut : (n j k : ℕ) → j + 1 + k ≡ 64 → n % 2 ^ 64 / 2 ^ k % 2 ≡ n / 2 ^ k % 2
bit_cut n j k e = ap (λ (m : ℕ). n % 2 ^ m / 2 ^ k % 2) (sym e) ∙ ap (λ (m : ℕ). m % 2) (field n (j + 1) k) ∙ mod-mod-pow (n / 2 ^ k) j 1

-- so the kind that leaves the window is the one shown w frames ago, 0 where there is none
leaving_is : (w : ℕ) (l : List ℕ) → 1 ≤ w → w ≤ 64 → Bits l → leaving w (packed l % 2 ^ 64) ≡ get_or l (w - 1) 0
unfolding leaving
leaving_is w l some few b = bit_cut (packed l) (64 - w) (w - 1) (omega arith) ∙ bit l (w - 1) b

-- the first k + 1 frames have as many extra frames as the first k and the one in place k
total-more : (l : List ℕ) (k : ℕ) → total (take (suc k) l) ≡ total (take k l) + get_or l k 0
unfolding total
total-more [] zero = refl
total-more [] (suc k) = refl
total-more (x ∷ l) zero = omega arith
total-more (x ∷ l) (suc k) = omega (arith, total-more l k)

-- one frame enters the window and one leaves it
total_moved : (w x : ℕ) (l : List ℕ) → 1 ≤ w → total (take w (x ∷ l)) + get_or l (w - 1) 0 ≡ total (take w l) + x
unfolding total
total_moved zero x l some = absurd (omega arith)
total_moved (suc k) x l some =
    let e : suc k - 1 ≡ k = omega arith in
    rw e (omega (arith, total-more l k))

-- w frames have at most w extra frames
total-most : (w : ℕ) (l : List ℕ) → Bits l → total (take w l) ≤ w
unfolding total
total-most zero l b = omega arith
total-most (suc w) [] b = omega arith
total-most (suc w) (x ∷ l) b = omega (arith, b.0, total-most w l b.1)

-- so the count carried along becomes that of the w frames shown last
extras_moved : (w x : ℕ) (l : List ℕ) → 1 ≤ w → w ≤ 64 → Bits l → in_window w (total (take w l)) x (leaving w (packed l % 2 ^ 64)) ≡ total (take w (x ∷ l))
unfolding in_window
extras_moved w x l some few b = rw (leaving_is w l some few b) (omega (arith, total_moved w x l some, total-most w l b))

-- a walk begins with no frame shown
pub carried-begun : (end w : ℕ) → Carried w [] (begun end w)
unfolding begun packed total
carried-begun end w =
    record { window = refl; bits = tt; number = refl; extras = rw (take-nil {A = ℕ} w); most = sym (largest-nil w) }

-- and one frame more is shown
pub carried-passing : (w start x : ℕ) (kinds : List ℕ) (c : Cursor) → 1 ≤ w → w ≤ 64 → x ≤ 1 → Carried w kinds c → Carried w (x ∷ kinds) (passing c start x)
unfolding passing packed
carried-passing w start x kinds c some few small h =
    let moved : in_window c.w c.extras x (leaving c.w c.kinds) ≡ total (take w (x ∷ kinds)) =
    rw (h.window, h.number, h.extras) (extras_moved w x kinds some few h.bits) in
    record {
      window = h.window;
      bits = (small, h.bits);
      number = rw h.number (omega arith);
      extras = moved;
      most = rw (moved, h.most) (sym (largest-cons w x kinds));
    }
