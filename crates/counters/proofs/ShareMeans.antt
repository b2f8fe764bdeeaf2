-- What the extras share means: the number that the definition gives is nearest, and there is one nearest number. Assumes nothing.
use Prim.Native.Nat.{ℕ, suc, zero, ◌+◌, ◌-◌, ◌*◌, ◌/◌, ◌%◌, ◌<◌, ◌≤◌}
use mathlib.Core.Bool.{Bool, cond, false, true}
use mathlib.Core.Path.{◌≡◌, ◌∙◌, ap, refl, subst}
use native.Mathlib.Nat.{le-mul_of_pos_right, mod-add-div, mod-lt}
use native.Mathlib.Omega.{arith}
use borrow.Author.Tests.{eqb-false, eqb-true, ltb-false, ltb-true, ne_eqb}
use lib.Dec.{eqb, ltb}
use Rattle.counters.specs.Counted.{counted_delivery, counted_nothing, counted_offer, counted_send, even_of, nearest, no_counters, share, up_to32, with_extras}
use Rattle.counters.specs.ShareMeans.{Rounded, ShareMeans, SharePrinted}

-- the choice of `nearest` by its cases: t is less than b, b, or more
by-half : (P : ℕ → Type 0) (t b x y z : ℕ) → (t < b → P x) → (t ≡ b → P y) → (b < t → P z) → P (cond (ltb t b) x (cond (eqb t b) y z))
by-half P t b x y z under at over = go (ltb t b) refl (eqb t b) refl
  where
    go : (d : Bool) → ltb t b ≡ d → (e : Bool) → eqb t b ≡ e → P (cond d x (cond e y z))
    go true d e f = under (ltb-true t b d)
    go false d true f = at (eqb-true t b f)
    go false d false f = over (omega (arith, ltb-false t b d, eqb-false t b f))

-- the lower neighbour is nearest up to the half, and at the half where it is even
pub down : (e u : ℕ) → 2 * (e * 100 % u) ≤ u → (2 * (e * 100 % u) ≡ u → e * 100 / u % 2 ≡ 0) → Rounded e u (e * 100 / u)
down e u low even =
    let parts = mod-add-div (e * 100) u in
    record { near = omega (arith, parts); even = λ h. even (omega (arith, parts)) }

-- the upper neighbour from the half on, and at the half where it is even
pub up : (e u : ℕ) → 0 < u → u ≤ 2 * (e * 100 % u) → (2 * (e * 100 % u) ≡ u → (e * 100 / u + 1) % 2 ≡ 0) → Rounded e u (e * 100 / u + 1)
up e u some high even =
    let parts = mod-add-div (e * 100) u in
    let inside = mod-lt (e * 100) some in
    record { near = omega (arith, parts, inside); even = λ h. even (omega (arith, parts, inside)) }

-- at the half itself the even neighbour is nearest
half : (e u : ℕ) → 0 < u → 2 * (e * 100 % u) ≡ u → Rounded e u (even_of (e * 100 / u))
half e u some h = go (e * 100 / u % 2) refl
  where
    go : (k : ℕ) → e * 100 / u % 2 ≡ k → Rounded e u (e * 100 / u + k)
    go zero parity = subst (Rounded e u) (omega arith) (down e u (omega arith) (λ z. parity))
    go (suc zero) parity = up e u some (omega arith) (λ z. omega arith)
    go (suc (suc k)) parity = absurd (omega arith)

-- the number that the definition computes is nearest
pub nearest_is : (e u : ℕ) → 0 < u → Rounded e u (nearest (e * 100) u)
nearest_is e u some =
    by-half (Rounded e u) (2 * (e * 100 % u)) u (e * 100 / u) (even_of (e * 100 / u)) (e * 100 / u + 1)
    (λ h. down e u (omega arith) (λ z. absurd (omega arith)))
    (half e u some)
    (λ h. up e u some (omega arith) (λ z. absurd (omega arith)))

-- of two different numbers not both are nearest: they would be neighbours, both at the half and both even
none_above : (e u r d : ℕ) → 0 < u → Rounded e u r → Rounded e u (suc (r + d)) → ⊥
none_above e u r d some a b =
    let none : d ≡ 0 = omega (arith, a.near, b.near, le-mul_of_pos_right d some) in
    omega (arith, a.even (omega (arith, none, a.near, b.near)), b.even (omega (arith, none, a.near, b.near)), none)

-- so there is one nearest number
pub only : (e u r s : ℕ) → 0 < u → Rounded e u r → Rounded e u s → r ≡ s
only e u r s some a b = go (ltb r s) refl (ltb s r) refl
  where
    go : (c : Bool) → ltb r s ≡ c → (d : Bool) → ltb s r ≡ d → r ≡ s
    go true c d f = absurd (none_above e u r (s - suc r) some a (subst (Rounded e u) (omega (arith, ltb-true r s c)) b))
    go false c true f = absurd (none_above e u s (r - suc s) some b (subst (Rounded e u) (omega (arith, ltb-true s r f)) a))
    go false c false f = omega (arith, ltb-false r s c, ltb-false s r f)

-- with user frames the share is the nearest number, as far as 32 bits go
pub share_is : (e u : ℕ) → 0 < u → share e u ≡ up_to32 (nearest (e * 100) u)
unfolding share
share_is e u some = rw (ne_eqb u 0 (λ h. omega (arith, h)))

-- so the share is whichever number is shown to be nearest
pub share-by : (e u r : ℕ) → 0 < u → Rounded e u r → share e u ≡ up_to32 r
share-by e u r some h = share_is e u some ∙ ap up_to32 (only e u (nearest (e * 100) u) r some (nearest_is e u some) h)

-- past the half, or at it from an odd number, the share is the upper neighbour, otherwise the lower one
pub goes-up : (e u : ℕ) → 0 < u → u < 2 * (e * 100 % u) + e * 100 / u % 2 → share e u ≡ up_to32 (e * 100 / u + 1)
goes-up e u some h = share-by e u (e * 100 / u + 1) some (up e u some (omega (arith, h)) (λ z. omega (arith, h)))

pub goes_down : (e u : ℕ) → 0 < u → 2 * (e * 100 % u) + e * 100 / u % 2 ≤ u → share e u ≡ up_to32 (e * 100 / u)
goes_down e u some h = share-by e u (e * 100 / u) some (down e u (omega (arith, h)) (λ z. omega (arith, h)))

-- a share below the largest number of 32 bits was not cut off
itself : (e u : ℕ) → 0 < u → share e u < 4294967295 → Rounded e u (share e u)
unfolding up_to32
itself e u some h = subst (Rounded e u) (omega (arith, share_is e u some)) (nearest_is e u some)

-- one extra frame alone is more than a half in a hundred there
no_extras_lem : (e u : ℕ) → 0 < u → u < 200 → share e u ≡ 0 → e ≡ 0
no_extras_lem e u some few z = omega (arith, (subst (Rounded e u) z (itself e u some (omega (arith, z)))).near)

-- without user frames, and the request's two examples
pub none : (e : ℕ) → share e 0 ≡ 0
unfolding share
none e = refl

one_in_eight_lem : share 1 8 ≡ 12
unfolding share up_to32
one_in_eight_lem = refl

three_in_eight_lem : share 3 8 ≡ 38
unfolding share up_to32
three_in_eight_lem = refl

pub share_means : ShareMeans
share_means =
    record {
      none = none;
      some = λ e u some. (nearest (e * 100) u, nearest_is e u some, share_is e u some);
      only = only;
      itself = itself;
      no_extras = no_extras_lem;
      one_in_eight = one_in_eight_lem;
      three_in_eight = three_in_eight_lem;
    }

-- a step that changes a count takes the share anew, another one leaves all three
pub share-printed : SharePrinted
unfolding counted_delivery counted_nothing counted_offer counted_send no_counters share with_extras
share-printed = record { start = refl; send = λ t x. refl; offer = λ t x e. cc; delivery = λ t x. refl; nothing = λ t x e. cc }

-- for the function that computes a share
pub ruleset roundings = (none, goes-up, goes_down)
