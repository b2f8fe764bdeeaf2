-- One queue of several that lie end to end, written anew. Assumes nothing.
use Prim.Native.Nat.{ℕ, ◌+◌, ◌*◌, ◌-◌, ◌≤◌, ◌<◌}
use mathlib.Core.List.{List, ◌++◌}
use mathlib.Core.Bool.{not}
use mathlib.Core.Logic.{◌≢◌, ◌⊎◌, inl, inr}
use mathlib.Core.Path.{◌≡◌, sym, ap, ◌∙◌}
use native.Mathlib.Omega.{arith}
use lib.Dec.{T, ltb, ltb→lt, nltb→le}
use lib.ListN.{length, take, drop, length-append, length-drop, take-append-drop}
use lib.Seq.{length-take-le, take-append-le, drop-append-le, drop-append-add, drop_at, take_at}
use Rattle.wire.proofs.Tests.{decide}
use Rattle.holdback.specs.Slots.{queue_size}
use Rattle.world.specs.Stored.{queue_at}
use Rattle.world.specs.Start.{max_simulated}

-- the part of the queues from queue k to the next, of 12,832 bytes
abbrev pub width : ℕ → ℕ
width k = queue_size * k + queue_size - queue_size * k

pub wide : (k : ℕ) → width k ≡ queue_size
wide k = omega arith

-- the queue of node i, where its width is given as a number
pub queue-part : (i width : ℕ) (q : List ℕ) → width ≡ queue_size → take width (drop (queue_size * i) q) ≡ queue_at q i
unfolding queue_at
queue-part i width q e = ap (λ (x : ℕ). take x (drop (queue_size * i) q)) e

-- the queue in the middle, and the others
module _ (i x : ℕ) (before middle after : List ℕ) (lies : length before ≡ queue_size * i) (long : length middle ≡ queue_size) where
  middle_here : queue_at (before ++ (middle ++ after)) i ≡ middle
  unfolding queue_at
  middle_here = ap (take queue_size) (drop_at before (middle ++ after) (queue_size * i) lies) ∙ take_at middle after queue_size long

  middle_front : x < i → queue_at (before ++ (middle ++ after)) x ≡ queue_at before x
  unfolding queue_at
  middle_front h =
      ap (take queue_size) (drop-append-le (queue_size * x) before (middle ++ after) (omega arith))
      ∙ take-append-le queue_size (drop (queue_size * x) before) (middle ++ after) (omega (arith, length-drop (queue_size * x) before))

  middle_behind : i < x → queue_at (before ++ (middle ++ after)) x ≡ take queue_size (drop (queue_size * x - (queue_size * i + queue_size)) after)
  unfolding queue_at
  middle_behind h =
      let k : ℕ = queue_size * x - (queue_size * i + queue_size) in
      let e : queue_size * x ≡ length before + (length middle + k) = omega arith in
      ap (λ (z : ℕ). take queue_size (drop z (before ++ (middle ++ after)))) e
      ∙ ap (take queue_size) (drop-append-add before (middle ++ after) (length middle + k) ∙ drop-append-add middle after k)

-- the queue of node i written anew, with bytes p, and the others as they are
module _ (i width : ℕ) (q p : List ℕ) (hi : i < max_simulated) (size : length q ≡ queue_size * max_simulated) (wide : width ≡ queue_size)
    (long : length p ≡ length (take width (drop (queue_size * i) q))) where
  abbrev before : List ℕ
  before = take (queue_size * i) q

  abbrev old : List ℕ
  old = take width (drop (queue_size * i) q)

  abbrev after : List ℕ
  after = drop width (drop (queue_size * i) q)

  abbrev new : List ℕ
  new = before ++ (p ++ after)

  lies : length before ≡ queue_size * i
  lies = length-take-le (queue_size * i) q (omega arith)

  old-long : length old ≡ queue_size
  old-long = length-take-le width (drop (queue_size * i) q) (omega (arith, length-drop (queue_size * i) q)) ∙ wide

  new-long : length p ≡ queue_size
  new-long = long ∙ old-long

  whole : q ≡ before ++ (old ++ after)
  whole = sym (take-append-drop (queue_size * i) q) ∙ ap (λ (z : List ℕ). before ++ z) (sym (take-append-drop width (drop (queue_size * i) q)))

  pub queue-here : queue_at new i ≡ p
  queue-here = middle_here i i before p after lies new-long

  pub queue-other : (x : ℕ) → x ≢ i → queue_at new x ≡ queue_at q x
  queue-other x h = go (decide (ltb x i))
    where
      go : T (ltb x i) ⊎ T (not (ltb x i)) → queue_at new x ≡ queue_at q x
      go (inl t) =
          let l : x < i = ltb→lt x i t in
          middle_front i x before p after lies new-long l ∙ sym (ap (λ (z : List ℕ). queue_at z x) whole ∙ middle_front i x before old after lies old-long l)
      go (inr t) =
          let l : i ≤ x = nltb→le x i t in
          middle_behind i x before p after lies new-long (omega arith)
          ∙ sym (ap (λ (z : List ℕ). queue_at z x) whole ∙ middle_behind i x before old after lies old-long (omega arith))

  pub queues-length : length new ≡ length q
  queues-length =
      omega (
        arith,
        lies,
        new-long,
        length-append before (p ++ after),
        length-append p after,
        length-drop width (drop (queue_size * i) q),
        length-drop (queue_size * i) q,
      )

  -- the same bytes as before
  pub queue-back : p ≡ queue_at q i → new ≡ q
  queue-back e = ap (λ (y : List ℕ). before ++ (y ++ after)) (e ∙ sym (queue-part i width q wide)) ∙ sym whole
