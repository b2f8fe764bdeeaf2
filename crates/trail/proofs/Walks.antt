-- The walk of what is left: that it has steps enough, one frame more, where it stops, and over any sound frames behind. Assumes nothing.
use Prim.Native.Nat.{◌+◌, ◌-◌, ◌≤◌, suc, zero, ℕ}
use mathlib.Core.Bool.{Bool, false, true}
use mathlib.Core.List.{List, [], ◌++◌, ◌∷◌, append_assoc, append-nil, map}
use mathlib.Core.Path.{◌∙◌, ◌≡◌, refl}
use native.Mathlib.Nat.{add_assoc}
use native.Mathlib.Omega.{arith}
use borrow.Author.Tests.{ne_eqb}
use lib.Dec.{eqb}
use lib.ListN.{length, length-append, length-take, take}
use lib.Seq.{drop_at, get_or-append-add, take_at}
use Rattle.trail.proofs.Ends.{good, good-end}
use Rattle.trail.proofs.Lone.{lone}
use Rattle.trail.specs.Sound.{extra_bit, unsound}
use Rattle.trail.specs.Trail.{places_back, trail_of}
use Rattle.trail.specs.Trails.{EachSound}
use Rattle.trail.specs.Walk.{Walk, bad_end, last_frame, last_length, last_start, stops, walk_back}
use Rattle.wire.proofs.Tests.{either_first, either_second, neither}
use Rattle.wire.specs.Bytes.{u16_at}
use Rattle.wire.specs.Trailer.{count_back}

-- the walk that stops at s, behind which the frames have these kinds
abbrev pub stopped_at : List ℕ → List ℕ → Walk
stopped_at s kinds = record { shown = []; kinds = kinds; left = s }

-- the walk that shows one frame and goes on
abbrev pub showing : ℕ → ℕ → Walk → Walk
showing start size v = record { shown = record { start = start; length = size } ∷ v.shown; kinds = v.kinds; left = v.left }

-- the walk of what is left, when the frames behind it have these kinds
abbrev pub walk_from : List ℕ → List ℕ → Walk
walk_from s kinds = walk_back (length s) s kinds

-- the walk stops where nothing is left, or at a bad end, and nowhere else
pub stops-nothing : (s : List ℕ) → eqb (length s) 0 ≡ true → stops s ≡ true
unfolding stops
stops-nothing s e = either_first (eqb (length s) 0) (bad_end s) e

pub stops-bad : (s : List ℕ) → bad_end s ≡ true → stops s ≡ true
unfolding stops
stops-bad s e = either_second (eqb (length s) 0) (bad_end s) e

pub stops-not : (s : List ℕ) → eqb (length s) 0 ≡ false → bad_end s ≡ false → stops s ≡ false
unfolding stops
stops-not s e g = rw (e, g)

-- where the walk does not stop, something is left and its end is good
pub goes_on_lem : (s : List ℕ) → stops s ≡ false → (eqb (length s) 0 ≡ false) × (bad_end s ≡ false)
unfolding stops
goes_on_lem s e = neither (eqb (length s) 0) (bad_end s) e

-- what lies in front of the last frame is shorter by it
pub shorter : (s : List ℕ) → bad_end s ≡ false → length (take (last_start s) s) + last_length s ≡ length s
shorter s e = omega (arith, length-take (last_start s) s, (good s e).inside)

-- a step for each byte is enough: more steps change nothing
pub enough : (j k : ℕ) (s kinds : List ℕ) → length s ≤ j → length s ≤ k → walk_back j s kinds ≡ walk_back k s kinds
unfolding walk_back stops
enough zero zero s kinds h i = refl
enough zero (suc k) [] kinds h i = refl
enough zero (suc k) (x ∷ s) kinds h i = absurd (omega arith)
enough (suc j) zero [] kinds h i = refl
enough (suc j) zero (x ∷ s) kinds h i = absurd (omega arith)
enough (suc j) (suc k) s kinds h i = go (stops s) refl (enough j k (take (last_start s) s) (extra_bit (last_frame s) ∷ kinds))
  where
    front : List ℕ
    front = take (last_start s) s

    seen : List ℕ
    seen = extra_bit (last_frame s) ∷ kinds

    go : (b : Bool) → stops s ≡ b → (length front ≤ j → length front ≤ k → walk_back j front seen ≡ walk_back k front seen)
        → walk_back (suc j) s kinds ≡ walk_back (suc k) s kinds
    go true e next = rw e
    go false e next =
        let l = shorter s (goes_on_lem s e).1 in
        rw (e, next (omega (arith, l)) (omega (arith, l)))

-- it stops
pub walk-stops : (k : ℕ) (s kinds : List ℕ) → stops s ≡ true → walk_back k s kinds ≡ stopped_at s kinds
unfolding walk_back
walk-stops zero s kinds e = refl
walk-stops (suc k) s kinds e = rw e

-- it shows the last frame and goes on in front of it
pub walk-shows : (s kinds : List ℕ) → stops s ≡ false
    → walk_from s kinds ≡ showing (last_start s) (last_length s) (walk_from (take (last_start s) s) (extra_bit (last_frame s) ∷ kinds))
unfolding walk_back
walk-shows [] kinds e = absurd (nothing (goes_on_lem [] e).0)
  where
    nothing : eqb 0 0 ≡ false → ⊥
    nothing p = let z : ◌≡◌ {A = ℕ} 0 1 = cc in absurd (omega arith)
walk-shows (x ∷ s) kinds e =
    let l = shorter (x ∷ s) (goes_on_lem (x ∷ s) e).1 in
    rw (
      e,
      enough (length s) (length (take (last_start (x ∷ s)) (x ∷ s))) (take (last_start (x ∷ s)) (x ∷ s)) (extra_bit (last_frame (x ∷ s)) ∷ kinds)
          (omega (arith, l)) (omega arith),
    )

-- what points back to its own start is found behind any bytes
module _ (s f : List ℕ) (long : 4 ≤ length f) (own : count_back f ≡ length f - 4) where
  back : count_back (s ++ f) ≡ length f - 4
  unfolding count_back u16_at
  back =
      let k : length (s ++ f) - 4 ≡ length s + (length f - 4) = omega (arith, length-append s f) in
      rw (k, add_assoc (length s) (length f - 4) 1, get_or-append-add s f (length f - 4) 0, get_or-append-add s f (length f - 4 + 1) 0) own

  pub last-length : last_length (s ++ f) ≡ length f
  last-length = omega (arith, back)

  pub last-start : last_start (s ++ f) ≡ length s
  last-start = omega (arith, length-append s f, last-length)

  pub is_last_frame : last_frame (s ++ f) ≡ f
  is_last_frame = rw last-start (drop_at s f (length s) refl)

  pub in_front : take (last_start (s ++ f)) (s ++ f) ≡ s
  in_front = rw last-start (take_at s f (length s) refl)

-- a sound frame is shown there
module _ (s f : List ℕ) (e : unsound f ≡ false) where
  long : 4 ≤ length f
  long = omega (arith, (lone f e).long)

  own : count_back f ≡ length f - 4
  own = (lone f e).back

  pub not_stopped : stops (s ++ f) ≡ false
  not_stopped =
      let n = length-append s f in
      let g : bad_end (s ++ f) ≡ false =
      good-end (s ++ f) (omega (arith, n, long)) (omega (arith, n, last-length s f long own)) (rw (is_last_frame s f long own) e) in
      stops-not (s ++ f) (ne_eqb (length (s ++ f)) 0 (λ z. absurd (omega (arith, n, long, z)))) g

  pub shows-last : (kinds : List ℕ) → walk_from (s ++ f) kinds ≡ showing (length s) (length f) (walk_from s (extra_bit f ∷ kinds))
  shows-last kinds =
      walk-shows (s ++ f) kinds not_stopped
      ∙ rw (is_last_frame s f long own, in_front s f long own, last-start s f long own, last-length s f long own)

-- and so are sound frames end to end: the walk shows them, the last first, and goes on in front of them
pub walk_over : (s kinds : List ℕ) (l : List (List ℕ)) → EachSound l → let v = walk_from s (map extra_bit l ++ kinds) in
    walk_from (s ++ trail_of l) kinds ≡ record { shown = places_back (length s) l v.shown; kinds = v.kinds; left = v.left }
unfolding trail_of places_back
walk_over s kinds [] h = rw (append-nil s)
walk_over s kinds (f ∷ l) h =
    rw (← append_assoc s f (trail_of l), walk_over (s ++ f) kinds l h.1, shows-last s f h.0 (map extra_bit l ++ kinds), length-append s f)
