-- The trail's theorems: of frames written one on another, and of any bytes. Assumes nothing.
use Prim.Native.Nat.{◌+◌, ◌≤◌, suc, zero, ℕ}
use mathlib.Core.Bool.{Bool, false, true}
use mathlib.Core.List.{List, [], ◌++◌, ◌∷◌, append_assoc, append-nil, map}
use mathlib.Core.Path.{◌∙◌, ◌≡◌, ap, refl, sym}
use native.Mathlib.Nat.{add-zero, zero-add}
use native.Mathlib.Omega.{arith}
use borrow.Author.Tests.{le-ltb}
use lib.ListN.{length, length-append, take}
use Rattle.trail.proofs.Ends.{good, split-last}
use Rattle.trail.proofs.StepsWalk.{steps-walk}
use Rattle.trail.proofs.Walks.{goes_on_lem, shorter, walk_over, walk-stops, walk_from}
use Rattle.trail.specs.Sound.{extra_bit, unsound}
use Rattle.trail.specs.Trail.{places_back, trail_of}
use Rattle.trail.specs.Trails.{AnyBytes, EachSound, Trails, WrittenTrail, write_all}
use Rattle.trail.specs.Walk.{Walk, last_frame, last_start, stops, walk, walk_call}
use Rattle.trail.specs.Write.{after_write, no_room_for, write_call}
use Rattle.trail.specs.WriteAnswer as write_answer
use Rattle.wire.proofs.Bytes.{length-put, put_append, put_back, put-nil}
use Rattle.wire.specs.Bytes.{put}

-- one sound frame is written where there is room
write-one : (file : List ℕ) (used : ℕ) (f : List ℕ) → unsound f ≡ false → used + length f ≤ length file
    → write_call file used f ≡ after_write (write_answer.Written (used + length f)) (put file used f)
unfolding write_call no_room_for
write-one file used f e h = rw (e, le-ltb (length file) (used + length f) h)

-- and so are the others behind it
write-all : (file : List ℕ) (used : ℕ) (l : List (List ℕ)) → EachSound l → used + length (trail_of l) ≤ length file
    → write_all l (after_write (write_answer.Written used) file) ≡ after_write (write_answer.Written (used + length (trail_of l))) (put file used (trail_of l))
unfolding trail_of
write-all file used [] h r = rw (add-zero used, put-nil file used)
write-all file used (f ∷ l) h r =
    let n = length-append f (trail_of l) in
    let e : used + length (f ++ trail_of l) ≡ used + length f + length (trail_of l) = omega (arith, n) in
    rw (
      write-one file used f h.0 (omega (arith, n)),
      e,
      put_append file used f (trail_of l),
    ) (write-all (put file used f) (used + length f) l h.1 (rw (length-put file used f) (omega (arith, n))))

empty : stops [] ≡ true
unfolding stops
empty = refl

-- the walk of frames end to end shows them and nothing is left
shows-all : (l : List (List ℕ)) → EachSound l → walk (trail_of l) ≡ record { shown = places_back 0 l []; kinds = map extra_bit l; left = [] }
unfolding walk
shows-all l h =
    walk_over [] [] l h ∙ rw (walk-stops 0 [] (map extra_bit l ++ []) empty, append-nil (map extra_bit l))

written : (file : List ℕ) (l : List (List ℕ)) → EachSound l → length (trail_of l) ≤ length file → WrittenTrail file l
unfolding walk_call
written file l h r =
    record {
      written = rw (← zero-add (length (trail_of l))) (write-all file 0 l h (omega arith));
      in_use = put_back file 0 (trail_of l) (omega arith);
      shows = shows-all l h;
      answers = λ w e. rw (e, shows-all l h);
      steps = λ w k e i. steps-walk.all (trail_of l) w k i ∙ rw (e, shows-all l h);
    }

-- what a walk leaves and the sound frames behind that
record Split (file : List ℕ) : Type 0 where
  left : List ℕ
  frames : List (List ℕ)
  sound : EachSound frames
  whole : file ≡ left ++ trail_of frames
  stopped : stops left ≡ true

-- frames are taken off the end until the walk stops; k is at least what is left
split : (k : ℕ) (file s : List ℕ) (l : List (List ℕ)) → length s ≤ k → EachSound l → file ≡ s ++ trail_of l → Split file
unfolding trail_of
split zero file s l h sound whole = go (stops s) refl
  where
    go : (b : Bool) → stops s ≡ b → Split file
    go true e = record { left = s; frames = l; sound = sound; whole = whole; stopped = e }
    go false e = absurd (omega (arith, shorter s (goes_on_lem s e).1))
split (suc k) file s l h sound whole = go (stops s) refl (split k file (take (last_start s) s) (last_frame s ∷ l))
  where
    go : (b : Bool) → stops s ≡ b
        → (length (take (last_start s) s) ≤ k → EachSound (last_frame s ∷ l) → file ≡ take (last_start s) s ++ trail_of (last_frame s ∷ l) → Split file)
        → Split file
    go true e later = record { left = s; frames = l; sound = sound; whole = whole; stopped = e }
    go false e later =
        let g = (goes_on_lem s e).1 in
        later (omega (arith, shorter s g)) ((good s g).sound, sound)
        (whole ∙ ap (λ (t : List ℕ). t ++ trail_of l) (split-last s) ∙ append_assoc (take (last_start s) s) (last_frame s) (trail_of l))

any_bytes_lem : (file : List ℕ) → AnyBytes file
unfolding walk trail_of
any_bytes_lem file = by (split (length file) file file [] (omega arith) tt (sym (append-nil file)))
  where
    by : Split file → AnyBytes file
    by p =
        let v = walk_over p.left [] p.frames p.sound in
        let t = walk-stops (length p.left) p.left (map extra_bit p.frames ++ []) p.stopped in
        let w : walk file ≡ record { shown = places_back (length p.left) p.frames []; kinds = map extra_bit p.frames; left = p.left } =
        ap (λ (s : List ℕ). walk_from s []) p.whole ∙ v ∙ rw (t, append-nil (map extra_bit p.frames)) in
        record {
          frames = p.frames;
          sound = p.sound;
          whole = rw w p.whole;
          shown = rw w;
          kinds = ap (λ (x : Walk). x.kinds) w;
          stopped = rw w p.stopped;
        }

pub trails : Trails
trails = record { written = written; any_bytes = any_bytes_lem }
