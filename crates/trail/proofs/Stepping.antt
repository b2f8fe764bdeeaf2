-- A step, case by case, by the end that the code computes. Assumes nothing.
use Prim.Native.Nat.{◌-◌, ◌<◌, ◌≤◌, min, ℕ}
use mathlib.Core.Bool.{false, true}
use mathlib.Core.List.{List}
use mathlib.Core.Path.{◌∙◌, ◌≡◌, ap, sym}
use native.Mathlib.Decide.{dec_lt}
use native.Mathlib.Nat.{add-zero}
use native.Mathlib.Omega.{arith}
use borrow.Author.Tests.{eq-eqb, ltb-false, ne_eqb}
use lib.Dec.{ltb}
use lib.ListN.{get_or, length, length-take, take}
use lib.Seq.{get_or-drop, get_or-take, take_all}
use Rattle.frame.specs.Header.{header}
use Rattle.trail.proofs.Ends.{bad-none, good, good-some}
use Rattle.std.proofs.Common.{None, Some}
use Rattle.trail.specs.Cursor.{passing, wrong_window}
use Rattle.trail.specs.Sound.{extra_bit, kind_bit}
use Rattle.trail.specs.Step.{step_at, step_call}
use Rattle.trail.specs.SoundLast.{sound_last}
use Rattle.trail.specs.Walk.{bad_end, last_frame, last_length, last_start}
use Rattle.trail.specs.declared.walk.Cursor.{Cursor}
use Rattle.trail.specs.StepAnswer as step_answer
use Rattle.wire.proofs.Tests.{neither}

-- a window that is not wrong has 1 to 64 frames
pub window-range : (w : ℕ) → wrong_window w ≡ false → (1 ≤ w) × (w ≤ 64)
unfolding wrong_window
window-range w e =
    let p = neither (ltb w 1) (ltb 64 w) e in
    (ltb-false w 1 p.0, ltb-false 64 w p.1)

-- the front of a list up to a place behind its end is the list up to its end
take_min : (k : ℕ) (s : List ℕ) → take (min k (length s)) s ≡ take k s
take_min k s = go (dec_lt (length s) k)
  where
    go : Dec (length s < k) → take (min k (length s)) s ≡ take k s
    go (yes h) = let e : min k (length s) ≡ length s = omega arith in rw e (take_all (length s) s (omega arith) ∙ sym (take_all k s (omega arith)))
    go (no h) = let e : min k (length s) ≡ k = omega arith in rw e

module _ (file : List ℕ) (c : Cursor) where
  -- w is looked at first
  pub step-wrong : wrong_window c.w ≡ true → step_call file c ≡ step_answer.Refused 19
  unfolding step_call
  step-wrong e = rw e

  module _ (end : ℕ) (w : wrong_window c.w ≡ false) (e : end ≡ min c.end (length file)) where
    -- what is left
    left : take end file ≡ take c.end file
    left = rw e (take_min c.end file)

    left-length : length (take end file) ≡ end
    left-length = length-take end file ∙ omega arith

    at_left : step_call file c ≡ step_at (take end file) c
    unfolding step_call
    at_left = rw (w, left)

    -- nothing is left
    pub step_end : end ≡ 0 → step_call file c ≡ step_answer.End c.most
    unfolding step_at
    step_end z = at_left ∙ rw (eq-eqb (length (take end file)) 0 (left-length ∙ z))

    -- a bad end
    pub step-bad : (end ≡ 0 → ⊥) → None ≡ sound_last (take end file) → step_call file c ≡ step_answer.Refused 19
    unfolding step_at
    step-bad h z = at_left ∙ rw (ne_eqb (length (take end file)) 0 (λ p. h (sym left-length ∙ p)), bad-none (take end file) z)

    module _ (size : ℕ) (p : Some size ≡ sound_last (take end file)) where
      ends-well : bad_end (take end file) ≡ false
      ends-well = (good-some (take end file) size p).0

      is_last : size ≡ last_length (take end file)
      is_last = (good-some (take end file) size p).1

      pub size-least : 4 ≤ size
      size-least = omega (arith, is_last)

      -- a sound frame ends there: it lies inside, and has a byte at least
      pub size-le : size ≤ end
      size-le = omega (arith, (good (take end file) ends-well).inside, left-length, is_last)

      start_is : last_start (take end file) ≡ end - size
      start_is = rw (left-length, ← is_last)

      kind_is : extra_bit (last_frame (take end file)) ≡ kind_bit (get_or file (end - size) 0)
      unfolding extra_bit header
      kind_is =
          let k : get_or (last_frame (take end file)) 0 0 ≡ get_or file (end - size) 0 =
          get_or-drop (last_start (take end file)) (take end file) 0 0 ∙ rw (start_is, add-zero) (get_or-take end file (end - size) 0 (omega (arith, size-least, size-le))) in
          ap kind_bit k

      pub step-shown : (next : Cursor) (x : ℕ) → x ≡ kind_bit (get_or file (end - size) 0) → next ≡ passing c (end - size) x
          → step_answer.Shown (end - size) size next ≡ step_call file c
      unfolding step_at
      step-shown next x b q =
          rw (q, b) (sym (at_left
          ∙ rw (
            ne_eqb (length (take end file)) 0 (λ z. absurd (omega (arith, size-least, size-le, left-length, z))),
            ends-well,
            kind_is,
            start_is,
            ← is_last,
          )))
