-- A trail with two neighbours exchanged in a frame is refused: from the end where the count still points to that frame, and from the start, by the
-- lengths that the headers give, where it does not. Assumes nothing.
use Prim.Native.Nat.{◌*◌, ◌+◌, ◌-◌, ◌<◌, ◌≤◌, ℕ}
use mathlib.Core.Bool.{Bool, cond, false, not, true}
use mathlib.Core.List.{List, [], ◌++◌, ◌∷◌, append_assoc, append-nil, map}
use mathlib.Core.Path.{◌∙◌, ◌≡◌, ap, refl, sym}
use native.Mathlib.Decide.{dec_lt}
use native.Mathlib.Omega.{arith}
use borrow.Author.Tests.{ne_eqb}
use lib.Dec.{eqb}
use lib.ListN.{get_or-append, drop, get_or, length, length-append, take}
use lib.Seq.{drop_at, take_at}
use Rattle.wire.proofs.Exchange.{count-stays, exchanged-other, length_exchanged}
use Rattle.wire.proofs.Tests.{either_second, not-both}
use Rattle.wire.specs.Bytes.{AllBytes}
use Rattle.wire.specs.Exchange.{Unequal, exchanged}
use Rattle.wire.specs.Trailer.{count_back}
use Rattle.frame.proofs.Exchange.{exchange_meets8}
use Rattle.frame.specs.Header.{header}
use Rattle.frame.specs.Refusals.{frame_refusal}
use Rattle.trail.proofs.Ends.{bad-frame}
use Rattle.trail.proofs.FrameAlone.{frame-alone}
use Rattle.trail.proofs.Lone.{lone}
use Rattle.trail.proofs.Trails.{trails}
use Rattle.trail.proofs.Walks.{is_last_frame, stops-bad, walk_over, walk-stops, walk_from}
use Rattle.trail.specs.Cursor.{wrong_window}
use Rattle.trail.specs.Exchange.{ExchangesMeet19}
use Rattle.trail.specs.Sound.{extra_bit, in_own_range, unsound}
use Rattle.trail.specs.Trail.{places_back, trail_of}
use Rattle.trail.specs.Trails.{EachSound}
use Rattle.trail.specs.Walk.{Walk, stops, walk, walk_call}
use Rattle.trail.specs.Write.{write_call}
use Rattle.trail.specs.WalkAnswer.{WalkAnswer}
use Rattle.trail.specs.WalkAnswer as walk_answer

-- a walk that leaves something is refused with every window
refused : (file : List ℕ) (w : ℕ) → (length (walk file).left ≡ 0 → ⊥) → walk_call file w ≡ walk_answer.Refused 19
unfolding walk_call
refused file w h = rw (ne_eqb (length (walk file).left) 0 h) (go (wrong_window w))
  where
    go : (b : Bool) → ◌≡◌ {A = WalkAnswer} (cond b (walk_answer.Refused 19) (walk_answer.Refused 19)) (walk_answer.Refused 19)
    go true = refl
    go false = refl

-- bytes whose length is the one that their header gives
record Sized (f : List ℕ) : Type 0 where
  long : 12 ≤ length f
  size : length f ≡ 12 + 6 * get_or f 3 0 + get_or f 4 0

sized : (f : List ℕ) → unsound f ≡ false → Sized f
sized f e = let l = lone f e in record { long = l.long; size = l.size }

-- two such runs at the front of the same bytes are the same
same-front : (x f s t : List ℕ) → Sized x → Sized f → x ++ s ≡ f ++ t → (x ≡ f) × (s ≡ t)
same-front x f s t a b e =
    let at : (i : ℕ) → i < 12 → get_or x i 0 ≡ get_or f i 0 =
    λ i h. sym (get_or-append x s 0 i (omega (arith, a.long))) ∙ ap (λ (l : List ℕ). get_or l i 0) e ∙ get_or-append f t 0 i (omega (arith, b.long)) in
    let n : length x ≡ length f = omega (arith, a.size, b.size, at 3 (omega arith), at 4 (omega arith)) in (
      sym (take_at x s (length f) n) ∙ ap (take (length f)) e ∙ take_at f t (length f) refl,
      sym (drop_at x s (length f) n) ∙ ap (drop (length f)) e ∙ drop_at f t (length f) refl,
    )

-- what follows sound frames in a list of sound frames is one
record Rest (r : List ℕ) : Type 0 where
  frames : List (List ℕ)
  sound : EachSound frames
  whole : r ≡ trail_of frames

rest-sound : (before : List (List ℕ)) (r : List ℕ) (l : List (List ℕ)) → EachSound before → EachSound l → trail_of before ++ r ≡ trail_of l → Rest r
unfolding trail_of
rest-sound [] r l h k e = record { frames = l; sound = k; whole = e }
rest-sound (b ∷ bs) r [] h k e = absurd (omega (arith, (sized b h.0).long, length-append b (trail_of bs), length-append (b ++ trail_of bs) r, ap length e))
rest-sound (b ∷ bs) r (x ∷ xs) h k e =
    let p = same-front x b (trail_of xs) (trail_of bs ++ r) (sized x k.0) (sized b h.0) (sym e ∙ append_assoc b (trail_of bs) r) in
    rest-sound bs r xs h.1 k.1 (sym p.1)

-- a list of sound frames does not begin with unsound bytes that are as long as their header says
not_first : (g t : List ℕ) (l : List (List ℕ)) → Sized g → unsound g ≡ true → EachSound l → g ++ t ≡ trail_of l → ⊥
unfolding trail_of
not_first g t [] z u k e = absurd (omega (arith, z.long, length-append g t, ap length e))
not_first g t (x ∷ xs) z u k e =
    let p = same-front x g (trail_of xs) t (sized x k.0) z (sym e) in
    not-both (unsound g) u (ap unsound (sym p.0) ∙ k.0)

nothing : (s : List ℕ) → length s ≡ 0 → s ≡ []
nothing [] z = refl
nothing (x ∷ s) z = absurd (omega arith)

trail_append : (a b : List (List ℕ)) → trail_of (a ++ b) ≡ trail_of a ++ trail_of b
unfolding trail_of
trail_append [] b = refl
trail_append (f ∷ a) b = rw (trail_append a b, append_assoc f (trail_of a) (trail_of b))

module _ (f : List ℕ) (k : ℕ) (b : AllBytes f) (e : unsound f ≡ false) (u : Unequal f k) where
  abbrev g : List ℕ
  g = exchanged f k

  bad : unsound g ≡ true
  unfolding unsound
  bad =
      let eight = exchange_meets8 (header f).n f (frame-alone.own f b e) k u (header g).n in
      either_second (not (in_own_range (header g).n)) (not (eqb (frame_refusal (header g).n g) 0)) (rw eight)

  long : 12 ≤ length g
  long = omega (arith, length_exchanged f k, (lone f e).long)

  -- in front of the count: the count still points to its start
  stopped : (before : List ℕ) → k + 2 + 4 ≤ length f → stops (before ++ g) ≡ true
  stopped before h =
      let own : count_back g ≡ length g - 4 = count-stays f k h ∙ (lone f e).back ∙ rw (length_exchanged f k) in
      stops-bad (before ++ g) (bad-frame (before ++ g) (rw (is_last_frame before g (omega (arith, long)) own) bad))

  shown : (before : List ℕ) (behind : List (List ℕ)) → EachSound behind → k + 2 + 4 ≤ length f
      → walk (before ++ (g ++ trail_of behind))
      ≡ record { shown = places_back (length before + length f) behind []; kinds = map extra_bit behind; left = before ++ g }
  unfolding walk
  shown before behind s h =
      ap (λ (l : List ℕ). walk_from l []) (sym (append_assoc before g (trail_of behind)))
      ∙ walk_over (before ++ g) [] behind s
      ∙ rw (
        walk-stops (length (before ++ g)) (before ++ g) (map extra_bit behind ++ []) (stopped before h),
        append-nil (map extra_bit behind),
        length-append before g,
        length_exchanged f k,
      )

  -- behind the entry count and the body length: the header still gives its length
  kept-size : 5 ≤ k → Sized g
  kept-size h =
      record {
        long = long;
        size =
            rw (length_exchanged f k, exchanged-other f k 3 (λ q. omega arith) (λ q. omega arith), exchanged-other f k 4 (λ q. omega arith) (λ q. omega arith))
            (lone f e).size;
      }

  module _ (before behind : List (List ℕ)) (s : EachSound before) (t : EachSound behind) where
    abbrev file : List ℕ
    file = trail_of (before ++ (g ∷ behind))

    laid : file ≡ trail_of before ++ (g ++ trail_of behind)
    unfolding trail_of
    laid = trail_append before (g ∷ behind)

    left-some : Dec (k < 5) → length (walk file).left ≡ 0 → ⊥
    left-some (yes h) z =
        let v = shown (trail_of before) behind t (omega (arith, (lone f e).long)) in
        let w : (walk file).left ≡ trail_of before ++ g = ap (λ (l : List ℕ). (walk l).left) laid ∙ ap (λ (x : Walk). x.left) v in
        omega (arith, z, ap length w, length-append (trail_of before) g, long)
    left-some (no h) z =
        let a = trails.any_bytes file in
        let whole : trail_of before ++ (g ++ trail_of behind) ≡ trail_of a.frames =
        sym laid ∙ a.whole ∙ ap (λ (l : List ℕ). l ++ trail_of a.frames) (nothing (walk file).left z) in
        let r = rest-sound before (g ++ trail_of behind) a.frames s a.sound whole in
        not_first g (trail_of behind) r.frames (kept-size (omega arith)) bad r.sound r.whole

pub exchanges_meet19 : ExchangesMeet19
unfolding write_call
exchanges_meet19 f k b e u =
    record {
      write = λ file used. rw (bad f k b e u);
      walked = λ before behind s t w. refused (trail_of (before ++ (exchanged f k ∷ behind))) w (left-some f k b e u before behind s t (dec_lt k 5));
      shown = shown f k b e u;
    }
