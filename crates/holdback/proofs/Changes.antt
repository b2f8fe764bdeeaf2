-- The queue changed in place: what a frame laid behind the others, a slot written over and the last slot cleared make of the frames. Assumes nothing.
use Prim.Native.Nat.{◌*◌, ◌+◌, ◌-◌, ◌<◌, ◌≤◌, suc, zero, ℕ}
use mathlib.Core.List.{List, [], ◌++◌, ◌∷◌, append_assoc}
use mathlib.Core.Path.{◌∙◌, ◌≡◌, ap, refl, sym}
use native.Mathlib.Nat.{zero-add}
use native.Mathlib.Omega.{arith}
use lib.ListN.{drop, length, length-append, length-drop, take}
use lib.Seq.{drop-append-add, drop-append-le, drop_at, drop-drop, drop-length, length-take-le, take-append-add, take_at}
use borrow.Rule.Slice.PartMut.{put_mid}
use Rattle.std.specs.List.{copy_within}
use Rattle.holdback.proofs.Slots.{EachFits, held-fit, length-held, length-padded, length-slots, length-zeros, zeros-drop}
use Rattle.holdback.specs.Slots.{held_frames, laid, padded, queue_size, slots, without, zeros}
use Rattle.wire.proofs.Bytes.{put-eq}
use Rattle.wire.specs.Bytes.{put}
use Rattle.wire.specs.Limits.{max_frame, max_held}

-- bytes written past the front of a list
put-past : (a r s : List ℕ) (n : ℕ) → n + length s ≤ length r → put (a ++ r) (length a + n) s ≡ a ++ put r n s
put-past a r s n h =
    let e : length a + n + length s ≡ length a + (n + length s) = omega arith in
    put-eq (a ++ r) (length a + n) s (omega (arith, length-append a r))
    ∙ rw (e, take-append-add a r n, drop-append-add a r (n + length s), append_assoc, put-eq r n s h)

-- written past the first slot
put-later : (a r s : List ℕ) (i : ℕ) → length a ≡ max_frame → max_frame * i + length s ≤ length r
    → put (a ++ r) (max_frame * suc i) s ≡ a ++ put r (max_frame * i) s
put-later a r s i e h =
    let p : max_frame * suc i ≡ length a + max_frame * i = omega arith in
    rw p (put-past a r s (max_frame * i) h)

-- written over the front of the first slot
put_first : (a r s : List ℕ) → length s ≤ length a → put (a ++ r) (max_frame * 0) s ≡ s ++ (drop (length s) a ++ r)
put_first a r s h =
    put-eq (a ++ r) 0 s (omega (arith, length-append a r)) ∙ rw (zero-add, drop-append-le (length s) a r h)

-- over the whole of it
put_whole : (a r s : List ℕ) → length s ≡ length a → put (a ++ r) (max_frame * 0) s ≡ s ++ r
put_whole a r s h =
    put_first a r s (omega arith) ∙ rw (h, drop-length)

room : (k i : ℕ) (l : List (List ℕ)) (s : List ℕ) → EachFits l → length s ≤ max_frame → i < k → max_frame * i + length s ≤ length (slots k l)
room k i l s f h p = omega (arith, length-slots k l f)

-- a frame laid behind the others
pub slots_append : (k : ℕ) (l : List (List ℕ)) (s : List ℕ) → length l < k → EachFits l → length s ≤ max_frame
    → put (slots k l) (max_frame * length l) s ≡ slots k (l ++ (s ∷ []))
unfolding slots padded
slots_append zero l s p f h = absurd (omega arith)
slots_append (suc k) [] s p f h =
    put_first (zeros max_frame) (slots k []) s (rw length-zeros h)
    ∙ rw (zeros-drop (length s) max_frame h) (sym (append_assoc s (zeros (max_frame - length s)) (slots k [])))
slots_append (suc k) (t ∷ l) s p f h =
    put-later (padded t) (slots k l) s (length l) (length-padded t f.0) (room k (length l) l s f.1 h (omega arith))
    ∙ ap (λ (r : List ℕ). padded t ++ r) (slots_append k l s (omega arith) f.1 h)

-- all filled slots as they are, and a slot cleared behind them
slots_lower : (k : ℕ) (l : List (List ℕ)) → length l ≤ k → EachFits l
    → take (max_frame * length l) (slots k l) ++ (zeros max_frame ++ drop (max_frame * length l) (slots k l)) ≡ slots (suc k) l
unfolding slots
slots_lower k [] h f = refl
slots_lower zero (t ∷ l) h f = absurd (omega arith)
slots_lower (suc k) (t ∷ l) h f =
    let e : max_frame * suc (length l) ≡ length (padded t) + max_frame * length l = omega (arith, length-padded t f.0) in
    rw (
      e,
      take-append-add (padded t) (slots k l) (max_frame * length l),
      drop-append-add (padded t) (slots k l) (max_frame * length l),
      append_assoc,
    ) (ap (λ (r : List ℕ). padded t ++ r) (slots_lower k l (omega arith) f.1))

-- the m slots behind slot i moved down over it, and the last that was filled cleared
slots-without : (k i : ℕ) (l : List (List ℕ)) (m : ℕ) → suc (i + m) ≡ length l → length l ≤ k → EachFits l
    → take (max_frame * i) (slots k l) ++ (take (max_frame * m) (drop (max_frame * suc i) (slots k l)) ++ (zeros max_frame ++ drop (max_frame * length l) (slots k l)))
    ≡ slots k (without i l)
unfolding slots without
slots-without k i [] m p h f = absurd (omega arith)
slots-without zero i (t ∷ l) m p h f = absurd (omega arith)
slots-without (suc k) zero (t ∷ l) m p h f =
    let e : max_frame * suc (length l) ≡ length (padded t) + max_frame * length l = omega (arith, length-padded t f.0) in
    let n : m ≡ length l = omega arith in
    rw (
      e,
      drop_at (padded t) (slots k l) max_frame (length-padded t f.0),
      drop-append-add (padded t) (slots k l) (max_frame * length l),
      n,
    ) (slots_lower k l (omega arith) f.1)
slots-without (suc k) (suc i) (t ∷ l) m p h f =
    let e : max_frame * suc (length l) ≡ length (padded t) + max_frame * length l = omega (arith, length-padded t f.0) in
    let a : max_frame * suc i ≡ length (padded t) + max_frame * i = omega (arith, length-padded t f.0) in
    let b : max_frame * suc (suc i) ≡ length (padded t) + max_frame * suc i = omega (arith, length-padded t f.0) in
    rw (
      e,
      b,
      a,
      take-append-add (padded t) (slots k l) (max_frame * i),
      drop-append-add (padded t) (slots k l) (length (padded t) + max_frame * i),
      drop-append-add (padded t) (slots k l) (max_frame * length l),
      append_assoc,
      ← a,
    ) (ap (λ (r : List ℕ). padded t ++ r) (slots-without k i l m (omega arith) (omega arith) f.1))

-- the same as the code does it: z are the bytes with which the last slot is filled
pub removed : (q : List ℕ) (l : List (List ℕ)) (held k : ℕ) → q ≡ laid l → length l ≡ held → k < held → held ≤ max_held → EachFits l → (z : List ℕ) → z ≡ zeros max_frame
    → put_mid (max_frame * held - max_frame) (max_frame * held - (max_frame * held - max_frame))
    (copy_within q (max_frame * k + max_frame) (max_frame * held) (max_frame * k)) z ≡ laid (without k l)
removed q l held k e p h most f z zeroed =
    let m : ℕ = held - suc k in
    let n : max_frame * held - (max_frame * k + max_frame) ≡ max_frame * m = omega arith in
    let b : max_frame * k + max_frame ≡ max_frame * suc k = omega arith in
    let long : length q ≡ max_frame * max_held = ap length e ∙ length-slots max_held l f in
    let front : List ℕ = take (max_frame * k) q ++ take (max_frame * m) (drop (max_frame * suc k) q) in
    let r : List ℕ = drop (max_frame * k + max_frame * m) q in
    let fits : length front ≡ max_frame * held - max_frame =
    omega (
      arith,
      length-append (take (max_frame * k) q) (take (max_frame * m) (drop (max_frame * suc k) q)),
      length-take-le (max_frame * k) q (omega arith),
      length-take-le (max_frame * m) (drop (max_frame * suc k) q) (omega (arith, length-drop (max_frame * suc k) q)),
    ) in
    let end : max_frame * k + max_frame * m + (max_frame * held - (max_frame * held - max_frame)) ≡ max_frame * length l = omega arith in
    rw (n, b, zeroed)
    (rw (
      take_at front r (max_frame * held - max_frame) fits,
      drop_at front r (max_frame * held - max_frame) fits,
      drop-drop (max_frame * held - (max_frame * held - max_frame)) (max_frame * k + max_frame * m) q,
      end,
      append_assoc,
      e,
    ) (slots-without max_held k l m (omega arith) (omega arith) f))

-- the last slot that was filled, as the code has it
pub length_last : (q : List ℕ) (held : ℕ) → length q ≡ queue_size → 0 < held → held ≤ max_held
    → length (take (max_frame * held - (max_frame * held - max_frame)) (drop (max_frame * held - max_frame) q)) ≡ max_frame
length_last q held e l h =
    let n : max_frame * held - (max_frame * held - max_frame) ≡ max_frame = omega arith in
    rw n (length-take-le max_frame (drop (max_frame * held - max_frame) q) (omega (arith, length-drop (max_frame * held - max_frame) q)))

-- a frame laid behind those that a queue holds
pub held-behind : (k : ℕ) (q s : List ℕ) → k < max_held → length s ≤ max_frame → q ≡ laid (held_frames k q)
    → put q (max_frame * k) s ≡ laid (held_frames k q ++ (s ∷ []))
held-behind k q s h f e =
    ap (λ (o : List ℕ). put o (max_frame * k) s) e
    ∙ ap (λ (i : ℕ). put (laid (held_frames k q)) (max_frame * i) s) (sym (length-held k q))
    ∙ slots_append max_held (held_frames k q) s (rw length-held h) (held-fit k q) f
