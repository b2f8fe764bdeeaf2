-- Laws of the slots: frames laid out are read back, and what a frame laid behind them, moved down or cleared makes of the frames. Assumes nothing.
use Prim.Native.Nat.{◌*◌, ◌+◌, ◌-◌, ◌<◌, ◌≤◌, suc, zero, ℕ}
use mathlib.Core.List.{List, [], ◌++◌, ◌∷◌}
use mathlib.Core.Path.{◌∙◌, ◌≡◌, ap, ap₂, refl, sym}
use native.Mathlib.Omega.{arith}
use lib.ListN.{get_or-append, drop, length, length-append, length-replicate, length-take, replicate-append-replicate, take, take-append-drop}
use lib.Seq.{drop_at, take-append_seam, take_at}
use Rattle.frame.specs.Header.{header, own_length}
use Rattle.frame.specs.declared.header.Header.{Header}
use Rattle.holdback.specs.Slots.{frame_in, held_frames, laid, padded, queue_size, slots, zeros}
use Rattle.wire.specs.Limits.{max_frame}

-- k zeros
pub length-zeros : (k : ℕ) → length (zeros k) ≡ k
unfolding zeros
length-zeros k = length-replicate {A = ℕ} k 0

pub zeros-none : zeros 0 ≡ []
unfolding zeros
zeros-none = refl

pub zeros_add : (j k : ℕ) → zeros j ++ zeros k ≡ zeros (j + k)
unfolding zeros
zeros_add j k = replicate-append-replicate j k 0

-- zeros behind j of them
pub zeros-drop : (j k : ℕ) → j ≤ k → drop j (zeros k) ≡ zeros (k - j)
zeros-drop j k h =
    let e : k ≡ j + (k - j) = omega arith in
    let s : zeros k ≡ zeros j ++ zeros (k - j) = ap zeros e ∙ sym (zeros_add j (k - j)) in
    ap (drop j) s ∙ drop_at (zeros j) (zeros (k - j)) j (length-zeros j)

-- a frame that fits a slot, and one whose own length is its length
abbrev pub EachFits : List (List ℕ) → Type 0
EachFits [] = Unit {0}
EachFits (s ∷ l) = (length s ≤ max_frame) × EachFits l

pub record Framed (s : List ℕ) : Type 0 where
  pub own : own_length (header s) ≡ length s
  pub fits : length s ≤ max_frame

abbrev pub EachFramed : List (List ℕ) → Type 0
EachFramed [] = Unit {0}
EachFramed (s ∷ l) = Framed s × EachFramed l

pub framed_fits : (l : List (List ℕ)) → EachFramed l → EachFits l
framed_fits [] f = tt
framed_fits (s ∷ l) f = (f.0.fits, framed_fits l f.1)

pub length-padded : (s : List ℕ) → length s ≤ max_frame → length (padded s) ≡ max_frame
unfolding padded
length-padded s h = omega (arith, length-append s (zeros (max_frame - length s)), length-zeros (max_frame - length s))

-- sixteen slots have 12,832 bytes
pub length-slots : (k : ℕ) (l : List (List ℕ)) → EachFits l → length (slots k l) ≡ max_frame * k
unfolding slots
length-slots zero l f = refl
length-slots (suc k) [] f = omega (arith, length-append (zeros max_frame) (slots k []), length-zeros max_frame, length-slots k [] tt)
length-slots (suc k) (s ∷ l) f = omega (arith, length-append (padded s) (slots k l), length-padded s f.0, length-slots k l f.1)

-- with no frame they are zeros
pub zeros-laid : zeros queue_size ≡ laid []
unfolding zeros slots
zeros-laid = refl

-- a header is read from the first eight bytes
pub header_append : (s r : List ℕ) → 8 ≤ length s → header (s ++ r) ≡ header s
unfolding header
header_append s r h =
    rw (
      get_or-append s r 0 0 (omega arith),
      get_or-append s r 0 1 (omega arith),
      get_or-append s r 0 2 (omega arith),
      get_or-append s r 0 3 (omega arith),
      get_or-append s r 0 4 (omega arith),
      get_or-append s r 0 5 (omega arith),
      get_or-append s r 0 6 (omega arith),
      get_or-append s r 0 7 (omega arith),
    )

pub header-take : (k : ℕ) (s : List ℕ) → 8 ≤ k → 8 ≤ length s → header (take k s) ≡ header s
header-take k s h l =
    let long : 8 ≤ length (take k s) = rw length-take (omega arith) in
    sym (header_append (take k s) (drop k s) long) ∙ ap header (take-append-drop k s)

pub own-least : (h : Header) → 12 ≤ own_length h
unfolding own_length
own-least h = omega arith

-- a frame in its slot is read back
frame-padded : (s : List ℕ) → Framed s → frame_in (padded s) ≡ s
unfolding frame_in padded
frame-padded s f =
    let long : 8 ≤ length s = omega (arith, own-least (header s), f.own) in
    rw (header_append s (zeros (max_frame - length s)) long, f.own) (take-append_seam s (zeros (max_frame - length s)))

-- so are all
pub held-slots : (k : ℕ) (l : List (List ℕ)) → length l ≤ k → EachFramed l → held_frames (length l) (slots k l) ≡ l
unfolding slots held_frames
held-slots k [] h f = refl
held-slots zero (s ∷ l) h f = absurd (omega arith)
held-slots (suc k) (s ∷ l) h f =
    let p : length (padded s) ≡ max_frame = length-padded s f.0.fits in
    ap₂ ◌∷◌ (ap frame_in (take_at (padded s) (slots k l) max_frame p) ∙ frame-padded s f.0)
    (ap (held_frames (length l)) (drop_at (padded s) (slots k l) max_frame p) ∙ held-slots k l (omega arith) f.1)

-- the frames read from any bytes: as many as asked for, and each fits
pub length-held : (k : ℕ) (q : List ℕ) → length (held_frames k q) ≡ k
unfolding held_frames
length-held zero q = refl
length-held (suc k) q = ap suc (length-held k (drop max_frame q))

frame-fits : (q : List ℕ) → length (frame_in (take max_frame q)) ≤ max_frame
unfolding frame_in
frame-fits q = rw (length-take, length-take) (omega arith)

pub held-fit : (k : ℕ) (q : List ℕ) → EachFits (held_frames k q)
unfolding held_frames
held-fit zero q = tt
held-fit (suc k) q = (frame-fits q, held-fit k (drop max_frame q))

-- the own length of a header whose e and b are bytes
pub own-most : (h : Header) → h.e < 256 → h.b < 256 → own_length h ≤ 1797
unfolding own_length
own-most h e b = omega arith
