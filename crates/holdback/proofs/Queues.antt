-- For callers: the queue after a frame is held or removed holds the frames that it should, and the place that a search found. Assumes nothing.
use Prim.Native.Nat.{◌<◌, ◌≤◌, suc, zero, ℕ}
use mathlib.Core.Bool.{Bool, cond, false, true}
use mathlib.Core.List.{List, [], ◌∷◌, map}
use mathlib.Core.Path.{◌∙◌, ◌≡◌, ap, refl}
use native.Mathlib.Omega.{arith}
use lib.ListN.{drop, get_or, length, length-map}
use Rattle.frame.specs.Frame.{decode}
use Rattle.holdback.proofs.Checking.{later}
use Rattle.holdback.proofs.Searched.{found_at}
use Rattle.holdback.proofs.Slots.{EachFramed, held-slots, length-held}
use Rattle.holdback.specs.Places.{frame_at, place_of}
use Rattle.holdback.specs.Slots.{held_frames, held_messages, laid, without}
use Rattle.matrix.specs.Message.{Message}
use Rattle.protocol.specs.Deliver.{Search, absent, found, past, search}
use Rattle.wire.specs.Limits.{max_frame, max_held}

-- the frames of a queue that is laid out
pub held-again : (l : List (List ℕ)) (held : ℕ) (q : List ℕ) → q ≡ laid l → length l ≡ held → held ≤ max_held → EachFramed l → held_frames held q ≡ l
held-again l held q e n h f = rw (e, ← n) (held-slots max_held l (omega arith) f)

pub length_without : (k : ℕ) (l : List (List ℕ)) → k < length l → length l ≡ suc (length (without k l))
unfolding without
length_without k [] h = absurd (omega arith)
length_without zero (s ∷ l) h = refl
length_without (suc k) (s ∷ l) h = ap suc (length_without k l (omega arith))

-- frame i of those held
pub held_at : (held i : ℕ) (q : List ℕ) → i < held → get_or (held_frames held q) i [] ≡ frame_at q i
unfolding held_frames
held_at zero i q h = absurd (omega arith)
held_at (suc held) zero q h = refl
held_at (suc held) (suc i) q h = held_at held i (drop max_frame q) (omega arith) ∙ rw (later i q)

-- a place found is that of a held frame
pub place-most : (p : Message → Bool) (l : List Message) → place_of (search p l) ≤ length l
place-most p [] = omega arith
place-most p (g ∷ l) = go (p g) (search p l) (place-most p l)
  where
    go : (b : Bool) (r : Search) → place_of r ≤ length l → place_of (cond b (found 1 g l) (past g r)) ≤ suc (length l)
    go true r h = omega arith
    go false absent h = omega arith
    go false (found k m others) h = omega arith

-- with place j + 1 found in a queue, the message is that of the frame in slot j, and the others are those of the other frames
pub found-held : (p : Message → Bool) (held : ℕ) (q : List ℕ) (j : ℕ) → place_of (search p (held_messages held q)) ≡ suc j
    → (j < held) × (search p (held_messages held q) ≡ found (suc j) (decode (frame_at q j)) (map decode (without j (held_frames held q))))
found-held p held q j e =
    let h : j < held = omega (arith, place-most p (held_messages held q), length-map (held_frames held q) decode, length-held held q) in
    (h, found_at p (held_frames held q) j e ∙ rw (held_at held j q h))
