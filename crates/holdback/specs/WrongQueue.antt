-- Check 4: the hold-back queue is laid out as it should be, no held frame would meet one of 8 to 14, and no two agree in from and number.
use Rattle.std.specs.Prelude.{ℕ, Bool, ◌&&◌, ◌||◌, false, not, true, List, [], ◌∷◌, eqb}
use Rattle.arrival.specs.View.{arrival_refusal}
use Rattle.frame.specs.Frame.{decode}
use Rattle.frame.specs.Refusals.{frame_refusal}
use Rattle.holdback.specs.Slots.{held_frames, held_messages, laid}
use Rattle.matrix.specs.Message.{Message}
use Rattle.protocol.specs.Node.{Node}
use Rattle.protocol.specs.Offer.{some_same_origin}

-- the same bytes
unfoldable pub same_bytes : List ℕ → List ℕ → Bool
same_bytes [] [] = true
same_bytes [] (b ∷ t) = false
same_bytes (a ∷ s) [] = false
same_bytes (a ∷ s) (b ∷ t) = eqb a b && same_bytes s t

-- a held frame would meet one of 8 to 14
unfoldable pub held_refused : Node → List ℕ → Bool
held_refused d s = not (eqb (frame_refusal d.n s) 0) || not (eqb (arrival_refusal d (decode s)) 0)

-- some held frame would
unfoldable pub some_refused : Node → List (List ℕ) → Bool
some_refused d [] = false
some_refused d (s ∷ l) = held_refused d s || some_refused d l

-- two messages agree in from and number
unfoldable pub some_alike : List Message → Bool
some_alike [] = false
some_alike (m ∷ l) = some_same_origin l m || some_alike l

-- 4. The shelf is not laid out as above, a held frame would meet one of 8 to 14, or two held frames agree in from and number.
unfoldable pub wrong_queue : Node → ℕ → List ℕ → Bool
wrong_queue d held q = not (same_bytes q (laid (held_frames held q))) || some_refused d (held_frames held q) || some_alike (held_messages held q)
