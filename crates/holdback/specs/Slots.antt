-- The hold-back queue (document 01: the shelf): 12,832 bytes, sixteen slots (document 01: places) of 802.
use Rattle.std.specs.Prelude.{◌-◌, suc, zero, ℕ, List, [], ◌++◌, ◌∷◌, map, drop, length, replicate, take}
use Rattle.frame.specs.Frame.{decode}
use Rattle.frame.specs.Header.{header, own_length}
use Rattle.matrix.specs.Message.{Message}
use Rattle.wire.specs.Limits.{max_frame, max_held}

-- the length of a hold-back queue
abbrev pub queue_size : ℕ
queue_size = 12832

-- k zeros
unfoldable pub zeros : ℕ → List ℕ
zeros k = replicate k 0

-- a frame in its slot: zeros to the slot's end
unfoldable pub padded : List ℕ → List ℕ
padded s = s ++ zeros (max_frame - length s)

-- k slots: the frames fill the first ones in holding order, the others are zero
unfoldable pub slots : ℕ → List (List ℕ) → List ℕ
slots zero l = []
slots (suc k) [] = zeros max_frame ++ slots k []
slots (suc k) (s ∷ l) = padded s ++ slots k l

-- the frames laid out in sixteen slots
abbrev pub laid : List (List ℕ) → List ℕ
laid l = slots max_held l

-- the frame at the front of a slot, 12 + 6 × e + b bytes by its own e and b
unfoldable pub frame_in : List ℕ → List ℕ
frame_in slot = take (own_length (header slot)) slot

-- the frames in the first k slots
unfoldable pub held_frames : ℕ → List ℕ → List (List ℕ)
held_frames zero q = []
held_frames (suc k) q = frame_in (take max_frame q) ∷ held_frames k (drop max_frame q)

-- the messages that they read as
abbrev pub held_messages : ℕ → List ℕ → List Message
held_messages k q = map decode (held_frames k q)

-- the frames without the one at place k, counted from 0: the later ones move down
unfoldable pub without : ℕ → List (List ℕ) → List (List ℕ)
without k [] = []
without zero (s ∷ l) = l
without (suc k) (s ∷ l) = s ∷ without k l
