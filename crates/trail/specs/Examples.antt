-- Examples, each by computation: a trail of five frames, its walk and windows, a trail that was cut, refused frames and writes, and a frame whose exchanged
-- count leads a walk astray.
use Rattle.std.specs.Prelude.{ℕ, false, true, List, [], ◌∷◌, ◌++◌, ◌≡◌, drop, replicate, take}
use Rattle.wire.specs.Trailer.{sealed}
use Rattle.wire.specs.Exchange.{exchanged}
use Rattle.trail.specs.WalkAnswer as walk_answer
use Rattle.trail.specs.WriteAnswer as write_answer
use Rattle.trail.specs.Sound.{unsound}
use Rattle.trail.specs.Trail.{Place, trail_of}
use Rattle.trail.specs.Trails.{EachSound}
use Rattle.trail.specs.Walk.{walk, walk_call}
use Rattle.trail.specs.Write.{after_write, write_call}

-- n 3: 0 sends "O" to 1, with this cap and first byte of the sum; with cap 3 it is document 01's first example, which document 02 (ix) ends 51 03
abbrev pub user_frame : ℕ → ℕ → List ℕ
user_frame cap low = 1 ∷ 0 ∷ 1 ∷ 0 ∷ 1 ∷ 3 ∷ cap ∷ 0 ∷ 79 ∷ 9 ∷ 0 ∷ low ∷ 3 ∷ []

-- n 3, cap 3: an extra frame from 0 to 1 that carries (2,1)=1
abbrev pub extra_frame : List ℕ
extra_frame = 2 ∷ 0 ∷ 1 ∷ 1 ∷ 0 ∷ 3 ∷ 3 ∷ 0 ∷ 2 ∷ 1 ∷ 1 ∷ 0 ∷ 0 ∷ 0 ∷ 14 ∷ 0 ∷ 41 ∷ 1 ∷ []

abbrev pub five_frames : List (List ℕ)
five_frames = user_frame 3 81 ∷ extra_frame ∷ user_frame 3 81 ∷ extra_frame ∷ extra_frame ∷ []

-- a user frame of 39 bytes. With its last body byte, 9, and its count's first byte, 35, exchanged it ends with another of 13: a header from byte 26 on, the
-- body 35, the count 9; the bytes 209 make the sum that one's too
abbrev pub lure : List ℕ
lure = sealed (1 ∷ 0 ∷ 1 ∷ 0 ∷ 27 ∷ 3 ∷ 3 ∷ 0 ∷ 0 ∷ (replicate 17 209 ++ (1 ∷ 0 ∷ 1 ∷ 0 ∷ 1 ∷ 3 ∷ 3 ∷ 0 ∷ 9 ∷ [])))

abbrev pub place : ℕ → ℕ → Place
place start length = record { start = start; length = length }

pub record Examples : Type 0 where
  -- the frames meet what the theorem asks of a list
  pub sound : EachSound five_frames
  -- the walk shows them by start and length, the last first
  pub shown : (walk (trail_of five_frames)).shown ≡ place 62 18 ∷ place 44 18 ∷ place 31 13 ∷ place 13 18 ∷ place 0 13 ∷ []
  -- the largest count for windows of 1 to 5 and of 64 frames
  pub one : walk_call (trail_of five_frames) 1 ≡ walk_answer.Largest 1
  pub two : walk_call (trail_of five_frames) 2 ≡ walk_answer.Largest 2
  pub three : walk_call (trail_of five_frames) 3 ≡ walk_answer.Largest 2
  pub four : walk_call (trail_of five_frames) 4 ≡ walk_answer.Largest 3
  pub whole : walk_call (trail_of five_frames) 5 ≡ walk_answer.Largest 3
  pub longer : walk_call (trail_of five_frames) 64 ≡ walk_answer.Largest 3
  -- an empty file, and windows out of range, which are looked at first
  pub empty : walk_call [] 64 ≡ walk_answer.Largest 0
  pub no_window : walk_call [] 0 ≡ walk_answer.Refused 19
  pub large_window : walk_call [] 65 ≡ walk_answer.Refused 19
  -- without its first byte the trail still shows the four frames behind the damage, and is refused
  pub cut_shown : (walk (drop 1 (trail_of five_frames))).shown ≡ place 61 18 ∷ place 43 18 ∷ place 30 13 ∷ place 12 18 ∷ []
  pub cut : walk_call (drop 1 (trail_of five_frames)) 2 ≡ walk_answer.Refused 19
  -- without its last byte it shows nothing
  pub end_shown : (walk (take 79 (trail_of five_frames))).shown ≡ []
  -- a frame with cap below n, or above n × n, is not sound on its own
  pub cap_below : unsound (user_frame 2 74) ≡ true
  pub cap_above : unsound (user_frame 10 130) ≡ true
  -- a write: the frame is looked at first, then the room
  pub written : write_call (replicate 14 255) 1 (user_frame 3 81) ≡ after_write (write_answer.Written 14) (255 ∷ user_frame 3 81)
  pub no_room : write_call (replicate 13 255) 1 (user_frame 3 81) ≡ after_write (write_answer.Refused 3) (replicate 13 255)
  pub both_bad : write_call [] 1 (user_frame 2 74) ≡ after_write (write_answer.Refused 19) []
  -- where the count's own bytes are exchanged, the walk may show what was never written, here 13 bytes of a body; it is refused all the same
  pub lures : unsound lure ≡ false
  pub lured_shown : (walk (exchanged lure 34)).shown ≡ place 26 13 ∷ []
  pub lured : walk_call (exchanged lure 34) 1 ≡ walk_answer.Refused 19
