-- Two neighbouring bytes of a frame changed over are found out in a trail: 19 (document 02, (ix)).
use Rattle.std.specs.Prelude.{ℕ, ◌+◌, ◌≤◌, false, List, [], ◌∷◌, ◌++◌, map, ◌≡◌, length}
use Rattle.wire.specs.Bytes.{AllBytes}
use Rattle.wire.specs.Exchange.{Unequal, exchanged}
use Rattle.trail.specs.WalkAnswer as walk_answer
use Rattle.trail.specs.WriteAnswer as write_answer
use Rattle.trail.specs.Sound.{extra_bit, unsound}
use Rattle.trail.specs.Trail.{places_back, trail_of}
use Rattle.trail.specs.Trails.{EachSound}
use Rattle.trail.specs.Walk.{walk, walk_call}
use Rattle.trail.specs.Write.{after_write, write_call}

-- a sound frame f with two unequal neighbours exchanged
pub record ExchangeMeets19 (f : List ℕ) (k : ℕ) : Type 0 where
  -- it is not written on
  pub write : (file : List ℕ) (used : ℕ) → write_call file used (exchanged f k) ≡ after_write (write_answer.Refused 19) file
  -- a trail of sound frames in which it stands for f is refused with every window
  pub walked : (before behind : List (List ℕ)) → EachSound before → EachSound behind
      → (w : ℕ) → walk_call (trail_of (before ++ (exchanged f k ∷ behind))) w ≡ walk_answer.Refused 19
  -- and where the two stand in front of the count, the walk shows the frames behind it and stops there, whatever bytes are in front
  pub shown : (before : List ℕ) (behind : List (List ℕ)) → EachSound behind → k + 2 + 4 ≤ length f
      → walk (before ++ (exchanged f k ++ trail_of behind))
      ≡ record { shown = places_back (length before + length f) behind []; kinds = map extra_bit behind; left = before ++ exchanged f k }

abbrev pub ExchangesMeet19 : Type 0
ExchangesMeet19 = (f : List ℕ) (k : ℕ) → AllBytes f → unsound f ≡ false → Unequal f k → ExchangeMeets19 f k
