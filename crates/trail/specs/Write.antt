-- One frame written on: 19 where it is not sound on its own, then 3 where there is no room; a refusal leaves every byte.
use Rattle.std.specs.Prelude.{ℕ, ◌+◌, Bool, cond, List, ltb, length}
use Rattle.wire.specs.Bytes.{put}
use Rattle.trail.specs.WriteAnswer.{WriteAnswer}
use Rattle.trail.specs.WriteAnswer as write_answer
use Rattle.trail.specs.Sound.{unsound}

-- the answer, and the file's bytes
pub record AfterWrite : Type 0 where
  pub answer : WriteAnswer
  pub file : List ℕ

abbrev pub after_write : WriteAnswer → List ℕ → AfterWrite
after_write answer file = record { answer = answer; file = file }

-- the refusal's number, 0 where the frame was written
abbrev pub write_number : WriteAnswer → ℕ
write_number (write_answer.Refused k) = k
write_number (write_answer.Written used) = 0

-- 3: behind the bytes in use there is no room for the frame
unfoldable pub no_room_for : List ℕ → ℕ → List ℕ → Bool
no_room_for file used frame = ltb (length file) (used + length frame)

unfoldable pub write_call : List ℕ → ℕ → List ℕ → AfterWrite
write_call file used frame =
    cond (unsound frame) (after_write (write_answer.Refused 19) file)
    (cond (no_room_for file used frame) (after_write (write_answer.Refused 3) file)
    (after_write (write_answer.Written (used + length frame)) (put file used frame)))
