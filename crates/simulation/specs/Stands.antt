-- What a line's function leaves of a yard that is stored, and the room that it asks for.
use Rattle.std.specs.Prelude.{ℕ, ◌+◌, ◌-◌, ◌*◌, ◌≤◌, List, ◌≡◌, length}
use Rattle.wire.specs.Bytes.{put}
use Rattle.counting.specs.Stands.{Stands}
use Rattle.counting.specs.declared.State.{State}
use Rattle.simulation.specs.Yard.{AfterLine, max_issues}

-- a line that leaves and prints a: its yard is stored in y, and what it prints is written from `at` on, up to `end`
pub record Took (n : ℕ) (caps : ℕ → ℕ) (k : ℕ) (a : AfterLine) (at : ℕ) (o : List ℕ) (y : State) (end : ℕ) (q l o' : List ℕ) : Type 0 where
  pub stands : Stands n caps max_issues (k + 1) a.yard y q l
  pub place : end ≡ at + length a.printed
  pub bytes : o' ≡ put o at a.printed

-- from `at` on the output o has room for one line and for each frame that may still be issued: 20 bytes, and 17 for a frame
abbrev pub Room : ℕ → State → List ℕ → Type 0
Room at y o = at + 20 + 17 * (max_issues - y.world.issued) ≤ length o
