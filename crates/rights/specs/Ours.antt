-- Our table of rights, and the request's words for it.
use Rattle.std.specs.Prelude.{ℕ, ◌≤◌, false, List, [], ◌∷◌, ◌≡◌}
use Rattle.rights.specs.Topics.{Group, motion, exposure, filing, notes, group_of}
use Rattle.rights.specs.Rights.{mover, camera, archive, panel, lacks_right}

-- movers, cameras, archives, panels; of each motion, exposure, filing, notes
unfoldable pub ours : List ℕ
ours =
    1 ∷ 0 ∷ 0 ∷ 1
    ∷ 0 ∷ 1 ∷ 0 ∷ 1
    ∷ 0 ∷ 0 ∷ 1 ∷ 1
    ∷ 0 ∷ 0 ∷ 0 ∷ 1
    ∷ []

-- movers send motion and notes, cameras exposure and notes, archives filing and notes, panels notes; there is no other class
abbrev pub MaySend : ℕ → Group → Type 0
MaySend class motion = class ≡ mover
MaySend class exposure = class ≡ camera
MaySend class filing = class ≡ archive
MaySend class notes = class ≤ panel

-- by our table, the classes that do not lack the right to a body are exactly these
pub record OursMeans : Type 0 where
  pub only : (class : ℕ) (body : List ℕ) → lacks_right ours class body ≡ false → MaySend class (group_of body)
  pub each : (class : ℕ) (body : List ℕ) → MaySend class (group_of body) → lacks_right ours class body ≡ false
