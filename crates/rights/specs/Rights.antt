-- Who may send a body, by a table of rights: 16 bytes, class by class, four groups each, 1 for may and 0 for may not.
use Rattle.std.specs.Prelude.{ℕ, ◌+◌, ◌*◌, Bool, not, ◌||◌, List, eqb, ltb, get_or}
use Rattle.rights.specs.Topics.{Group, motion, exposure, filing, notes, group_of}

-- the node classes
abbrev pub mover : ℕ
mover = 0

abbrev pub camera : ℕ
camera = 1

abbrev pub archive : ℕ
archive = 2

abbrev pub panel : ℕ
panel = 3

-- a group's place among the four of a class
abbrev pub place : Group → ℕ
place motion = 0
place exposure = 1
place filing = 2
place notes = 3

-- whether a class has the right to a group; a byte that is not there gives none
abbrev pub has_right : List ℕ → ℕ → Group → Bool
has_right table class g = eqb (get_or table (4 * class + place g) 0) 1

-- 21. The class is above 3 or lacks the topic's right.
unfoldable pub lacks_right : List ℕ → ℕ → List ℕ → Bool
lacks_right table class body = ltb panel class || not (has_right table class (group_of body))
