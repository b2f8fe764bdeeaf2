-- What a body is about: its topic, and the topic's group.
use Rattle.std.specs.Prelude.{ℕ, cond, List, [], ◌∷◌, leb}

-- the first body byte is the topic; an empty body has topic 128
abbrev pub topic : List ℕ → ℕ
topic [] = 128
topic (b ∷ l) = b

-- the groups of topics
pub data Group : Type 0 where
  motion : Group
  exposure : Group
  filing : Group
  notes : Group

-- topics 0–31 are motion, 32–95 exposure, 96–127 filing, 128–255 notes
unfoldable pub group : ℕ → Group
group t = cond (leb t 31) motion (cond (leb t 95) exposure (cond (leb t 127) filing notes))

-- the group of a body
abbrev pub group_of : List ℕ → Group
group_of body = group (topic body)
