-- The limits of a node. Definitions cannot name a constant of the code, so each limit has one of equal value here; `wire::constants` ties the two.
use Rattle.std.specs.Prelude.{ℕ}

-- nodes of a list at most: the matrix has this many rows and columns
abbrev pub max_nodes : ℕ
max_nodes = 12

-- frames held at a node at most
abbrev pub max_held : ℕ
max_held = 16

-- bytes of a body at most
abbrev pub max_body : ℕ
max_body = 64

-- bytes of a frame at most
abbrev pub max_frame : ℕ
max_frame = 802

-- the largest count
abbrev pub max_count : ℕ
max_count = 1000000000
