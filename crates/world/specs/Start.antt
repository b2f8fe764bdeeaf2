-- Whether a simulation can start: it has two to four nodes, and set-up takes the cap of each.
use Rattle.std.specs.Prelude.{ℕ, Bool, true, false, ◌&&◌, ◌||◌, List, leb, get_or}
use Rattle.node.specs.SetUpAnswer.{SetUpAnswer, Refused, Ready}
use Rattle.node.specs.SetUp.{set_up}

-- the cap of node i, 0 where the list has none
abbrev pub cap_of : List ℕ → ℕ → ℕ
cap_of caps i = get_or caps i 0

-- nodes of a simulation at most
abbrev pub max_simulated : ℕ
max_simulated = 4

-- whether set-up is not refused
abbrev pub is_ready : SetUpAnswer → Bool
is_ready (Refused k) = false
is_ready Ready = true

-- there is no node i among n, or set-up takes its cap
unfoldable pub cap_taken : ℕ → ℕ → ℕ → Bool
cap_taken n i cap = leb n i || is_ready (set_up i n cap).answer

-- n is 2 to 4, and set-up takes each node's cap
unfoldable pub startable : ℕ → List ℕ → Bool
startable n caps =
    leb 2 n && leb n max_simulated
    && cap_taken n 0 (cap_of caps 0) && cap_taken n 1 (cap_of caps 1) && cap_taken n 2 (cap_of caps 2) && cap_taken n 3 (cap_of caps 3)
