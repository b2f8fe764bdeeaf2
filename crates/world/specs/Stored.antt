-- How the world of a list is stored: the records in a struct, the hold-back queues end to end, and the issued frames end to end.
use Rattle.std.specs.Prelude.{ℕ, zero, suc, Option, None, Some, ◌+◌, ◌*◌, ◌<◌, ◌≤◌, List, [], ◌∷◌, ◌++◌, ◌≡◌, length, get_or, set, take, drop}
use Rattle.wire.specs.Limits.{max_frame}
use Rattle.matrix.specs.Message.{EachInRange}
use Rattle.arrival.specs.CheckedFrame.{CheckedFrame}
use Rattle.holdback.specs.Slots.{queue_size}
use Rattle.node.specs.declared.Node.{Node as Record}
use Rattle.node.specs.SetUp.{set_up}
use Rattle.node.specs.Sizes.{out_size}
use Rattle.causality.specs.Demand3.{World}
use Rattle.world.specs.declared.World.{World as Stored}
use Rattle.world.specs.Start.{cap_of, max_simulated}
use Rattle.world.specs.Outcome.{Outcome}
use Rattle.world.specs.Outcome as outcome
use Rattle.world.specs.Reached.{Reached}
use Rattle.world.specs.Steps.{frames}

-- what lies past the last record
abbrev pub no_record : Record
no_record = record { me = 0; n = 0; cap = 0; m = []; deliv = []; held = 0 }

-- the bytes of a log that has room for so many issues, and for what one call may write behind them
unfoldable pub log_size : ℕ → ℕ
log_size limit = max_frame * limit + out_size

-- the frames end to end
unfoldable pub joined : List (List ℕ) → List ℕ
joined [] = []
joined (s ∷ l) = s ++ joined l

-- the bytes l begin with these sound frames end to end
pub record Begins (f : List (List ℕ)) (l : List ℕ) : Type 0 where
  pub sound : (k : ℕ) → k < length f → CheckedFrame (get_or f k [])
  pub bytes : take (length (joined f)) l ≡ joined f

-- the bytes l begin with at least k sound frames
pub record BeginsWith (k : ℕ) (l : List ℕ) : Type 0 where
  pub frames : List (List ℕ)
  pub many : k ≤ length frames
  pub begins : Begins frames l

-- the issue that a search of the log answers, which counts from 1 and has 0 for none
unfoldable pub some_issue : ℕ → Option ℕ
some_issue zero = None
some_issue (suc k) = Some (suc k)

-- the queue of node i among queues that lie end to end
unfoldable pub queue_at : List ℕ → ℕ → List ℕ
queue_at q i = take queue_size (drop (queue_size * i) q)

-- ---- The start

-- set-up's record for node i
abbrev pub fresh_for : ℕ → List ℕ → ℕ → Record
fresh_for n caps i = (set_up i n (cap_of caps i)).node

-- what set-up leaves for each node, with its cap; nothing issued
unfoldable pub fresh : ℕ → List ℕ → Stored
fresh n caps = record { n = n; nodes = fresh_for n caps 0 ∷ fresh_for n caps 1 ∷ fresh_for n caps 2 ∷ fresh_for n caps 3 ∷ []; issued = 0; end = 0 }

-- ---- A world that is stored

-- the world w, which at most k steps led to, is stored in s, the queues q and the log l
-- range, least, few: each cap is in range, and there are 2 to 4 nodes
-- below: a step that issues finds n issues left, and issues at most n
pub record Holds (n : ℕ) (caps : ℕ → ℕ) (limit k : ℕ) (w : World) (s : Stored) (q l : List ℕ) : Type 0 where
  pub range : EachInRange n caps
  pub least : 2 ≤ n
  pub few : n ≤ max_simulated
  pub reached : Reached n caps k w
  pub nodes : s.n ≡ n
  pub array : length s.nodes ≡ max_simulated
  pub records : (i : ℕ) → i < n → get_or s.nodes i no_record ≡ w.records i
  pub size : length q ≡ queue_size * max_simulated
  pub queues : (i : ℕ) → i < n → queue_at q i ≡ w.queues i
  pub issued : s.issued ≡ length w.log
  pub below : length w.log ≤ limit
  pub room : length l ≡ log_size limit
  pub begins : Begins (frames w.log) l
  pub end : s.end ≡ length (joined (frames w.log))

-- some world is, and further steps are allowed
pub record Standing (limit : ℕ) (s : Stored) (q l : List ℕ) : Type 0 where
  pub n : ℕ
  pub caps : ℕ → ℕ
  pub k : ℕ
  pub world : World
  pub more : k + 1 < 1000000000
  pub holds : Holds n caps limit k world s q l

-- the same, where the queues are not lent
abbrev pub StandingRecords : ℕ → Stored → List ℕ → Type 0
StandingRecords limit s l = (q : List ℕ) × Standing limit s q l

-- a step that is refused, or a deliver that finds nothing, leaves the struct as it was: every record, also those from n on, and both counts
abbrev pub Kept : Outcome → Stored → Stored → Type 0
Kept (outcome.Refused k) s s' = s' ≡ s
Kept (outcome.Sent extras) s s' = Unit {0}
Kept (outcome.Held count ready) s s' = Unit {0}
Kept (outcome.Nothing tried) s s' = s' ≡ s
Kept (outcome.Delivered issue tried extras) s s' = Unit {0}

-- the record r in place of node i's, and so many frames and bytes more
abbrev pub stored_after : Stored → ℕ → Record → ℕ → ℕ → Stored
stored_after s i r count bytes = record { n = s.n; nodes = set s.nodes i r; issued = s.issued + count; end = s.end + bytes }
