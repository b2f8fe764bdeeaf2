-- Demand 3 speaks of every load: whatever is drawn, the world after it is one that a list of demand 3 leads to, and its delays are those of that list.
use Rattle.std.specs.Prelude.{ℕ, ◌*◌, ◌≤◌, ◌<◌}
use Rattle.counting.specs.OfList.{OfList}
use Rattle.sweep.specs.Load.{run_of}

-- for every n that a load takes and every cap of its table, from any seed and after any number of draws below 1,000,000,000 (a load has at most 400)
abbrev pub EveryLoad : Type 0
EveryLoad = (n cap seed draws : ℕ) → 2 ≤ n → n ≤ 4 → n ≤ cap → cap ≤ n * n → draws < 1000000000 → OfList n (λ i. cap) draws (run_of n cap seed draws)
