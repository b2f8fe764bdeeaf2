-- The start is stored, every node with this cap, and the draws follow. Assumes nothing.
use Prim.Native.Nat.{◌*◌, ◌≤◌, ℕ}
use mathlib.Core.List.{List}
use mathlib.Core.Path.{◌≡◌, refl}
use native.Mathlib.Omega.{arith}
use lib.ListN.{get_or-replicate, length, replicate}
use Rattle.causality.specs.Demand3.{start}
use Rattle.counting.proofs.Lists.{stored-start}
use Rattle.sweep.specs.Load.{max_issues}
use Rattle.world.specs.Stored.{Holds, fresh, log_size}
use Rattle.world.specs.declared.World.{World}
use Rattle.sweep.proofs.table.run_cap.Goals as goal

-- such nodes at their start
started : (n cap : ℕ) → 2 ≤ n → n ≤ 4 → n ≤ cap → cap ≤ n * n → (w : World) → w ≡ fresh n (replicate 4 cap) → (l : List ℕ) → length l ≡ log_size max_issues
    → Holds n (λ i. cap) max_issues 0 (start n (λ i. cap)) w (replicate 51328 0) l
started n cap two four from to w e l s =
    stored-start n (λ i. cap) (replicate 4 cap) max_issues (record {
      least = two;
      few = four;
      range = λ i h. record { at_least2 = two; at_most12 = omega arith; cap_from = from; cap_to = to };
    }) (λ i h. get_or-replicate 4 i cap 0 (omega arith)) w e 51328 refl l s

pub run_draws-requires : goal.run_draws-requires
run_draws-requires c =
    let p = c.requires in (
      record { n = _; caps = _; holds = started c.args.n c.args.cap p.0 p.1 p.2 p.3 _ c.fresh-w.ensures _ p.5 },
      p.4,
    )

pub returns : goal.returns
returns c =
    let p = c.requires in
    c.run_draws.ensures _ _
    (started c.args.n c.args.cap p.0 p.1 p.2 p.3 _ c.fresh-w.ensures _ p.5)
