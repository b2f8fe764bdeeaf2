-- The start of a simulation, stored and as a list. Assumes nothing.
use Prim.Native.Nat.{ℕ, ◌*◌, ◌<◌}
use mathlib.Core.List.{List, []}
use mathlib.Core.Path.{◌≡◌, ap, refl, subst, sym}
use native.Mathlib.Omega.{arith}
use lib.ListN.{length, replicate}
use Rattle.causality.specs.Demand3.{start}
use Rattle.holdback.specs.Slots.{queue_size, zeros}
use Rattle.world.proofs.Starts.{Opens, holds-start}
use Rattle.world.specs.Reached.{Reached}
use Rattle.world.specs.Start.{cap_of, max_simulated}
use Rattle.world.specs.Stored.{Holds, fresh, log_size}
use Rattle.world.specs.declared.World.{World as Stored}

-- the start in a local array of zeros for the queues, and any log
pub stored-start : (n : ℕ) (caps : ℕ → ℕ) (list : List ℕ) (limit : ℕ) → Opens n caps → ((k : ℕ) → k < n → cap_of list k ≡ caps k)
    → (w : Stored) → w ≡ fresh n list → (i : ℕ) → i ≡ queue_size * max_simulated → (l : List ℕ) → length l ≡ log_size limit
    → Holds n caps limit 0 (start n caps) w (replicate i 0) l
unfolding zeros
stored-start n caps list limit o same w e i a l b =
    subst (λ (x : Stored). Holds n caps limit 0 (start n caps) x (replicate i 0) l) (sym e)
    (holds-start n caps list limit o same (replicate i 0) l (ap zeros a) b)

-- before the first step
pub reached-start : (n : ℕ) (caps : ℕ → ℕ) → Reached n caps 0 (start n caps)
reached-start n caps = record { steps = []; bytes = tt; few = omega arith; same = refl }
