-- The steps of draws name nodes and issues that there are, and no send goes to its sender. Assumes nothing.
use Prim.Native.Nat.{◌%◌, ◌+◌, ◌-◌, ◌/◌, ◌<◌, ◌≤◌, ℕ}
use Rattle.std.specs.Prelude.{None, Option, Some}
use mathlib.Core.Bool.{cond}
use mathlib.Core.Path.{◌≡◌}
use native.Mathlib.Decide.{dec_lt}
use native.Mathlib.Nat.{mod-eq_of_lt, mod-eq-sub-mod, mod-lt}
use native.Mathlib.Omega.{arith}
use lib.Dec.{eqb, leb}
use Rattle.wire.proofs.Tests.{cond_elim, neqb→ne}
use Rattle.draws.specs.Draws.{delivery_of, offer_of, send_of, step_of}
use Rattle.draws.specs.declared.Draw.{Draw}
use Rattle.draws.specs.declared.Draw.TheVariants.{Send, Offer, Deliver}

-- k + 1 places past the node f, round n nodes, is another node
other-node : (n f k : ℕ) → f < n → k + 1 < n → (f + 1 + k) % n ≡ f → ⊥
other-node n f k h l e = go (dec_lt (f + 1 + k) n)
  where
    go : Dec (f + 1 + k < n) → ⊥
    go (yes d) = omega (arith, mod-eq_of_lt d)
    go (no d) =
        let around : n ≤ f + 1 + k = omega arith in
        let less : f + 1 + k - n < n = omega arith in
        omega (arith, mod-eq-sub-mod around, mod-eq_of_lt less)

-- what a step has to keep to, of n nodes and c issues
unfoldable InRange : ℕ → ℕ → Option Draw → Type 0
InRange n c (Some (Send f t)) = (f < n) × (t < n) × (t ≡ f → ⊥)
InRange n c (Some (Offer m)) = (1 ≤ m) × (m ≤ c)
InRange n c (Some (Deliver j)) = j < n
InRange n c None = Unit {0}

send_in_range : (n c v : ℕ) → 2 ≤ n → InRange n c (Some (send_of n v))
unfolding send_of InRange
send_in_range n c v h =
    let f : ℕ = (v / 4) % n in
    let past : ℕ = (v / 64) % (n - 1) in
    let from : f < n = mod-lt (v / 4) (omega arith) in
    let less : past < n - 1 = mod-lt (v / 64) (omega arith) in
    (from, mod-lt _ (omega arith), other-node n f past from (omega arith))

offer_in_range : (n c v : ℕ) → InRange n c (offer_of c v)
unfolding offer_of InRange
offer_in_range n c v =
    cond_elim (InRange n c) (eqb c 0) None (Some (Offer ((v / 4) % c + 1))) (λ t. tt)
    (λ t. let some : 0 < c = omega (arith, neqb→ne c 0 t) in let less : (v / 4) % c < c = mod-lt (v / 4) some in (omega arith, omega arith))

step_in_range : (n c v : ℕ) → 2 ≤ n → InRange n c (step_of n c v)
unfolding step_of delivery_of InRange
step_in_range n c v h =
    cond_elim (InRange n c) (eqb (v % 4) 0) (Some (send_of n v)) (cond (leb (v % 4) 2) (offer_of c v) (Some (delivery_of n v))) (λ t. send_in_range n c v h)
    (λ t. cond_elim (InRange n c) (leb (v % 4) 2) (offer_of c v) (Some (delivery_of n v)) (λ t. offer_in_range n c v) (λ t. mod-lt (v / 4) (omega arith)))

-- the sender and the destination of a send are two nodes that there are
pub send-range : (n c v f t : ℕ) → 2 ≤ n → step_of n c v ≡ Some (Send f t) → (f < n) × (t < n) × (t ≡ f → ⊥)
unfolding InRange
send-range n c v f t h e = rw e at (step_in_range n c v h)

-- an issue that is offered is one of 1 to c
pub offer-range : (n c v m : ℕ) → 2 ≤ n → step_of n c v ≡ Some (Offer m) → (1 ≤ m) × (m ≤ c)
unfolding InRange
offer-range n c v m h e = rw e at (step_in_range n c v h)

-- the node of a delivery is one that there is
pub delivery-range : (n c v j : ℕ) → 2 ≤ n → step_of n c v ≡ Some (Deliver j) → j < n
unfolding InRange
delivery-range n c v j h e = rw e at (step_in_range n c v h)
