-- The step that a draw v makes among n nodes, c being the issues so far. Divisions drop the remainder.
use Rattle.std.specs.Prelude.{ℕ, ◌+◌, ◌-◌, ◌/◌, ◌%◌, cond, eqb, leb, Option, Some, None}
use Rattle.draws.specs.declared.Draw.{Draw}
use Rattle.draws.specs.declared.Draw.TheVariants.{Send, Offer, Deliver}

-- a send from f = (v/4) mod n to (f + 1 + (v/64) mod (n−1)) mod n
unfoldable pub send_of : ℕ → ℕ → Draw
send_of n v = let f : ℕ = (v / 4) % n in Send f ((f + 1 + (v / 64) % (n - 1)) % n)

-- an offer of issue (v/4) mod c + 1, and none while c is 0
unfoldable pub offer_of : ℕ → ℕ → Option Draw
offer_of c v = cond (eqb c 0) None (Some (Offer ((v / 4) % c + 1)))

-- a delivery at (v/4) mod n
unfoldable pub delivery_of : ℕ → ℕ → Draw
delivery_of n v = Deliver ((v / 4) % n)

-- remainder 0 of v by 4 is a send, remainders 1 and 2 offer, remainder 3 delivers
unfoldable pub step_of : ℕ → ℕ → ℕ → Option Draw
step_of n c v = cond (eqb (v % 4) 0) (Some (send_of n v)) (cond (leb (v % 4) 2) (offer_of c v) (Some (delivery_of n v)))
