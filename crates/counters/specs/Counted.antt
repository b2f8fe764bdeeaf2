-- The counters (document 01: the tally), and what each step of the yard does to them. A count stays at 4,294,967,295 once it is there.
use Rattle.std.specs.Prelude.{ℕ, ◌+◌, ◌*◌, ◌/◌, ◌%◌, min, cond, List, [], ◌∷◌, eqb, ltb}
use Rattle.counters.specs.declared.Counters.{Counters}

-- the smaller of the number and the largest number of 32 bits
unfoldable pub up_to32 : ℕ → ℕ
up_to32 x = min x 4294967295

-- of the neighbours k and k + 1 the even one
abbrev pub even_of : ℕ → ℕ
even_of k = k + k % 2

-- a / b rounded to the nearest whole number, an exact half to its even neighbour: twice the rest is less than b, b, or more; b is not 0
abbrev pub nearest : ℕ → ℕ → ℕ
nearest a b = cond (ltb (2 * (a % b)) b) (a / b) (cond (eqb (2 * (a % b)) b) (even_of (a / b)) (a / b + 1))

-- extras per hundred user frames, rounded to the nearest whole number, an exact half to its even neighbour; 0 without user frames
unfoldable pub share : ℕ → ℕ → ℕ
share extras user = cond (eqb user 0) 0 (up_to32 (nearest (extras * 100) user))

-- the counters before the first step
unfoldable pub no_counters : Counters
no_counters = record { user = 0; extras = 0; delivered = 0; delays = 0; share = 0 }

-- x extra frames more, and the share anew
unfoldable pub with_extras : Counters → ℕ → Counters
with_extras t x =
    let extras = up_to32 (t.extras + x) in
    record { user = t.user; extras = extras; delivered = t.delivered; delays = t.delays; share = share extras t.user }

-- a send: one user frame more, and x extra frames more issued
unfoldable pub counted_send : Counters → ℕ → Counters
counted_send t x =
    with_extras (record { user = up_to32 (t.user + 1); extras = t.extras; delivered = t.delivered; delays = t.delays; share = t.share }) x

-- an accepted offer: x delays more; x is 1 where the frame was not deliverable at that moment, 0 otherwise
unfoldable pub counted_offer : Counters → ℕ → Counters
counted_offer t x =
    record { user = t.user; extras = t.extras; delivered = t.delivered; delays = up_to32 (t.delays + x); share = t.share }

-- a delivery: one frame more delivered, of either kind, and x extra frames more issued
unfoldable pub counted_delivery : Counters → ℕ → Counters
counted_delivery t x =
    with_extras (record { user = t.user; extras = t.extras; delivered = up_to32 (t.delivered + 1); delays = t.delays; share = t.share }) x

-- a deliver that answers none (document 01: an N line): nothing is counted; x is how many held frames were tried
unfoldable pub counted_nothing : Counters → ℕ → Counters
counted_nothing t x = t

-- the T numbers: user frames, extras, frames delivered, delays, extras per hundred user frames
abbrev pub totals : Counters → List ℕ
totals t = t.user ∷ t.extras ∷ t.delivered ∷ t.delays ∷ t.share ∷ []
