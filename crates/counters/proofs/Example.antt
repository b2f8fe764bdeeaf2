-- The definitions tried on a small run, and on shares around a half and at the largest number. Assumes nothing.
use mathlib.Core.List.{[], ◌∷◌}
use mathlib.Core.Path.{◌≡◌, refl}
use Rattle.counters.specs.Counted.{up_to32, share, no_counters, with_extras, counted_send, counted_offer, counted_delivery, counted_nothing, totals}
use Rattle.counters.specs.declared.Counters.{Counters}

-- three sends, one of which issued an extra frame: 33 extras per hundred user frames
abbrev three : Counters
three = counted_send (counted_send (counted_send no_counters 0) 1) 0

pub three-sends : totals three ≡ 3 ∷ 1 ∷ 0 ∷ 0 ∷ 33 ∷ []
unfolding up_to32 share no_counters with_extras counted_send
three-sends = refl

-- a frame that has to wait is accepted, two delivers that answer none pass over it, and a frame that is deliverable is accepted
abbrev waiting : Counters
waiting = counted_offer (counted_nothing (counted_nothing (counted_offer three 1) 1) 1) 0

-- one delay, also when both are delivered
pub one-waits : totals (counted_delivery (counted_delivery waiting 0) 0) ≡ 3 ∷ 1 ∷ 2 ∷ 1 ∷ 33 ∷ []
unfolding up_to32 share no_counters with_extras counted_send counted_offer counted_delivery counted_nothing
one-waits = refl

-- 0.5, 1.5 and 2.5 are halves; 66.7, and 1.49 and 1.51 beside the half, are not
pub around_a_half : (share 1 200 ∷ share 3 200 ∷ share 5 200 ∷ share 2 3 ∷ share 3 201 ∷ share 3 199 ∷ []) ≡ (0 ∷ 2 ∷ 2 ∷ 67 ∷ 1 ∷ 2 ∷ [])
unfolding up_to32 share
around_a_half = refl

-- a share of 32 bits is kept, and a larger one stays at the largest number of 32 bits
pub largest_shares : (share 4294967294 100 ∷ share 4294967295 100 ∷ share 4294967295 99 ∷ share 4294967295 1 ∷ [])
    ≡ (4294967294 ∷ 4294967295 ∷ 4294967295 ∷ 4294967295 ∷ [])
unfolding up_to32 share
largest_shares = refl
