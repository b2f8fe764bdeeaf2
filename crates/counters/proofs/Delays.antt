-- What each step does to the delays: an accepted offer adds its own, and no other step changes them. Assumes nothing.
use Prim.Native.Nat.{ℕ, ◌+◌, ◌<◌}
use mathlib.Core.Path.{◌≡◌, refl}
use native.Mathlib.Omega.{arith}
use Rattle.counters.specs.Counted.{counted_delivery, counted_nothing, counted_offer, counted_send, no_counters, up_to32, with_extras}
use Rattle.counters.specs.declared.Counters.{Counters}

pub delays-start : no_counters.delays ≡ 0
unfolding no_counters
delays-start = refl

module _ (t : Counters) (x : ℕ) where
  pub delays-send : (counted_send t x).delays ≡ t.delays
  unfolding counted_send with_extras
  delays-send = refl

  -- below the largest number of 32 bits
  pub delays-offer : t.delays + x < 4294967295 → (counted_offer t x).delays ≡ t.delays + x
  unfolding counted_offer up_to32
  delays-offer h = omega arith

  pub delays-delivery : (counted_delivery t x).delays ≡ t.delays
  unfolding counted_delivery with_extras
  delays-delivery = refl

  pub delays-nothing : (counted_nothing t x).delays ≡ t.delays
  unfolding counted_nothing
  delays-nothing = refl
