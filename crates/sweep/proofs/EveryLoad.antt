-- Demand 3 speaks of every load. Assumes nothing.
use Prim.Native.Nat.{ℕ, zero, suc, ◌+◌, ◌<◌}
use Rattle.std.specs.Prelude.{None, Option, Some}
use mathlib.Core.Path.{◌≡◌, subst, sym}
use native.Mathlib.Nat.{add-zero, zero-add}
use native.Mathlib.Omega.{arith}
use lib.ListN.{length}
use Rattle.matrix.specs.Message.{EachInRange}
use Rattle.draws.specs.Draws.{step_of}
use Rattle.draws.specs.declared.Draw.{Draw}
use Rattle.draws.specs.declared.Draw.TheVariants as draw
use Rattle.xorshift.specs.Xorshift.{next}
use Rattle.counting.proofs.Kept.{Kept, deliver-kept, kept-start, later-kept, of_list_lem, offer-kept, send-kept}
use Rattle.counting.specs.State.{State, opened}
use Rattle.sweep.specs.EveryLoad.{EveryLoad}
use Rattle.sweep.specs.Load.{after_draw, after_draws, made, max_issues, run_of}

module _ (n : ℕ) (caps : ℕ → ℕ) (inside : EachInRange n caps) where
  -- a draw
  made_kept : (k : ℕ) (y : State) → Kept n caps k y → k < 1000000000 → (d : Option Draw) → Kept n caps (k + 1) (made n y d)
  unfolding made
  made_kept k y r h (Some (draw.Send i j)) = send-kept n caps k y r max_issues i j
  made_kept k y r h (Some (draw.Offer m)) = offer-kept n caps k y r inside h m
  made_kept k y r h (Some (draw.Deliver j)) = deliver-kept n caps k y r max_issues j
  made_kept k y r h None = later-kept n caps k y r

  -- and all behind it
  draws_kept : (k : ℕ) (y : State) (x draws : ℕ) → Kept n caps k y → k + draws < 1000000000 → Kept n caps (k + draws) (after_draws n y x draws)
  unfolding after_draws
  draws_kept k y x zero r h = subst (λ (i : ℕ). Kept n caps i y) (sym (add-zero k)) r
  draws_kept k y x (suc draws) r h =
      let z : State = after_draw n y (next x) in
      let e : k + 1 + draws ≡ k + suc draws = omega arith in
      subst (λ (i : ℕ). Kept n caps i (after_draws n z (next x) draws)) e
      (draws_kept (k + 1) z (next x) draws (made_kept k y r (omega arith) (step_of n (length y.world.log) (next x))) (omega arith))

pub every_load : EveryLoad
every_load n cap seed draws two four from to short =
    let caps : ℕ → ℕ = λ i. cap in
    let inside : EachInRange n caps = λ i h. record { at_least2 = two; at_most12 = omega arith; cap_from = from; cap_to = to } in
    let z : State = run_of n cap seed draws in
    let r : Kept n caps draws z
    = subst (λ (i : ℕ). Kept n caps i z) (zero-add draws) (draws_kept n caps inside 0 (opened n caps) seed draws (kept-start n caps) (omega arith)) in
    of_list_lem n caps draws z inside r short
