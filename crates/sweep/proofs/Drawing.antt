-- A draw's step that is stored is the definition's, and so is a run of draws. Assumes nothing.
use Prim.Native.Nat.{ℕ, suc, ◌+◌, ◌-◌, ◌<◌}
use Rattle.std.specs.Prelude.{None, Option, Some}
use mathlib.Core.List.{List}
use mathlib.Core.Path.{◌≡◌, refl, sym, ap, ap₂, ◌∙◌, subst}
use native.Mathlib.Nat.{sub-zero}
use native.Mathlib.Omega.{arith}
use lib.ListN.{length}
use Rattle.causality.specs.Demand3.{World, start}
use Rattle.counters.specs.Counted.{no_counters}
use Rattle.xorshift.specs.Xorshift.{next}
use Rattle.draws.specs.Draws.{step_of as draw_of}
use Rattle.draws.specs.declared.Draw.{Draw}
use Rattle.draws.specs.declared.Draw.TheVariants as draw
use Rattle.world.proofs.Keeping.{holds_later}
use Rattle.world.specs.Outcome.{Outcome}
use Rattle.world.specs.Stored.{Holds, Standing}
use Rattle.world.specs.declared.World.{World as Stored}
use Rattle.counting.proofs.Counts.{deliver-few, offer-few, send-few}
use Rattle.counting.specs.Stands.{Few, Stands}
use Rattle.counting.specs.State.{State, counted_by, opened, state_after}
use Rattle.counting.specs.declared.State.{State as StoredState}
use Rattle.sweep.specs.Drawn.{step_of}
use Rattle.sweep.specs.Load.{after_draw, after_draws, made, max_issues}

-- the numbers that a draw's step counts are small
pub step-few : (n : ℕ) (w : World) (d : Draw) → Few (step_of n w d).outcome
step-few n w (draw.Send i j) = send-few w n max_issues i j
step-few n w (draw.Offer m) = offer-few w m
step-few n w (draw.Deliver j) = deliver-few w n max_issues j

-- what a draw makes is its step
made-is : (n : ℕ) (z : State) (d : Draw) → made n z (Some d) ≡ state_after z.counters (step_of n z.world d)
unfolding made
made-is n z (draw.Send i j) = refl
made-is n z (draw.Offer m) = refl
made-is n z (draw.Deliver j) = refl

module _ (n : ℕ) (caps : ℕ → ℕ) (k : ℕ) (z : State) (y : StoredState) (q l : List ℕ) (st : Stands n caps max_issues k z y q l) (v : ℕ) (d : Option Draw)
    (e : d ≡ draw_of y.world.n y.world.issued v) where
  -- the draw as the definition reads it
  asks : draw_of n (length z.world.log) v ≡ d
  asks = sym (e ∙ ap₂ (λ (x y : ℕ). draw_of x y v) st.world.nodes st.world.issued)

  -- it asks for nothing
  pub drawn-none : d ≡ None → Stands n caps max_issues (k + 1) (after_draw n z v) y q l
  unfolding made
  drawn-none ed =
      subst (λ (x : State). Stands n caps max_issues (k + 1) x y q l) (sym (ap (made n z) (asks ∙ ed)))
      (record { world = holds_later n caps max_issues k z.world y.world q l st.world; counters = st.counters })

  -- it asks for a step, which is stored and counted
  pub drawn-some : (x : Draw) → d ≡ Some x → (o : Outcome) (s : Stored) (q' l' : List ℕ)
      → (o ≡ (step_of n z.world x).outcome) × Holds n caps max_issues (k + 1) (step_of n z.world x).world s q' l'
      → (y' : StoredState) → y'.world ≡ s → y'.counters ≡ counted_by y.counters o → Stands n caps max_issues (k + 1) (after_draw n z v) y' q' l'
  drawn-some x ed o s q' l' told y' ew ec =
      subst (λ (r : State). Stands n caps max_issues (k + 1) r y' q' l') (sym (ap (made n z) (asks ∙ ed) ∙ made-is n z x))
      (record {
        world = subst (λ (r : Stored). Holds n caps max_issues (k + 1) (step_of n z.world x).world r q' l') (sym ew) told.1;
        counters = ec ∙ ap₂ counted_by st.counters told.0;
      })

-- ---- the loop over the draws

-- i of the draws are made, the last one was x; what is left of them leads to the end of the run
pub record Drawing (n : ℕ) (caps : ℕ → ℕ) (seed draws : ℕ) (y : StoredState) (x i : ℕ) (q l : List ℕ) : Type 0 where
  pub state : State
  pub stands : Stands n caps max_issues i state y q l
  pub left : after_draws n state x (draws - i) ≡ after_draws n (opened n caps) seed draws

pub drawing_starts : (n : ℕ) (caps : ℕ → ℕ) (seed draws : ℕ) (y : StoredState) (q l : List ℕ) → Holds n caps max_issues 0 (start n caps) y.world q l
    → y.counters ≡ no_counters → Drawing n caps seed draws y seed 0 q l
drawing_starts n caps seed draws y q l h e =
    record { state = opened n caps; stands = record { world = h; counters = e }; left = ap (after_draws n (opened n caps) seed) (sub-zero draws) }

module _ (n : ℕ) (caps : ℕ → ℕ) (seed draws : ℕ) (y : StoredState) (x i : ℕ) (q l : List ℕ) (r : Drawing n caps seed draws y x i q l) where
  pub drawing_standing : i < 1000 → Standing max_issues y.world q l
  drawing_standing h = record { n = n; caps = caps; k = i; world = r.state.world; more = omega arith; holds = r.stands.world }

  left-more : i < draws → after_draws n r.state x (draws - i) ≡ after_draws n (after_draw n r.state (next x)) (next x) (draws - (i + 1))
  unfolding after_draws
  left-more h = let e : draws - i ≡ suc (draws - (i + 1)) = omega arith in ap (after_draws n r.state x) e

  pub drawing_goes : i < draws → (y' : StoredState) (x' : ℕ) (q' l' : List ℕ) → x' ≡ next x
      → ((z : State) → Stands n caps max_issues i z y q l → Stands n caps max_issues (i + 1) (after_draw n z x') y' q' l')
      → Drawing n caps seed draws y' x' (i + 1) q' l'
  drawing_goes h y' x' q' l' ex step =
      record {
        state = after_draw n r.state x';
        stands = step r.state r.stands;
        left = ap (λ (y : ℕ). after_draws n (after_draw n r.state y) y (draws - (i + 1))) ex ∙ sym (left-more h) ∙ r.left;
      }

  left-none : i ≡ draws → after_draws n r.state x (draws - i) ≡ r.state
  unfolding after_draws
  left-none h = let e : draws - i ≡ 0 = omega arith in ap (after_draws n r.state x) e

  pub drawing_ends : i ≡ draws → y.counters ≡ (after_draws n (opened n caps) seed draws).counters
  drawing_ends h = r.stands.counters ∙ ap (λ (y : State). y.counters) (sym (left-none h) ∙ r.left)
