-- Demand 3 on messages holds.
use Prim.Native.Nat.{◌<◌}
use mathlib.Core.Path.{refl, sym, ◌∙◌}
use native.Mathlib.Omega.{arith}
use lib.ListN.{length}
use Rattle.protocol.proofs.Good.{Good}
use Rattle.protocol.proofs.Liveness.{exists, queue-agrees, accepts-first, delivers-first}
use Rattle.protocol.proofs.Runs.{run-good, run_length, start-good}
use Rattle.protocol.specs.Answer.{label}
use Rattle.protocol.specs.Demand3.{Demand3}
use Rattle.protocol.specs.World.{World, start, run}

pub demand3 : Demand3
demand3 n caps range steps few = record {
  causal = g.invariant.causal;
  once =
      λ p t u f a x y. g.invariant.once t u x.event y.event (label f.message) (label f.message) x.at y.at x.names
      y.names (x.here ∙ sym y.here) refl refl;
  distinct = g.invariant.distinct;
  kept = λ i h. (g.node i h).few;
  carried = λ p f a. (g.sound p f a).few;
  exists = exists n caps w g;
  accepts = λ p f e. accepts-first n caps w g short p f e.at e.undelivered (λ q h l a _. e.earlier q h l a);
  delivers = λ p f e. delivers-first n caps w g short p f e.at e.undelivered (λ q h l a _. e.earlier q h l a);
  queue = queue-agrees n caps w g;
}
  where
    w : World
    w = run n (start n caps) steps

    g : Good n caps w
    g = run-good n caps (start n caps) steps (start-good n caps range)

    short : length w.history < 1000000000
    short = omega (arith, run_length n (start n caps) steps)
