-- Demand 3 on records and bytes holds: a list of calls matches a list of steps on messages, for which it is proved. Assumes nothing.
use Prim.Native.Nat.{◌<◌, ℕ}
use mathlib.Core.List.{List, map}
use native.Mathlib.Omega.{arith}
use lib.ListN.{length, length-map}
use Rattle.causality.proofs.Accepted.{accepted-once}
use Rattle.causality.proofs.Ceiling.{ceiling_for}
use Rattle.causality.proofs.FrameSizes.{frame-sizes_for}
use Rattle.causality.proofs.Matches.{Matches}
use Rattle.causality.proofs.Order.{carried, causal, distinct, kept, once}
use Rattle.causality.proofs.Progress.{accepts, delivers-new, exists, held-agrees}
use Rattle.causality.proofs.Refusals.{list_refusals_lem}
use Rattle.causality.proofs.Rights.{rights_for}
use Rattle.causality.proofs.Runs.{run_matches, start_matches}
use Rattle.causality.proofs.Steps.{forget}
use Rattle.causality.specs.AcceptedOnce.{AcceptedOnce}
use Rattle.causality.specs.Ceiling.{Ceiling}
use Rattle.causality.specs.Demand3.{BodiesOfBytes, Demand3, Demand3For, Earliest, Issue, Step, World, run, start}
use Rattle.causality.specs.FrameSizes.{FrameSizes}
use Rattle.causality.specs.ListRefusals.{ListRefusals}
use Rattle.causality.specs.Rights.{RightsKept}
use Rattle.causality.specs.EachDestination.{EachDestination, EarliestThere, Progress}
use Rattle.matrix.specs.Message.{EachInRange}
use Rattle.protocol.proofs.Accepting.{run-once, start-once}
use Rattle.protocol.proofs.Ceiling.{run-reported, start-reported}
use Rattle.protocol.proofs.Good.{Good}
use Rattle.protocol.proofs.Runs.{run-good, run_length, start-good}
use Rattle.protocol.proofs.Senders.{run-senders, start-senders}
use Rattle.protocol.specs.World as messages
use Rattle.protocol.proofs.Demand3 as proved
use Rattle.protocol.specs.Demand3 as stated

-- a list of steps
module _ (n : ℕ) (caps : ℕ → ℕ) (inside : EachInRange n caps) (steps : List Step) (bytes : BodiesOfBytes steps) (short : length steps < 1000000000) where
  -- its world, its list of steps on messages, and the world of that
  abbrev b : World
  b = run n (start n caps) steps

  abbrev l : List messages.Step
  l = map forget steps

  abbrev w : messages.World
  w = messages.run n (messages.start n caps) l

  good_start : Good n caps (messages.start n caps)
  good_start = start-good n caps inside

  g : Good n caps w
  g = run-good n caps (messages.start n caps) l good_start

  few : length w.history < 1000000000
  few = omega (arith, run_length n (messages.start n caps) l, length-map steps forget)

  m : Matches n w b
  m = run_matches n caps steps bytes (messages.start n caps) (start n caps) good_start (omega arith) (start_matches n caps inside)

  t : stated.Demand3For n caps w
  t = proved.demand3 n caps inside l (omega (arith, length-map steps forget))

  progress : Progress b
  progress = record { accepts = accepts n caps w b g few m t; delivers = delivers-new n caps w b g few m t }

  -- the earliest of all is the earliest to its destination
  first-there : (p : ℕ) (x : Issue) → Earliest b p x → EarliestThere b p x
  first-there p x e = record { at = e.at; undelivered = e.undelivered; earlier = λ q h l a _. e.earlier q h l a }

  world-demand3 : Demand3For n caps b
  world-demand3 = record {
    causal = causal n caps w b g few m t;
    once = once n caps w b g few m t;
    distinct = distinct n caps w b g few m t;
    kept = kept n caps w b g few m t;
    carried = carried n caps w b g few m t;
    exists = exists n caps w b g few m t;
    accepts = λ p x e. progress.accepts p x (first-there p x e);
    delivers = λ p x e. progress.delivers p x (first-there p x e);
    agrees = held-agrees n caps w b g few m t;
  }

pub demand3 : Demand3
demand3 n caps inside steps bytes short = world-demand3 n caps inside steps bytes short

pub list_refusals : ListRefusals
list_refusals n caps inside steps bytes short =
    list_refusals_lem n (w n caps inside steps bytes short) (b n caps inside steps bytes short) (m n caps inside steps bytes short)

-- no frame is accepted twice
pub accepted_once : AcceptedOnce
accepted_once n caps inside steps bytes short =
    accepted-once n (w n caps inside steps bytes short) (b n caps inside steps bytes short) (m n caps inside steps bytes short)
    (run-once n caps (messages.start n caps) (l n caps inside steps bytes short) (good_start n caps inside steps bytes short)
    (start-once n caps))

-- who may say what
pub rights_kept : RightsKept
rights_kept n caps inside steps bytes short =
    rights_for n caps (w n caps inside steps bytes short) (b n caps inside steps bytes short) (g n caps inside steps bytes short) (few n caps inside steps bytes short)
    (m n caps inside steps bytes short)
    (run-senders n caps (messages.start n caps) (l n caps inside steps bytes short) (good_start n caps inside steps bytes short)
    (start-senders n caps))

-- the ceiling on extra frames
pub ceiling : Ceiling
ceiling n caps inside steps bytes short =
    ceiling_for n caps (w n caps inside steps bytes short) (b n caps inside steps bytes short) (m n caps inside steps bytes short)
    (run-reported n caps (messages.start n caps) (l n caps inside steps bytes short) (good_start n caps inside steps bytes short)
    (start-reported n caps))

-- how long frames are
pub frame_sizes : FrameSizes
frame_sizes n caps inside steps bytes short =
    frame-sizes_for n caps (w n caps inside steps bytes short) (b n caps inside steps bytes short) (g n caps inside steps bytes short) (few n caps inside steps bytes short)
    (m n caps inside steps bytes short)

-- its last part, for each destination
pub each-destination : EachDestination
each-destination n caps inside steps bytes short = progress n caps inside steps bytes short
