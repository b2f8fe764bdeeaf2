-- The slots before slot i are right, and their keys are kept. Assumes nothing.
use Prim.Native.Nat.{ℕ}
use mathlib.Core.List.{[]}
use Rattle.arrival.specs.View.{node_with}
use Rattle.holdback.proofs.Filling.{Filling}
use Rattle.holdback.proofs.wrong_queue.Given as goal

abbrev pub invariant-loop-i : goal.invariant-loop-i
invariant-loop-i l = (cap : ℕ) → Filling (node_with l.me l.n cap l.m l.deliv []) l.held l.q l.keys l.i
