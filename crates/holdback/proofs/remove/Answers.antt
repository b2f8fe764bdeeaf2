-- The later slots move down in one copy, and the last that was filled is cleared. Assumes nothing.
use Prim.Native.Nat.{ℕ}
use mathlib.Core.Path.{◌∙◌, ap}
use native.Mathlib.Omega.{arith}
use lib.ListN.{replicate}
use Rattle.holdback.proofs.Changes.{length_last, removed}
use Rattle.holdback.proofs.Slots.{held-fit, length-held}
use Rattle.holdback.specs.Slots.{held_frames, zeros}
use Rattle.holdback.proofs.remove.Goals as goal

pub returns : goal.returns
unfolding zeros
returns c =
    let a = c.args in
    let long = c.copy_within.ensures.len ∙ c.requires.0 in
    let cleared = c.fill.ensures.after (λ y e. e)
    ∙ ap (λ (n : ℕ). replicate n 0) (length_last c.copy_within.new.self a.held long (omega arith) c.requires.1) in
    rw c.copy_within.ensures.after (removed a.q.now (held_frames a.held a.q.now) a.held a.k c.requires.3 (length-held a.held a.q.now) c.requires.2 c.requires.1
    (held-fit a.held a.q.now) _ cleared)
