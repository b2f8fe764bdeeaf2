-- The loop has tested the counts before v. Assumes nothing.
use Rattle.std.proofs.Common.{◌≡◌, ◌<◌, ℕ, Bool, take}
use Rattle.std.specs.List.{list_all}
use Rattle.rules.proofs.each.Given as goal

abbrev pub invariant-loop-v : goal.invariant-loop-v
invariant-loop-v g l =
    (p : ℕ → Bool) → ((v : ℕ) (b : Bool) → v < 4294967296 → goal.F-post g l.test v b → b ≡ p v) → l.ok ≡ list_all p (take l.v-index l.run)
