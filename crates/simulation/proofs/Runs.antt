-- A run by its tests: the input's length, and the first line. Assumes nothing.
use Prim.Native.Nat.{ℕ, ◌*◌, ◌≤◌, ◌<◌}
use Rattle.std.specs.Prelude.{None, Option, Some}
use mathlib.Core.Bool.{true, false}
use mathlib.Core.List.{List, [], ◌∷◌}
use mathlib.Core.Path.{◌≡◌, refl, ap, ◌∙◌}
use native.Mathlib.Omega.{arith}
use borrow.Author.Tests.{le-ltb, lt-ltb}
use lib.ListN.{length, replicate, length-replicate}
use Rattle.text.specs.Pieces.{split}
use Rattle.text.proofs.Pieces.{split-some}
use Rattle.commands.specs.FirstLine.{first_line}
use Rattle.commands.specs.declared.Sizes.{Sizes}
use Rattle.holdback.specs.Slots.{queue_size}
use Rattle.causality.specs.Demand3.{start}
use Rattle.world.proofs.Starts.{opens}
use Rattle.world.specs.Stored.{Holds, fresh, log_size}
use Rattle.world.specs.Start.{cap_of, max_simulated, startable}
use Rattle.world.specs.declared.World.{World}
use Rattle.counting.proofs.Lists.{stored-start as opened-at}
use Rattle.counting.specs.State.{opened}
use Rattle.simulation.specs.Yard.{alone, lines, max_input, max_issues, of_lines, output, started}

-- the start in two local arrays of zeros
pub stored-start : (n : ℕ) (caps : List ℕ) → startable n caps ≡ true → (w : World) → w ≡ fresh n caps → (i j : ℕ)
    → i ≡ queue_size * max_simulated → j ≡ log_size max_issues
    → Holds n (cap_of caps) max_issues 0 (start n (cap_of caps)) w (replicate i 0) (replicate j 0)
stored-start n caps s w e i j a b =
    opened-at n (cap_of caps) caps max_issues (opens n caps s) (λ k h. refl) w e i a (replicate j 0) (length-replicate j 0 ∙ b)

-- a first line's sizes in range, or not
pub started_yes : (z : Sizes) (ls : List (List ℕ)) → startable z.n z.caps ≡ true → started (Some z) ls ≡ lines z.n (opened z.n (cap_of z.caps)) ls
unfolding started
started_yes z ls e = rw e

pub started_no : (z : Sizes) (ls : List (List ℕ)) → startable z.n z.caps ≡ false → started (Some z) ls ≡ alone
unfolding started
started_no z ls e = rw e

pub started-none : (ls : List (List ℕ)) → started None ls ≡ alone
unfolding started
started-none ls = refl

-- an input that is too long, one without a line feed, and one with a first line
pub lines-first : (l : List ℕ) (ps : List (List ℕ)) → 1 ≤ length ps → of_lines (l ∷ ps) ≡ started (first_line l) ps
unfolding of_lines
lines-first l [] h = absurd (omega arith)
lines-first l (p ∷ ps) h = refl

pub lines-alone : (l : List ℕ) → of_lines (l ∷ []) ≡ alone
unfolding of_lines
lines-alone l = refl

module _ (s : List ℕ) where
  pub output_long : max_input < length s → output s ≡ alone
  unfolding output
  output_long h = rw (lt-ltb max_input (length s) h)

  pub output-lines : length s ≤ max_input → output s ≡ of_lines (split 10 s)
  unfolding output
  output-lines h = rw (le-ltb max_input (length s) h)

  module _ (h : length s ≤ max_input) where
    pub output-unended : split 10 s ≡ s ∷ [] → output s ≡ alone
    output-unended e = output-lines h ∙ ap of_lines e ∙ lines-alone s

    module _ (l b : List ℕ) (e : split 10 s ≡ l ∷ split 10 b) where
      output-first : output s ≡ started (first_line l) (split 10 b)
      output-first = output-lines h ∙ ap of_lines e ∙ lines-first l (split 10 b) (split-some 10 b)

      pub output-none : first_line l ≡ None → output s ≡ alone
      output-none f = output-first ∙ ap (λ (x : Option Sizes). started x (split 10 b)) f ∙ started-none (split 10 b)

      module _ (z : Sizes) (f : first_line l ≡ Some z) where
        pub output-out : startable z.n z.caps ≡ false → output s ≡ alone
        output-out t = output-first ∙ ap (λ (x : Option Sizes). started x (split 10 b)) f ∙ started_no z (split 10 b) t

        pub output-started : startable z.n z.caps ≡ true → output s ≡ lines z.n (opened z.n (cap_of z.caps)) (split 10 b)
        output-started t = output-first ∙ ap (λ (x : Option Sizes). started x (split 10 b)) f ∙ started_yes z (split 10 b) t
