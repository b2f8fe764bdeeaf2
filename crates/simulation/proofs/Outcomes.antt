-- Laws of what a step prints, by its outcome. Assumes nothing.
use Prim.Native.Nat.{ℕ, ◌+◌, ◌<◌}
use mathlib.Core.Bool.{Bool}
use mathlib.Core.List.{List, [], ◌∷◌, ◌++◌}
use mathlib.Core.Path.{◌≡◌, ap, subst}
use lib.ListN.{length}
use Rattle.wire.specs.Bytes.{put}
use Rattle.text.specs.Print.{refusal_row, row}
use Rattle.text.specs.Wrote.{Wrote}
use Rattle.text.proofs.Print.{shown, shown-both}
use Rattle.world.specs.Outcome.{Outcome}
use Rattle.world.specs.Outcome as outcome
use Rattle.simulation.specs.Asked.{Small}
use Rattle.simulation.specs.Yard.{printed_by}

module _ (x : ℕ) (o : Outcome) where
  pub printed-refused : (is : List ℕ) (k : ℕ) → o ≡ outcome.Refused k → printed_by x is o ≡ refusal_row k
  unfolding printed_by
  printed-refused is k e = ap (printed_by x is) e

  pub printed-sent : (is : List ℕ) (k : ℕ) → o ≡ outcome.Sent k → printed_by x is o ≡ is
  unfolding printed_by
  printed-sent is k e = ap (printed_by x is) e

  pub printed-held : (is : List ℕ) (k : ℕ) (b : Bool) → o ≡ outcome.Held k b → printed_by x is o ≡ row 65 (x ∷ k ∷ [])
  unfolding printed_by
  printed-held is k b e = ap (printed_by x is) e

  pub printed-nothing : (is : List ℕ) (k : ℕ) → o ≡ outcome.Nothing k → printed_by x is o ≡ row 78 (x ∷ k ∷ [])
  unfolding printed_by
  printed-nothing is k e = ap (printed_by x is) e

  printed-delivered : (is : List ℕ) (i k m : ℕ) → o ≡ outcome.Delivered i k m → printed_by x is o ≡ row 68 (x ∷ i ∷ k ∷ []) ++ is
  unfolding printed_by
  printed-delivered is i k m e = ap (printed_by x is) e

  pub shown-delivered : (i k m : ℕ) → o ≡ outcome.Delivered i k m → (is : List ℕ) (at r s : ℕ) (b b' b'' : List ℕ) → r ≡ at + length (row 68 (x ∷ i ∷ k ∷ []))
      → b' ≡ put b at (row 68 (x ∷ i ∷ k ∷ []))
      → s ≡ r + length is → b'' ≡ put b' r is → Wrote (printed_by x is o) at b s b''
  shown-delivered i k m e is at r s b b' b'' l p n q =
      let z = shown-both (row 68 (x ∷ i ∷ k ∷ [])) is at r s b b' b'' l p n q in
      shown (printed_by x is o) (row 68 (x ∷ i ∷ k ∷ []) ++ is) at s b b'' (printed-delivered is i k m e) z.0 z.1

  module _ (s : Small x o) where
    pub small-held : (k : ℕ) (b : Bool) → o ≡ outcome.Held k b → (x < 1000) × (k < 100)
    small-held k b e = subst (Small x) e s

    pub small-nothing : (k : ℕ) → o ≡ outcome.Nothing k → (x < 1000) × (k < 100)
    small-nothing k e = subst (Small x) e s

    pub small-delivered : (i k m : ℕ) → o ≡ outcome.Delivered i k m → (x < 1000) × (i < 100) × (k < 100)
    small-delivered i k m e = subst (Small x) e s
