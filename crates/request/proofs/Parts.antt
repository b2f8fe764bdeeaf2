-- What an input asks for, by its first line feed and the line's first two spaces. Assumes nothing.
use Rattle.std.specs.Prelude.{None, Option, Some}
use Prim.Native.Nat.{◌≤◌, ℕ}
use mathlib.Core.List.{List, [], ◌∷◌}
use mathlib.Core.Path.{◌≡◌, refl}
use native.Mathlib.Omega.{arith}
use lib.Dec.{eqb}
use lib.ListN.{length}
use Rattle.wire.proofs.Tests.{cond_elim}
use Rattle.text.specs.Fields.{value}
use Rattle.text.specs.Pieces.{grown, split}
use Rattle.text.proofs.Fields.{value-parted}
use Rattle.text.proofs.Pieces.{split-elim, split-some}
use Rattle.request.specs.Request.{of_fields, of_lines, of_numbers, request}

-- fields of which the third is no number
pub third_not : (n seed : Option ℕ) → of_numbers n seed None ≡ None
unfolding of_numbers
third_not (Some n) (Some seed) = refl
third_not (Some n) None = refl
third_not None seed = refl

-- a line of one field, of two, and of three or more
pub fields-one : (s : List ℕ) → split 32 s ≡ s ∷ [] → of_fields (split 32 s) ≡ None
unfolding of_fields
fields-one s e = rw e

pub fields-two : (s n t : List ℕ) → split 32 s ≡ n ∷ split 32 t → split 32 t ≡ t ∷ [] → of_fields (split 32 s) ≡ None
unfolding of_fields
fields-two s n t e f = rw (e, f)

pub fields-three : (s n t seed draws : List ℕ) → split 32 s ≡ n ∷ split 32 t → split 32 t ≡ seed ∷ split 32 draws
    → of_fields (split 32 s) ≡ of_numbers (value 10 n) (value 10 seed) (value 10 draws)
unfolding of_fields
fields-three s n t seed draws e f =
    rw (e, f)
    (split-elim (λ (ps : List (List ℕ)). of_fields (n ∷ seed ∷ ps) ≡ of_numbers (value 10 n) (value 10 seed) (value 10 draws)) 32 draws refl
    (λ p q ps g. rw (value-parted 10 draws p q ps g, third_not (value 10 n) (value 10 seed))))

-- pieces behind the first line: a byte that is no line feed, or a line feed and what is behind it
lines-grown : (line : List ℕ) (b : ℕ) (ps : List (List ℕ)) → of_lines (line ∷ grown b ps) ≡ None
unfolding of_lines grown
lines-grown line b [] = refl
lines-grown line b (p ∷ ps) = refl

lines-empty : (line : List ℕ) (ps : List (List ℕ)) → 1 ≤ length ps → of_lines (line ∷ [] ∷ ps) ≡ None
unfolding of_lines
lines-empty line [] h = absurd (omega arith)
lines-empty line (p ∷ ps) h = refl

lines-behind : (line : List ℕ) (b : ℕ) (s : List ℕ) → of_lines (line ∷ split 10 (b ∷ s)) ≡ None
unfolding split
lines-behind line b s =
    cond_elim (λ (ps : List (List ℕ)). of_lines (line ∷ ps) ≡ None) (eqb b 10) ([] ∷ split 10 s) (grown b (split 10 s))
    (λ t. lines-empty line (split 10 s) (split-some 10 s)) (λ t. lines-grown line b (split 10 s))

-- an input without a line feed, of one line, and with bytes behind the first line feed
pub request_unended : (s : List ℕ) → split 10 s ≡ s ∷ [] → request s ≡ None
unfolding request of_lines
request_unended s e = rw e

pub request-line : (s line t : List ℕ) → split 10 s ≡ line ∷ split 10 t → length t ≡ 0 → request s ≡ of_fields (split 32 line)
unfolding request of_lines split
request-line s line [] e h = rw e
request-line s line (b ∷ t) e h = absurd (omega arith)

pub request-behind : (s line t : List ℕ) → split 10 s ≡ line ∷ split 10 t → (length t ≡ 0 → ⊥) → request s ≡ None
unfolding request
request-behind s line [] e h = absurd (h refl)
request-behind s line (b ∷ t) e h = rw e (lines-behind line b t)

-- for the functions that read a line and an input
pub ruleset fields = (fields-one, fields-two, fields-three)

pub ruleset lines = (request_unended, request-line, request-behind)
