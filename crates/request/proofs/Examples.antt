-- Worked examples, which pin the definitions: both sides of each bound, and inputs of another form. Assumes nothing.
use Prim.Native.Nat.{ℕ}
use Rattle.std.specs.Prelude.{None, Some}
use mathlib.Core.Bool.{false, true}
use mathlib.Core.List.{List, [], ◌++◌, ◌∷◌}
use mathlib.Core.Path.{◌≡◌, refl}
use Rattle.text.specs.Fields.{continued, is_digit, value}
use Rattle.text.specs.Pieces.{grown, split}
use Rattle.text.specs.Print.{decimal, digits}
use Rattle.request.specs.Request.{of_fields, of_lines, of_numbers, request}
use Rattle.request.specs.Refusal18.{out_of_range, refused18, wrong, wrong_draws, wrong_n, wrong_seed}

-- the line of three fields
unfoldable line : List ℕ → List ℕ → List ℕ → List ℕ
line n seed draws = n ++ (32 ∷ (seed ++ (32 ∷ (draws ++ (10 ∷ [])))))

unfoldable load : ℕ → ℕ → ℕ → List ℕ
load n seed draws = line (decimal n) (decimal seed) (decimal draws)

-- both sides of each bound of n, of the seed and of the draws
range-examples : (refused18 (load 1 1 1) ≡ true)
    × (refused18 (load 2 1 1) ≡ false)
    × (refused18 (load 4 1 1) ≡ false)
    × (refused18 (load 5 1 1) ≡ true)
    × (refused18 (load 4294967298 1 1) ≡ true)
    × (refused18 (load 2 0 1) ≡ true)
    × (refused18 (load 2 4294967295 1) ≡ false)
    × (refused18 (load 2 4294967296 1) ≡ true)
    × (refused18 (load 2 1 0) ≡ true)
    × (refused18 (load 2 1 400) ≡ false)
    × (refused18 (load 2 1 401) ≡ true)
unfolding load line decimal digits refused18 wrong out_of_range wrong_n wrong_seed wrong_draws request of_lines of_fields of_numbers split grown value continued is_digit
range-examples = (refl, refl, refl, refl, refl, refl, refl, refl, refl, refl, refl)

-- `2 1 1`, which a line feed makes a request
unfoldable bare : List ℕ
bare = 50 ∷ 32 ∷ 49 ∷ 32 ∷ 49 ∷ []

-- ten digits with leading zeros, eleven; no line feed, an empty input, a line feed more, a byte behind the line feed, a carriage return before it,
-- a space more in front, between and behind, and a field less
form_examples : (request (line (48 ∷ 50 ∷ []) (48 ∷ 48 ∷ 48 ∷ 48 ∷ 48 ∷ 48 ∷ 48 ∷ 48 ∷ 48 ∷ 55 ∷ []) (57 ∷ [])) ≡ Some (record { n = 2; seed = 7; draws = 9 }))
    × (request (line (48 ∷ 50 ∷ []) (48 ∷ 48 ∷ 48 ∷ 48 ∷ 48 ∷ 48 ∷ 48 ∷ 48 ∷ 48 ∷ 48 ∷ 55 ∷ []) (57 ∷ [])) ≡ None)
    × (request (bare ++ (10 ∷ [])) ≡ Some (record { n = 2; seed = 1; draws = 1 }))
    × (request bare ≡ None)
    × (request [] ≡ None)
    × (request (bare ++ (10 ∷ 10 ∷ [])) ≡ None)
    × (request (bare ++ (10 ∷ 49 ∷ [])) ≡ None)
    × (request (bare ++ (13 ∷ 10 ∷ [])) ≡ None)
    × (request (32 ∷ (bare ++ (10 ∷ []))) ≡ None)
    × (request (50 ∷ 32 ∷ 32 ∷ 49 ∷ 32 ∷ 49 ∷ 10 ∷ []) ≡ None)
    × (request (bare ++ (32 ∷ 10 ∷ [])) ≡ None)
    × (request (50 ∷ 32 ∷ 49 ∷ 10 ∷ []) ≡ None)
unfolding bare line request of_lines of_fields of_numbers split grown value continued is_digit
form_examples = (refl, refl, refl, refl, refl, refl, refl, refl, refl, refl, refl, refl)
