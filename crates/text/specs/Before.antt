-- Where the first byte c of a text stands.
use Rattle.std.specs.Prelude.{ℕ, suc, cond, List, [], ◌∷◌, eqb}

-- how many bytes of s stand before the first c: all of them where there is none
unfoldable pub before : ℕ → List ℕ → ℕ
before c [] = 0
before c (b ∷ s) = cond (eqb b c) 0 (suc (before c s))
