-- 18 when the line has another form, n is out of range, the seed is 0 or above 32 bits, or the draws are not 1 to 400.
use Rattle.std.specs.Prelude.{ℕ, Bool, ◌||◌, true, List, eqb, ltb, Option, Some, None}
use Rattle.request.specs.Request.{request}
use Rattle.request.specs.declared.Load.{Load}

-- n is out of range, 2 to 4
unfoldable pub wrong_n : ℕ → Bool
wrong_n n = ltb n 2 || ltb 4 n

-- the seed is 0 or above 32 bits, whose largest number is 4,294,967,295
unfoldable pub wrong_seed : ℕ → Bool
wrong_seed seed = eqb seed 0 || ltb 4294967295 seed

-- the draws are not 1 to 400
unfoldable pub wrong_draws : ℕ → Bool
wrong_draws draws = ltb draws 1 || ltb 400 draws

-- one of the three numbers is as it may not be
unfoldable pub out_of_range : ℕ → ℕ → ℕ → Bool
out_of_range n seed draws = wrong_n n || wrong_seed seed || wrong_draws draws

-- a request is refused: one of its numbers is out of range, or the line has another form
unfoldable pub wrong : Option Load → Bool
wrong (Some load) = out_of_range load.n load.seed load.draws
wrong None = true

-- an input is refused, with 18
unfoldable pub refused18 : List ℕ → Bool
refused18 s = wrong (request s)
