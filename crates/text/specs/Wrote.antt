-- What a function that prints leaves of its output.
use Rattle.std.specs.Prelude.{ℕ, ◌+◌, List, ◌≡◌, length}
use Rattle.wire.specs.Bytes.{put}

-- p is written into the output o from `at` on, which makes it o', and ends at `end`
abbrev pub Wrote : (p : List ℕ) (at : ℕ) (o : List ℕ) (end : ℕ) (o' : List ℕ) → Type 0
Wrote p at o end o' = (end ≡ at + length p) × (o' ≡ put o at p)

-- p is the whole of what is written, k bytes from the front of the output on
abbrev pub WroteWhole : (p o : List ℕ) (k : ℕ) (o' : List ℕ) → Type 0
WroteWhole p o k o' = (k ≡ length p) × (o' ≡ put o 0 p)
