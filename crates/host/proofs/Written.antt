-- An answer is written one field after the other. Assumes nothing.
use Prim.Native.Nat.{◌+◌, ℕ}
use mathlib.Core.List.{List, ◌∷◌}
use mathlib.Core.Path.{◌∙◌, ◌≡◌, ap, sym}
use lib.ListN.{set}
use Rattle.wire.proofs.Bytes.{length-le32, length-put, put_append}
use Rattle.wire.specs.Bytes.{le16, le32, put}
use Rattle.host.specs.Exports.{answer_bytes}

-- the answer's eleven bytes, one field after the other
pub answer_written : (s : List ℕ) (kind from number tried body extras bytes : ℕ)
    → put (set (set (set (put (set (set s 0 kind) 1 from) 2 (le32 number)) 6 tried) 7 body) 8 extras) 9 (le16 bytes)
    ≡ put s 0 (answer_bytes kind from number tried body extras bytes)
unfolding put answer_bytes
answer_written s kind from number tried body extras bytes =
    let o : List ℕ = set (set s 0 kind) 1 from in
    let rest : List ℕ = tried ∷ body ∷ extras ∷ le16 bytes in
    sym (put_append o 2 (le32 number) rest ∙ ap (λ (k : ℕ). put (put o 2 (le32 number)) (2 + k) rest) (length-le32 number))

-- what writing an answer cites
pub ruleset writing = (length-put, answer_written)
