-- What three wrong calls would hand back, at node 0 of two with cap 2: none of it is sound. By computation. Assumes nothing.
use Prim.Native.Nat.{ℕ}
use mathlib.Core.Bool.{true}
use mathlib.Core.List.{List, [], ◌∷◌}
use mathlib.Core.Path.{◌≡◌, refl}
use lib.ListN.{replicate, set}
use Rattle.frame.specs.Header.{header, own_length}
use Rattle.frame.specs.Refusals.{frame_refusal, wrong_trailer}
use Rattle.holdback.specs.Slots.{frame_in, held_frames, laid, padded, queue_size, slots, zeros}
use Rattle.holdback.specs.WrongQueue.{held_refused, same_bytes, some_refused, wrong_queue}
use Rattle.matrix.specs.Array.{entry}
use Rattle.matrix.specs.Matrix.{column_count, count}
use Rattle.node.specs.Record.{broken_record, node_of}
use Rattle.node.specs.declared.Node.{Node as Record}
use Rattle.rules.specs.Rules.{broken_rules, in_range, within_limit, zero_column, zero_diagonal, zero_from}
use Rattle.soundness.specs.HandedBack.{SoundState}
use Rattle.wire.proofs.Tests.{not-both}
use Rattle.wire.specs.Bytes.{u16_at}
use Rattle.wire.specs.Trailer.{checksum, count_back, has_trailer, sum_back}

-- node 0 with this matrix, having delivered so many frames of node 1, and so many held
abbrev node : List ℕ → ℕ → ℕ → Record
node m delivered held = record { me = 0; n = 2; cap = 2; m = m; deliv = set (replicate 12 0) 1 delivered; held = held }

-- the first frame of node 1 to node 0, with an empty body
abbrev first : List ℕ
first = 1 ∷ 1 ∷ 0 ∷ 0 ∷ 0 ∷ 2 ∷ 2 ∷ 0 ∷ 8 ∷ 0 ∷ 101 ∷ 0 ∷ []

-- an offer of it that counts without laying it: the next offer or deliver would be refused with 4
not-laid : wrong_queue (node_of (node (replicate 144 0) 0 1) []) 1 (zeros queue_size) ≡ true
unfolding wrong_queue same_bytes some_refused held_refused frame_refusal wrong_trailer has_trailer count_back sum_back checksum u16_at held_frames frame_in header
    own_length slots padded zeros
not-laid = refl

pub counts-without_laying : SoundState (node (replicate 144 0) 0 1) (zeros queue_size) → ⊥
counts-without_laying s = not-both (wrong_queue (node_of (node (replicate 144 0) 0 1) []) 1 (zeros queue_size)) not-laid s.not4

-- a deliver of it that leaves the last slot: with 4 too
not_removed : wrong_queue (node_of (node (replicate 144 0) 1 0) []) 0 (laid (first ∷ [])) ≡ true
unfolding wrong_queue same_bytes held_frames slots padded zeros
not_removed = refl

pub leaves_the_last-slot : SoundState (node (replicate 144 0) 1 0) (laid (first ∷ [])) → ⊥
leaves_the_last-slot s = not-both (wrong_queue (node_of (node (replicate 144 0) 1 0) []) 0 (laid (first ∷ []))) not_removed s.not4

-- a send to node 1 that leaves a count in the column of me, in row 1: every further call would be refused with 2
not-zero : broken_record (node (set (replicate 144 0) 12 1) 0 0) ≡ true
unfolding broken_record broken_rules in_range zero_diagonal zero_column within_limit zero_from count column_count entry
not-zero = refl

pub counts_in_its_own-column : SoundState (node (set (replicate 144 0) 12 1) 0 0) (zeros queue_size) → ⊥
counts_in_its_own-column s = not-both (broken_record (node (set (replicate 144 0) 12 1) 0 0)) not-zero s.not2
