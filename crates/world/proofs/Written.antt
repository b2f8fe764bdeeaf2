-- The frames that a call wrote, cut out of the bytes again. Assumes nothing.
use Prim.Native.Nat.{ℕ, zero, suc, ◌≤◌}
use mathlib.Core.List.{List, [], ◌∷◌, ◌++◌}
use mathlib.Core.Path.{◌≡◌, ap, ap₂, ◌∙◌}
use native.Mathlib.Omega.{arith}
use lib.ListN.{length, take, drop, length-map, length-drop, take-append-drop}
use Rattle.wire.proofs.Bytes.{length-put}
use Rattle.matrix.specs.Message.{Message}
use Rattle.frame.specs.Frame.{encode}
use Rattle.frame.specs.Frames.{frames_of}
use Rattle.frame.specs.Header.{header, own_length}
use Rattle.holdback.proofs.Slots.{own-least}
use Rattle.node.proofs.Told.{Wrote}
use Rattle.causality.proofs.Frames.{issued-frames}
use Rattle.causality.specs.Demand3.{cut_for, frames_in}
use Rattle.world.proofs.Logs.{joined-one, joined-none}
use Rattle.world.specs.Stored.{joined}

-- bytes that are cut into frames, joined again
cut-joined : (k : ℕ) (s : List ℕ) → length s ≤ k → joined (cut_for k s) ≡ s
unfolding cut_for
cut-joined zero [] h = joined-none
cut-joined zero (b ∷ s) h = absurd (omega arith)
cut-joined (suc k) [] h = joined-none
cut-joined (suc k) (b ∷ s) h =
    let size : ℕ = own_length (header (b ∷ s)) in
    joined-one (take size (b ∷ s)) (cut_for k (drop size (b ∷ s)))
    ∙ ap (λ (x : List ℕ). take size (b ∷ s) ++ x) (cut-joined k (drop size (b ∷ s)) (omega (arith, length-drop size (b ∷ s), own-least (header (b ∷ s)))))
    ∙ take-append-drop size (b ∷ s)

pub frames-joined : (s : List ℕ) → joined (frames_in s) ≡ s
frames-joined s = cut-joined (length s) s (omega arith)

-- as many frames as messages were issued
pub wrote-frames : {out o : List ℕ} {bytes : ℕ} {l : List Message} → Wrote out o bytes l → length (frames_in (take bytes o)) ≡ length l
wrote-frames {out} {o} {bytes} {l} w =
    ap₂ (λ (x : ℕ) (y : List ℕ). length (frames_in (take x y))) w.size w.frames
    ∙ ap length (issued-frames out l (omega (arith, w.size, w.inside, ap length w.frames, length-put out 0 (frames_of l)))) ∙ length-map l encode
