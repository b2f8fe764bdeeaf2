-- Frames end to end, as a step issues them: cut by their own e and b they are those frames, and a step's frames fit its output. Assumes nothing.
use Prim.Native.Nat.{◌≤◌, suc, zero, ℕ}
use mathlib.Core.List.{List, [], ◌++◌, ◌∷◌, map}
use mathlib.Core.Path.{◌∙◌, ◌≡◌, ap, ap₂, refl, sym}
use native.Mathlib.Omega.{arith}
use lib.ListN.{length, length-append, take}
use lib.Seq.{drop_at, take_at}
use Rattle.holdback.proofs.Slots.{header_append, own-least}
use Rattle.causality.specs.Demand3.{cut_for, frames_in}
use Rattle.frame.proofs.EntryLists.{length-entries_of}
use Rattle.frame.proofs.Written.{header-encode, length-encode}
use Rattle.frame.specs.Frame.{encode, header_of}
use Rattle.frame.specs.Frames.{frames_of}
use Rattle.frame.specs.Header.{header, own_length}
use Rattle.matrix.specs.Message.{Message}
use Rattle.wire.proofs.Bytes.{put_back}
use Rattle.wire.specs.Bytes.{put as write}

-- a frame's own length
pub own-encode : (m : Message) → own_length (header (encode m)) ≡ length (encode m)
unfolding own_length header_of
own-encode m = rw header-encode (omega (arith, length-encode m, length-entries_of m.entries))

-- one frame is cut off
cut-more : (k : ℕ) (s r : List ℕ) → own_length (header s) ≡ length s → cut_for (suc k) (s ++ r) ≡ s ∷ cut_for k r
unfolding cut_for
cut-more k [] r o = absurd (omega (arith, own-least (header [])))
cut-more k (b ∷ s) r o =
    let e : own_length (header (b ∷ s ++ r)) ≡ length (b ∷ s) = ap own_length (header_append (b ∷ s) r (omega (arith, own-least (header (b ∷ s))))) ∙ o in
    ap₂ (λ (x : List ℕ) (y : List (List ℕ)). x ∷ y) (take_at (b ∷ s) r (own_length (header (b ∷ s ++ r))) (sym e))
    (ap (cut_for k) (drop_at (b ∷ s) r (own_length (header (b ∷ s ++ r))) (sym e)))

cut-none : (k : ℕ) → cut_for k [] ≡ []
unfolding cut_for
cut-none zero = refl
cut-none (suc k) = refl

-- all are
cut_all : (k : ℕ) (l : List Message) → length l ≤ k → cut_for k (frames_of l) ≡ map encode l
unfolding frames_of
cut_all k [] h = cut-none k
cut_all zero (m ∷ l) h = absurd (omega arith)
cut_all (suc k) (m ∷ l) h = cut-more k (encode m) (frames_of l) (own-encode m) ∙ ap (λ (y : List (List ℕ)). encode m ∷ y) (cut_all k l (omega arith))

frames-many : (l : List Message) → length l ≤ length (frames_of l)
unfolding frames_of
frames-many [] = omega arith
frames-many (m ∷ l) = omega (arith, length-append (encode m) (frames_of l), length-encode m, frames-many l)

cut-frames : (l : List Message) → frames_in (frames_of l) ≡ map encode l
cut-frames l = cut_all (length (frames_of l)) l (frames-many l)

-- nothing counted, nothing issued
pub cut-nothing : (out : List ℕ) → frames_in (take 0 out) ≡ []
cut-nothing out = cut-none 0

-- what is written from the front of an output on, and counted, is cut into its frames
pub issued-frames : (out : List ℕ) (l : List Message) → length (frames_of l) ≤ length out
    → frames_in (take (length (frames_of l)) (write out 0 (frames_of l))) ≡ map encode l
issued-frames out l h = ap frames_in (put_back out 0 (frames_of l) (omega arith)) ∙ cut-frames l
