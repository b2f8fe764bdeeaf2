-- The held frames tried one after the other, each by a walk over its entries. Assumes nothing.
use Prim.Native.Nat.{◌+◌, ◌-◌, ◌<◌, ◌≤◌, ℕ}
use mathlib.Core.Bool.{Bool, false, true}
use mathlib.Core.List.{List}
use mathlib.Core.Path.{◌∙◌, ◌≡◌, sym}
use native.Mathlib.Nat.{sub-zero}
use Rattle.arrival.proofs.Arrived.{deliverable-walk}
use Rattle.arrival.proofs.Walks.{every_entry}
use Rattle.arrival.specs.CheckedFrame.{CheckedFrame}
use Rattle.arrival.specs.Tests.{ready}
use Rattle.arrival.specs.View.{node_with}
use Rattle.matrix.specs.Array.{vector}
use Rattle.frame.specs.Entries.{entries_from}
use Rattle.frame.specs.Header.{header}
use Rattle.frame.specs.declared.header.Header.{Header}
use Rattle.holdback.proofs.Searched.{first_hit, first-none, first-skip, first-start, first_from}
use Rattle.holdback.specs.Places.{frame_at, place_of}
use Rattle.holdback.specs.Slots.{held_messages}
use Rattle.matrix.specs.Message.{Message}
use Rattle.protocol.specs.Deliver.{search}
use Rattle.protocol.specs.Offer.{deliverable}

-- at slot i the search goes on: what it finds is what it finds from there on
abbrev pub Trying : ℕ → List ℕ → ℕ → List ℕ → ℕ → Type 0
Trying me deliv held q i =
    (n cap : ℕ) (m : List ℕ) (l : List Message)
    → place_of (search (deliverable (node_with me n cap m deliv l)) (held_messages held q)) ≡ first_from (deliverable (node_with me n cap m deliv l)) held q i

-- what it found is place r
abbrev pub Tried : ℕ → List ℕ → ℕ → List ℕ → ℕ → Type 0
Tried me deliv held q r = (n cap : ℕ) (m : List ℕ) (l : List Message) → r ≡ place_of (search (deliverable (node_with me n cap m deliv l)) (held_messages held q))

-- every entry of a frame from entry k on is ready
abbrev pub ready_from : ℕ → List ℕ → List ℕ → ℕ → ℕ → Bool
ready_from me deliv s k e = every_entry (ready me (vector deliv)) (entries_from s k (e - k))

module _ (me : ℕ) (deliv : List ℕ) (held : ℕ) (q : List ℕ) where
  pub try_start : Trying me deliv held q 0
  try_start n cap m l = first-start (deliverable (node_with me n cap m deliv l)) held q

  pub try_none : (i : ℕ) → Trying me deliv held q i → held ≤ i → Tried me deliv held q 0
  try_none i t h n cap m l = sym (t n cap m l ∙ first-none (deliverable (node_with me n cap m deliv l)) held q i h)

  -- the frame in slot i, as it is lent
  module _ (i : ℕ) (h : Header) (s : List ℕ) (t : Trying me deliv held q i) (p : i < held) (f : s ≡ frame_at q i) (c : CheckedFrame s) (e : h ≡ header s) where
    pub try-next : ready_from me deliv s 0 h.e ≡ false → Trying me deliv held q (i + 1)
    try-next w n cap m l =
        t n cap m l
        ∙ first-skip (deliverable (node_with me n cap m deliv l)) held q i p (rw f at (deliverable-walk s h me deliv c e n cap m l ∙ rw sub-zero at w))

    pub try-hit : ready_from me deliv s 0 h.e ≡ true → Tried me deliv held q (i + 1)
    try-hit w n cap m l =
        sym (t n cap m l
        ∙ first_hit (deliverable (node_with me n cap m deliv l)) held q i p (rw f at (deliverable-walk s h me deliv c e n cap m l ∙ rw sub-zero at w)))
