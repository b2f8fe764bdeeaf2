-- Check 15 slot by slot. Assumes nothing.
use Prim.Native.Nat.{◌*◌, ◌+◌, ◌-◌, ◌<◌, ◌≤◌, ℕ}
use mathlib.Core.Bool.{Bool, false, true}
use mathlib.Core.List.{List}
use mathlib.Core.Path.{◌∙◌, ◌≡◌, sym}
use native.Mathlib.Nat.{sub-zero}
use borrow.Author.Tests.{eq-eqb, ne_eqb}
use lib.Dec.{eqb}
use lib.ListN.{drop}
use Rattle.arrival.proofs.Arrived.{decode-from}
use Rattle.frame.specs.Frame.{decode}
use Rattle.frame.specs.Header.{header}
use Rattle.frame.specs.declared.header.Header.{Header}
use Rattle.holdback.proofs.Held.{held-done, held-rest}
use Rattle.holdback.specs.Places.{frame_at}
use Rattle.holdback.specs.Slots.{held_messages}
use Rattle.matrix.specs.Message.{Message, number}
use Rattle.protocol.specs.Offer.{same_origin, some_same_origin}
use Rattle.wire.specs.Limits.{max_frame}

-- a frame with the from and the number of the message g
pub origin_from : (s : List ℕ) (h : Header) (g : Message) → h ≡ header s → (h.from ≡ g.from → ⊥) → same_origin (decode s) g ≡ false
origin_from s h g e p = let f : (decode s).from ≡ h.from = decode-from s h e in rw (ne_eqb (decode s).from g.from (λ q. p (sym f ∙ q)))

pub origin_number : (s : List ℕ) (h : Header) (g : Message) → h ≡ header s → h.from ≡ g.from → same_origin (decode s) g ≡ eqb (number (decode s)) (number g)
origin_number s h g e p = rw (eq-eqb (decode s).from g.from (decode-from s h e ∙ p))

-- the messages held from slot i on: the one in slot i is the message's, or is passed
abbrev pub alike_from : ℕ → List ℕ → Message → ℕ → Bool
alike_from held q g i = some_same_origin (held_messages (held - i) (drop (max_frame * i) q)) g

module _ (held : ℕ) (q : List ℕ) (g : Message) where
  pub alike_start : alike_from held q g 0 ≡ some_same_origin (held_messages held q) g
  alike_start = rw sub-zero

  pub alike_hit : (i : ℕ) → i < held → same_origin (decode (frame_at q i)) g ≡ true → alike_from held q g i ≡ true
  alike_hit i h e = rw (held-rest held i q h, e)

  pub alike_next : (i : ℕ) → i < held → same_origin (decode (frame_at q i)) g ≡ false → alike_from held q g i ≡ alike_from held q g (i + 1)
  alike_next i h e = rw (held-rest held i q h, e)

  pub alike_end : (i : ℕ) → held ≤ i → alike_from held q g i ≡ false
  alike_end i h = rw (held-done held i (drop (max_frame * i) q) h)
