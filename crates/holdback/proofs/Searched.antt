-- The search and the test of check 15, slot by slot, and what the place found tells. Assumes nothing.
use Prim.Native.Nat.{◌*◌, ◌+◌, ◌-◌, ◌<◌, ◌≤◌, suc, zero, ℕ}
use mathlib.Core.Bool.{Bool, cond, false, true}
use mathlib.Core.List.{List, [], ◌∷◌, map}
use mathlib.Core.Path.{◌∙◌, ◌≡◌, ap, refl, sym}
use native.Mathlib.Nat.{sub-zero, zero-add}
use native.Mathlib.Omega.{arith}
use lib.ListN.{drop, get_or}
use Rattle.frame.specs.Frame.{decode}
use Rattle.holdback.proofs.Held.{held-done, held-rest}
use Rattle.holdback.specs.Places.{frame_at, place_of}
use Rattle.holdback.specs.Slots.{held_messages, without}
use Rattle.matrix.specs.Message.{Message}
use Rattle.protocol.specs.Deliver.{Search, absent, found, past, search}
use Rattle.wire.specs.Limits.{max_frame}

-- the place of the first of the messages that passes the test, of which the first has place i + 1
unfoldable pub place_from : (Message → Bool) → ℕ → List Message → ℕ
place_from p i [] = 0
place_from p i (g ∷ l) = cond (p g) (i + 1) (place_from p (i + 1) l)

-- the place that a search found, i places further
abbrev shifted : ℕ → Search → ℕ
shifted i absent = 0
shifted i (found k m others) = i + k

shifted_past : (i : ℕ) (g : Message) (r : Search) → shifted i (past g r) ≡ shifted (i + 1) r
shifted_past i g absent = refl
shifted_past i g (found k m others) = omega arith

place-from : (p : Message → Bool) (i : ℕ) (l : List Message) → place_from p i l ≡ shifted i (search p l)
unfolding place_from
place-from p i [] = refl
place-from p i (g ∷ l) = go (p g) (place-from p (i + 1) l)
  where
    go : (b : Bool) → place_from p (i + 1) l ≡ shifted (i + 1) (search p l)
        → cond b (i + 1) (place_from p (i + 1) l) ≡ shifted i (cond b (found 1 g l) (past g (search p l)))
    go true ih = refl
    go false ih = ih ∙ sym (shifted_past i g (search p l))

shifted_none : (r : Search) → shifted 0 r ≡ place_of r
shifted_none absent = refl
shifted_none (found k m others) = zero-add k

-- the place among the held messages from slot i on
abbrev pub first_from : (Message → Bool) → ℕ → List ℕ → ℕ → ℕ
first_from p held q i = place_from p i (held_messages (held - i) (drop (max_frame * i) q))

module _ (p : Message → Bool) (held : ℕ) (q : List ℕ) where
  pub first-start : place_of (search p (held_messages held q)) ≡ first_from p held q 0
  first-start = sym (rw sub-zero (place-from p 0 (held_messages held q) ∙ shifted_none (search p (held_messages held q))))

  pub first-skip : (i : ℕ) → i < held → p (decode (frame_at q i)) ≡ false → first_from p held q i ≡ first_from p held q (i + 1)
  unfolding place_from
  first-skip i h e = rw (held-rest held i q h, e)

  pub first_hit : (i : ℕ) → i < held → p (decode (frame_at q i)) ≡ true → first_from p held q i ≡ i + 1
  unfolding place_from
  first_hit i h e = rw (held-rest held i q h, e)

  pub first-none : (i : ℕ) → held ≤ i → first_from p held q i ≡ 0
  unfolding place_from
  first-none i h = rw (held-done held i (drop (max_frame * i) q) h)

-- a search that found no place found nothing
pub found_none : (p : Message → Bool) (l : List Message) → place_of (search p l) ≡ 0 → search p l ≡ absent
found_none p [] e = refl
found_none p (g ∷ l) e = go (p g) (search p l) e
  where
    go : (b : Bool) (r : Search) → place_of (cond b (found 1 g l) (past g r)) ≡ 0 → cond b (found 1 g l) (past g r) ≡ absent
    go true r e = absurd (omega arith)
    go false absent e = refl
    go false (found k m others) e = absurd (omega arith)

-- with a place found, the message is that of the frame there, and the others are those of the other frames
pub found_at : (p : Message → Bool) (l : List (List ℕ)) (j : ℕ) → place_of (search p (map decode l)) ≡ suc j
    → search p (map decode l) ≡ found (suc j) (decode (get_or l j [])) (map decode (without j l))
unfolding without
found_at p [] j e = absurd (omega arith)
found_at p (s ∷ l) j e = go (p (decode s)) (search p (map decode l)) j (found_none p (map decode l)) (λ i h. found_at p l i h) e
  where
    go : (b : Bool) (r : Search) (j : ℕ) → (place_of r ≡ 0 → r ≡ absent)
        → ((i : ℕ) → place_of r ≡ suc i → r ≡ found (suc i) (decode (get_or l i [])) (map decode (without i l)))
        → place_of (cond b (found 1 (decode s) (map decode l)) (past (decode s) r)) ≡ suc j
        → cond b (found 1 (decode s) (map decode l)) (past (decode s) r) ≡ found (suc j) (decode (get_or (s ∷ l) j [])) (map decode (without j (s ∷ l)))
    go true r zero nil ih e = refl
    go true r (suc j) nil ih e = absurd (omega arith)
    go false absent j nil ih e = absurd (omega arith)
    go false (found k m others) zero nil ih e =
        let a : found k m others ≡ absent = nil (omega arith) in
        let z : ◌≡◌ {A = ℕ} 0 1 = cc in
        absurd (omega arith)
    go false (found k m others) (suc j) nil ih e = ap (past (decode s)) (ih j (omega arith))
