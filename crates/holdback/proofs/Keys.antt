-- The key of a slot, and the held messages compared by their keys. Assumes nothing.
use Prim.Native.Nat.{◌*◌, ◌+◌, ◌<◌, ◌≤◌, suc, zero, ℕ}
use mathlib.Core.Bool.{Bool, ◌&&◌, ◌||◌, cond, false, not, true}
use mathlib.Core.List.{List, [], ◌∷◌, map}
use mathlib.Core.Path.{◌∙◌, ◌≡◌, ap, refl, sym}
use native.Mathlib.Decide.{ℕ_discrete}
use native.Mathlib.Omega.{arith}
use borrow.Author.Tests.{eq-eqb, ne_eqb}
use lib.Dec.{T, eqb}
use lib.ListN.{drop, length, take}
use Rattle.arrival.proofs.Arrived.{decode-from}
use Rattle.arrival.specs.CheckedFrame.{CheckedFrame}
use Rattle.arrival.specs.View.{arrival_refusal}
use Rattle.frame.proofs.Passed.{passes_kept}
use Rattle.frame.specs.Frame.{decode}
use Rattle.frame.specs.Header.{header, own_length}
use Rattle.frame.specs.Refusals.{frame_refusal}
use Rattle.frame.specs.declared.header.Header.{Header}
use Rattle.holdback.proofs.Checking.{slot-zeros, some_wrong}
use Rattle.holdback.proofs.Held.{frame-kept, header-frame, own-fits}
use Rattle.holdback.specs.WrongQueue.{held_refused, same_bytes, some_alike}
use Rattle.holdback.specs.Slots.{frame_in, held_frames, held_messages, padded}
use Rattle.holdback.specs.Steps.{all_zero, among, key_of, slot_key, some_equal, wrong_slot}
use Rattle.matrix.specs.Message.{Message, number}
use Rattle.protocol.specs.Node.{Node}
use Rattle.protocol.specs.Offer.{same_origin, some_same_origin}
use Rattle.refusal.proofs.Laws.{number-none}
use Rattle.refusal.specs.Numbers.{met}
use Rattle.refusal.specs.Numbers.{number as refusal_number}
use Rattle.refusal.specs.declared.Refusal.{Refusal}
use Rattle.std.proofs.Common.{Some, None, Result, Ok, Err, is_err, is_ok}
use Rattle.wire.proofs.Tests.{is_false, is_true, of_false, or-not}
use Rattle.wire.specs.Limits.{max_frame, max_nodes}

-- a slot, test by test
module _ (d : Node) (slot : List ℕ) (l : length slot ≡ max_frame) where
  abbrev own : ℕ
  own = own_length (header slot)

  abbrev s : List ℕ
  s = frame_in slot

  pub key_refused : held_refused d s ≡ true → slot_key d slot ≡ None
  unfolding slot_key wrong_slot
  key_refused p = rw p

  pub key_long : max_frame < own → slot_key d slot ≡ None
  key_long h = key_refused (is_true (held_refused d s) (decided (held_refused d s) (λ t. omega (arith, h, own-fits d.n slot l (frame-kept d s t).passes))))
    where
      decided : (b : Bool) → (T (not b) → ⊥) → T b
      decided true f = tt
      decided false f = absurd (f tt)

  module _ (h : own ≤ max_frame) (f : held_refused d s ≡ false) where
    slot-test : wrong_slot d slot ≡ not (all_zero (drop own slot))
    unfolding wrong_slot frame_in
    slot-test = rw (f, slot-zeros slot own l h)

    pub key-padding : all_zero (drop own slot) ≡ false → slot_key d slot ≡ None
    unfolding slot_key
    key-padding z = rw (slot-test, z)

    pub key_right : all_zero (drop own slot) ≡ true → slot_key d slot ≡ Some (key_of (decode s))
    unfolding slot_key
    key_right z = rw (slot-test, z)

-- a frame that is judged: its first check refused it, or passed it to the second
module _ (d : Node) (s : List ℕ) where
  pub judged-frame : (why : Refusal) → refusal_number why ≡ frame_refusal d.n s → true ≡ held_refused d s
  unfolding held_refused
  judged-frame why e = rw (ne_eqb (frame_refusal d.n s) 0 (λ z. number-none why (e ∙ z)))

  pub judged-arrival : 0 ≡ frame_refusal d.n s → (r : Result Unit Refusal) → met r ≡ arrival_refusal d (decode s) → is_err r ≡ held_refused d s
  unfolding held_refused
  judged-arrival e (Ok x) f = rw (eq-eqb (frame_refusal d.n s) 0 (sym e), eq-eqb (arrival_refusal d (decode s)) 0 (sym f))
  judged-arrival e (Err why) f =
      rw (eq-eqb (frame_refusal d.n s) 0 (sym e), ne_eqb (arrival_refusal d (decode s)) 0 (λ z. number-none why (f ∙ z)))

-- from and number of a slot's message in one number
pub key_parts : (slot : List ℕ) (h : Header) (k : ℕ) → length slot ≡ max_frame → h ≡ header slot → k ≡ number (decode (frame_in slot))
    → 16 * k + h.from ≡ key_of (decode (frame_in slot))
unfolding key_of
key_parts slot h k l e p = rw (p, decode-from (frame_in slot) h (e ∙ sym (header-frame slot l)))

-- what `ok` tells of a result
pub refused_ok : (r : Result Unit Refusal) → false ≡ is_ok r → is_err r ≡ true
refused_ok (Ok x) e = cc
refused_ok (Err why) e = refl

pub passed_ok : (r : Result Unit Refusal) → true ≡ is_ok r → is_err r ≡ false
passed_ok (Ok x) e = refl
passed_ok (Err why) e = e

-- a slot as the code has it, split behind its frame's own length
pub record SplitSlot (slot front back : List ℕ) (h : Header) (len : ℕ) : Type 0 where
  pub long : length slot ≡ max_frame
  pub heading : h ≡ header slot
  pub own : len ≡ own_length h
  pub fits : len ≤ max_frame
  pub front_is : front ≡ take len slot
  pub back_is : back ≡ drop len slot

-- the code's tests of a slot
pub slot-long : (d : Node) (slot : List ℕ) (h : Header) (len : ℕ) → length slot ≡ max_frame → h ≡ header slot → len ≡ own_length h → max_frame < len
    → None ≡ slot_key d slot
slot-long d slot h len l e own p = sym (key_long d slot l (rw (own, e) at p))

module _ (d : Node) {slot front back : List ℕ} {h : Header} {len : ℕ} (s : SplitSlot slot front back h len) where
  framed : front ≡ frame_in slot
  unfolding frame_in
  framed = s.front_is ∙ rw (s.own, s.heading)

  behind : back ≡ drop (own_length (header slot)) slot
  behind = s.back_is ∙ rw (s.own, s.heading)

  short : own_length (header slot) ≤ max_frame
  short = rw (s.own, s.heading) at s.fits

  pub slot-refused : held_refused d front ≡ true → None ≡ slot_key d slot
  slot-refused r = sym (key_refused d slot s.long (rw framed at r))

  pub slot-padding : held_refused d front ≡ false → all_zero back ≡ false → None ≡ slot_key d slot
  slot-padding r z = sym (key-padding d slot s.long short (rw framed at r) (rw behind at z))

  pub slot-right : held_refused d front ≡ false → all_zero back ≡ true → (k : ℕ) → k ≡ number (decode front) → Some (16 * k + h.from) ≡ slot_key d slot
  slot-right r z k n =
      sym (key_right d slot s.long short (rw framed at r) (rw behind at z)
      ∙ ap Some (sym (key_parts slot h k s.long s.heading (n ∙ ap (λ (x : List ℕ). number (decode x)) framed))))

pub slot-checked : (d : Node) (front : List ℕ) → d.n ≤ max_nodes → held_refused d front ≡ false → CheckedFrame front
slot-checked d front n r = record { n = d.n; few = n; passes = (frame-kept d front (of_false (held_refused d front) r)).passes }

-- what a key tells of its slot
pub key_wrong : (d : Node) (slot : List ℕ) → slot_key d slot ≡ None → wrong_slot d slot ≡ true
unfolding slot_key
key_wrong d slot e = go (wrong_slot d slot) e
  where
    go : (b : Bool) → cond b None (Some (key_of (decode (frame_in slot)))) ≡ None → b ≡ true
    go true e = refl
    go false e = cc

pub key_told : (d : Node) (slot : List ℕ) (k : ℕ) → slot_key d slot ≡ Some k → (wrong_slot d slot ≡ false) × (k ≡ key_of (decode (frame_in slot)))
unfolding slot_key
key_told d slot k p = go (wrong_slot d slot) p
  where
    go : (b : Bool) → cond b None (Some (key_of (decode (frame_in slot)))) ≡ Some k → (b ≡ false) × (k ≡ key_of (decode (frame_in slot)))
    go true p = cc
    go false p = (refl, cc)

-- messages from nodes below 16
abbrev pub SmallFrom : List Message → Type 0
SmallFrom [] = Unit {0}
SmallFrom (m ∷ l) = (m.from < 16) × SmallFrom l

-- their keys are equal where from and number are
key_same : (g m : Message) → g.from < 16 → m.from < 16 → eqb (key_of g) (key_of m) ≡ same_origin g m
unfolding key_of
key_same g m p q = go (ℕ_discrete g.from m.from) (ℕ_discrete (number g) (number m))
  where
    go : Dec (g.from ≡ m.from) → Dec (number g ≡ number m)
        → eqb (16 * number g + g.from) (16 * number m + m.from) ≡ (eqb g.from m.from && eqb (number g) (number m))
    go (yes f) (yes n) =
        rw (eq-eqb g.from m.from f, eq-eqb (number g) (number m) n, eq-eqb (16 * number g + g.from) (16 * number m + m.from) (omega arith))
    go (yes f) (no n) =
        rw (eq-eqb g.from m.from f, ne_eqb (number g) (number m) n, ne_eqb (16 * number g + g.from) (16 * number m + m.from) (λ e. n (omega arith)))
    go (no f) n = rw (ne_eqb g.from m.from f, ne_eqb (16 * number g + g.from) (16 * number m + m.from) (λ e. f (omega arith)))

among_alike : (m : Message) (l : List Message) → m.from < 16 → SmallFrom l → among (key_of m) (map key_of l) ≡ some_same_origin l m
unfolding among
among_alike m [] p w = refl
among_alike m (g ∷ l) p w = rw (key_same g m w.0 p, among_alike m l p w.1)

pub equal_alike : (l : List Message) → SmallFrom l → some_equal (map key_of l) ≡ some_alike l
unfolding some_equal some_alike
equal_alike [] w = refl
equal_alike (m ∷ l) w = rw (among_alike m l w.0 w.1, equal_alike l w.1)

-- messages in slots none of which is wrong are
small_slot : (d : Node) (slot : List ℕ) → d.n ≤ max_nodes → wrong_slot d slot ≡ false → (decode (frame_in slot)).from < 16
unfolding wrong_slot
small_slot d slot h e =
    let s : List ℕ = frame_in slot in
    let t = or-not (held_refused d s) (not (same_bytes slot (padded s))) (of_false (held_refused d s || not (same_bytes slot (padded s))) e) in
    let k = passes_kept d.n s (frame-kept d s t.0).passes in
    omega (arith, k.from, decode-from s (header s) refl)

pub small-held : (d : Node) (held : ℕ) (q : List ℕ) → d.n ≤ max_nodes → T (not (some_wrong d held q)) → SmallFrom (held_messages held q)
unfolding some_wrong held_frames
small-held d zero q h t = tt
small-held d (suc held) q h t =
    let p = or-not (wrong_slot d (take max_frame q)) (some_wrong d held (drop max_frame q)) t in
    (small_slot d (take max_frame q) h (is_false (wrong_slot d (take max_frame q)) p.0), small-held d held (drop max_frame q) h p.1)
