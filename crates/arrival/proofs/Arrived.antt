-- The protocol's tests of a sound frame's message, as walks over the entries in its bytes. Assumes nothing.
use Prim.Native.Nat.{◌+◌, ◌-◌, ◌<◌, ◌≤◌, suc, ℕ}
use mathlib.Core.Bool.{false, true}
use mathlib.Core.List.{List}
use mathlib.Core.Path.{◌≡◌}
use native.Mathlib.Omega.{arith}
use borrow.Author.Tests.{eq-eqb, le-leb, lt-leb, ne_eqb}
use lib.Dec.{eqb, eqb→eq, ltb, nleb→lt, nltb→le}
use Rattle.arrival.proofs.Sound.{readable}
use Rattle.arrival.proofs.Walks.{claims-walk, every_entry, ready-walk, some_entry}
use Rattle.arrival.specs.CheckedFrame.{CheckedFrame}
use Rattle.arrival.specs.Tests.{exceeds, ready, stands_at}
use Rattle.arrival.specs.View.{arrival_refusal, node_with}
use Rattle.frame.proofs.Checks.{entries-done, entries-rest}
use Rattle.frame.proofs.Lookup.{look_none}
use Rattle.frame.specs.Entries.{entries_from, entry_at, matrix_of}
use Rattle.frame.specs.Frame.{decode}
use Rattle.frame.specs.Header.{header}
use Rattle.frame.specs.declared.entries.Entry.{Entry}
use Rattle.frame.specs.declared.header.Header.{Header}
use Rattle.matrix.specs.Array.{entry, vector}
use Rattle.matrix.specs.Message.{Message, number}
use Rattle.protocol.proofs.Below.{none-some, some-none}
use Rattle.protocol.specs.Node.{Node}
use Rattle.protocol.specs.Offer.{claims_too_much, deliverable, delivered_before, not_for_me}
use Rattle.wire.proofs.Tests.{is_false, le→nltb, not-not, skipped}

-- deliverability: every entry is ready
pub deliverable-walk : (s : List ℕ) (h : Header) (me : ℕ) (deliv : List ℕ) → CheckedFrame s → h ≡ header s → (n cap : ℕ) (m : List ℕ) (held : List Message)
    → deliverable (node_with me n cap m deliv held) (decode s) ≡ every_entry (ready me (vector deliv)) (entries_from s 0 h.e)
unfolding deliverable decode
deliverable-walk s h me deliv c e n cap m held =
    let r = readable s h c e in
    rw (← e) (ready-walk me (vector deliv) (entries_from s 0 h.e) r.inside r.ordered)

-- 13: some entry exceeds the matrix
pub claims-entries : (s : List ℕ) (h : Header) (me : ℕ) (m : List ℕ) → CheckedFrame s → h ≡ header s → (n cap : ℕ) (deliv : List ℕ) (held : List Message)
    → claims_too_much (node_with me n cap m deliv held) (decode s) ≡ some_entry (exceeds me (entry m)) (entries_from s 0 h.e)
unfolding decode
claims-entries s h me m c e n cap deliv held =
    let r = readable s h c e in
    rw (← e) (claims-walk me (entry m) (entries_from s 0 h.e) r.inside r.ordered)

-- the number: the entry looked up
pub number_look : (s : List ℕ) (h : Header) → h ≡ header s → number (decode s) ≡ suc (matrix_of (entries_from s 0 h.e) h.from h.to)
unfolding decode
number_look s h e = rw (← e)

module _ (s : List ℕ) (k e x y : ℕ) (a : Entry) (h : k < e) (q : a ≡ entry_at s k) where
  pub look_found : stands_at x y a ≡ true → matrix_of (entries_from s k (e - k)) x y ≡ a.value
  unfolding matrix_of stands_at
  look_found t = rw (entries-rest s k e h, ← q, t)

  pub look_passed : stands_at x y a ≡ false → matrix_of (entries_from s k (e - k)) x y ≡ matrix_of (entries_from s (k + 1) (e - (k + 1))) x y
  unfolding matrix_of stands_at
  look_passed t = rw (entries-rest s k e h, ← q, t)

pub look_end : (s : List ℕ) (k e x y : ℕ) → e ≤ k → matrix_of (entries_from s k (e - k)) x y ≡ 0
look_end s k e x y h = rw (entries-done s k e h) (look_none x y)

-- 12 to 14, test by test
pub decode-to : (s : List ℕ) (h : Header) → h ≡ header s → (decode s).to ≡ h.to
unfolding decode
decode-to s h e = rw (← e)

pub decode-from : (s : List ℕ) (h : Header) → h ≡ header s → (decode s).from ≡ h.from
unfolding decode
decode-from s h e = rw (← e)

module _ (d : Node) (g : Message) where
  pub arrival_12 : (g.to ≡ d.me → ⊥) → arrival_refusal d g ≡ 12
  unfolding arrival_refusal
  arrival_12 p = rw (ne_eqb g.to d.me p)

  pub arrival_13 : g.to ≡ d.me → claims_too_much d g ≡ true → arrival_refusal d g ≡ 13
  unfolding arrival_refusal
  arrival_13 p t = rw (eq-eqb g.to d.me p, t)

  pub arrival_14 : g.to ≡ d.me → claims_too_much d g ≡ false → number g ≤ d.deliv g.from → arrival_refusal d g ≡ 14
  unfolding arrival_refusal
  arrival_14 p t q = rw (eq-eqb g.to d.me p, t, le-leb (number g) (d.deliv g.from) q)

  pub arrival_none : g.to ≡ d.me → claims_too_much d g ≡ false → d.deliv g.from < number g → arrival_refusal d g ≡ 0
  unfolding arrival_refusal
  arrival_none p t q = rw (eq-eqb g.to d.me p, t, lt-leb (number g) (d.deliv g.from) q)

  -- what a message that meets none of them keeps, and the other way round
  pub record Arrives : Type 0 where
    pub here : g.to ≡ d.me
    pub claims : (y : ℕ) → y < 12 → g.entries d.me y ≤ d.matrix d.me y
    pub new : d.deliv g.from < number g

  pub arrives : arrival_refusal d g ≡ 0 → Arrives
  unfolding arrival_refusal
  arrives e =
      let a = skipped (not_for_me d g) 12 _ (omega arith) e in
      let b = skipped (claims_too_much d g) 13 _ (omega arith) a.1 in
      let c = skipped (delivered_before d g) 14 0 (omega arith) b.1 in
      record {
        here = eqb→eq g.to d.me (not-not (eqb g.to d.me) a.0);
        claims = λ y h. nltb→le (d.matrix d.me y) (g.entries d.me y) (some-none 12 (λ y. ltb (d.matrix d.me y) (g.entries d.me y)) b.0 y h);
        new = nleb→lt (number g) (d.deliv g.from) c.0;
      }

  pub arrives_back : Arrives → arrival_refusal d g ≡ 0
  arrives_back k =
      arrival_none k.here
      (is_false (claims_too_much d g) (none-some 12 (λ y. ltb (d.matrix d.me y) (g.entries d.me y))
      (λ y h. le→nltb (d.matrix d.me y) (g.entries d.me y) (k.claims y h)))) k.new
