-- A sound frame taken in: its entries learned, its body, and one more count of its sender. Assumes nothing.
use Prim.Native.Nat.{◌*◌, ◌+◌, ◌-◌, ◌<◌, ◌≤◌, suc, ℕ}
use mathlib.Core.List.{List, []}
use mathlib.Core.Path.{◌∙◌, ◌≡◌, ap, refl, sym}
use native.Mathlib.Decide.{ℕ_discrete}
use native.Mathlib.Omega.{arith}
use lib.ListN.{drop, get_or, length, length-drop, length-set, set, take}
use lib.Seq.{ext_get_or, get_or-set_other, get_or-set_same, length-take-le}
use Rattle.arrival.proofs.Arrived.{decode-from}
use Rattle.arrival.proofs.Sound.{readable, sender-below, Inside as Standing}
use Rattle.arrival.specs.CheckedFrame.{CheckedFrame}
use Rattle.frame.proofs.Frames.{frames-nil}
use Rattle.frame.proofs.Lookup.{look_each}
use Rattle.frame.proofs.Passed.{passes_kept}
use Rattle.frame.specs.Entries.{entries_from}
use Rattle.frame.specs.Frame.{decode}
use Rattle.frame.specs.Frames.{frames_of}
use Rattle.frame.specs.Header.{header, kind_byte, kind_of}
use Rattle.frame.specs.declared.header.Header.{Header}
use Rattle.matrix.proofs.Array.{flat_back, vector_list, length_list}
use Rattle.matrix.proofs.Cleared.{Inside}
use Rattle.matrix.proofs.Merged.{merge-back, merge-limit}
use Rattle.matrix.specs.Array.{entry, flat, list_from, vector}
use Rattle.matrix.specs.Matrix.{Matrix, merge}
use Rattle.matrix.specs.Message.{Kind, extra, number, user}
use Rattle.protocol.specs.Deliver.{count_up, learn}
use Rattle.protocol.specs.Trim.{Trimmed, trim_for}
use Rattle.wire.proofs.Bytes.{put-nil}
use Rattle.wire.proofs.Tests.{cond-other, cond_same}
use Rattle.wire.proofs.Trailer.{trailed}
use Rattle.wire.specs.Bytes.{put}
use Rattle.wire.specs.Limits.{max_body, max_count}
use Rattle.node.specs.Record.{node_of}
use Rattle.node.specs.Taken.{Learned, TakenIn, learned}
use Rattle.node.specs.declared.Node.{Node as Record}

-- the entries of a sound frame are zero outside the twelve rows and columns, and keep the limit
module _ (s : List ℕ) (c : CheckedFrame s) where
  abbrev entries : Matrix
  entries = (decode s).entries

  inside-entry_of : (x y : ℕ) → (entries x y ≡ 0 → ⊥) → Standing (record { row = x; column = y; value = entries x y })
  unfolding decode
  inside-entry_of x y h = look_each Standing (entries_from s 0 (header s).e) (readable s (header s) c refl).inside x y h

  entries-inside : Inside (decode s).entries
  entries-inside x y h = go (ℕ_discrete (entries x y) 0)
    where
      go : Dec (entries x y ≡ 0) → entries x y ≡ 0
      go (yes e) = e
      go (no e) = let k = inside-entry_of x y e in absurd (h k.row k.column)

  pub entries-limit : (x y : ℕ) → (decode s).entries x y ≤ max_count
  entries-limit x y = go (ℕ_discrete (entries x y) 0)
    where
      go : Dec (entries x y ≡ 0) → entries x y ≤ max_count
      go (yes e) = omega arith
      go (no e) = (inside-entry_of x y e).most

-- the array after a merge has the merged matrix
merged-back : (s : List ℕ) (j : ℕ) (m m₁ : List ℕ) → CheckedFrame s → m₁ ≡ flat (merge j (entry m) (decode s).entries)
    → entry m₁ ≡ merge j (entry m) (decode s).entries
merged-back s j m m₁ c e = ap entry e ∙ merge-back j m (decode s).entries (entries-inside s c)

pub merged-limit : (s : List ℕ) (j : ℕ) (m m₁ : List ℕ) → CheckedFrame s → ((x y : ℕ) → entry m x y ≤ max_count)
    → m₁ ≡ flat (merge j (entry m) (decode s).entries) → (x y : ℕ) → entry m₁ x y ≤ max_count
merged-limit s j m m₁ c h e x y =
    rw (merged-back s j m m₁ c e) (merge-limit j (entry m) (decode s).entries max_count h (entries-limit s c) x y)

-- an extra frame teaches nothing
pub learn-extra : (r : Record) (out : List ℕ) (e : Matrix) → length r.m ≡ 144 → Learned (learn extra (node_of r []) e) r r out out 0 0
learn-extra r out e l =
    record {
      node = ap (λ (m : List ℕ). record r { m = m }) (sym (flat_back r.m l));
      frames = rw frames-nil (sym (put-nil out 0));
      size = rw frames-nil refl;
      many = refl;
    }

-- a user frame by merge and trim
pub learn-user : (s : List ℕ) (r : Record) (m₁ m₂ out out₁ : List ℕ) (at extras : ℕ) → CheckedFrame s
    → m₁ ≡ flat (merge r.me (entry r.m) (decode s).entries)
    → (let t : Trimmed = trim_for 12 r.me r.n r.cap (entry m₁) in
    (m₂ ≡ flat t.matrix) × (out₁ ≡ put out 0 (frames_of t.extras)) × (at ≡ 0 + length (frames_of t.extras)) × (extras ≡ length t.extras))
    → Learned (learn user (node_of r []) (decode s).entries) r (record r { m = m₂ }) out out₁ at extras
learn-user s r m₁ m₂ out out₁ at extras c e w =
    rw (← merged-back s r.me r.m m₁ c e)
    record { node = ap (λ (m : List ℕ). record r { m = m }) w.0; frames = w.1; size = omega (arith, w.2); many = w.3 }

-- one more count
pub count-up : (v : List ℕ) (from : ℕ) → length v ≡ 12 → from < 12 → set v from (get_or v from 0 + 1) ≡ list_from 0 12 (count_up from (vector v))
count-up v from l h =
    ext_get_or 0 (set v from (get_or v from 0 + 1)) (list_from 0 12 (count_up from (vector v)))
    (length-set v from (get_or v from 0 + 1) ∙ l ∙ sym (length_list 0 12 (count_up from (vector v))))
    (λ i k. let b : i < 12 = omega (arith, length-set v from (get_or v from 0 + 1)) in
    go i (ℕ_discrete i from) ∙ sym (vector_list (count_up from (vector v)) i b))
  where
    go : (i : ℕ) → Dec (i ≡ from) → get_or (set v from (get_or v from 0 + 1)) i 0 ≡ count_up from (vector v) i
    go i (yes e) = rw (e, cond_same from (suc (get_or v from 0)) (get_or v from 0), get_or-set_same v from (get_or v from 0 + 1) 0 (omega arith)) (omega arith)
    go i (no e) = get_or-set_other v from i (get_or v from 0 + 1) 0 e ∙ sym (cond-other i from (suc (get_or v i 0)) (get_or v i 0) e)

-- the body of a sound frame stands inside it, and is short
pub record Bodied (s : List ℕ) (h : Header) : Type 0 where
  pub inside : 8 + 6 * h.e + h.b ≤ length s
  pub short : h.b ≤ max_body
  pub size : length (take h.b (drop (8 + 6 * h.e) s)) ≡ h.b

pub bodied : (s : List ℕ) (h : Header) → CheckedFrame s → h ≡ header s → Bodied s h
bodied s h c e =
    let k = passes_kept c.n s c.passes in
    let b : ℕ = (header s).b in
    let a : ℕ = 8 + 6 * (header s).e in
    let i : a + b ≤ length s = omega (arith, k.size, k.long, (trailed s k.trailer).count) in
    rw e
    record {
      inside = i;
      short = k.short;
      size = length-take-le b (drop a s) (omega (arith, length-drop a s));
    }

-- the part that is copied
pub body-part : (s : List ℕ) (h : Header) → take (8 + 6 * h.e + h.b - (8 + 6 * h.e)) (drop (8 + 6 * h.e) s) ≡ take h.b (drop (8 + 6 * h.e) s)
body-part s h = let e : 8 + 6 * h.e + h.b - (8 + 6 * h.e) ≡ h.b = omega arith in rw e

-- the sender of a sound frame
pub from-below : (s : List ℕ) → CheckedFrame s → (decode s).from < 12
from-below s c = rw (decode-from s (header s) refl) (sender-below s (header s) c refl)

-- what a frame that is taken in leaves
pub taken_in : (s : List ℕ) (h : Header) (kind : Kind) (r r₁ : Record) (out out₁ body body₁ : List ℕ) (tried k at extras : ℕ) → CheckedFrame s → h ≡ header s
    → kind ≡ kind_of h.kind → k ≡ number (decode s) → Learned (learn kind (node_of r []) (decode s).entries) r r₁ out out₁ at extras
    → body₁ ≡ put body 0 (take (8 + 6 * h.e + h.b - (8 + 6 * h.e)) (drop (8 + 6 * h.e) s))
    → TakenIn r s tried out body (record { kind = kind_byte kind; from = h.from; number = k; tried = tried; body = h.b; bytes = at; extras = extras }) r₁ out₁ body₁
unfolding decode
taken_in s h kind r r₁ out out₁ body body₁ tried k at extras c e p q w b =
    let y = bodied s h c e in
    let read : kind ≡ (decode s).kind = p ∙ rw e in
    let same : learn kind (node_of r []) (decode s).entries ≡ learned r s = rw read in
    let text : take h.b (drop (8 + 6 * h.e) s) ≡ (decode s).body = rw e in
    let from : h.from ≡ (decode s).from = rw e in
    let size : h.b ≡ length (decode s).body = sym y.size ∙ ap length text in
    let bytes : at ≡ length (frames_of (learned r s).extras) = w.size ∙ ap (λ (u : Trimmed). length (frames_of u.extras)) same in
    let many : extras ≡ length (learned r s).extras = w.many ∙ ap (λ (u : Trimmed). length u.extras) same in
    record {
      told = λ z. record { kind = kind_byte (read z); from = from z; number = q z; tried = tried; body = size z; bytes = bytes z; extras = many z };
      node = w.node ∙ ap (λ (u : Trimmed). record r { m = flat u.matrix }) same;
      frames = w.frames ∙ ap (λ (u : Trimmed). put out 0 (frames_of u.extras)) same;
      text = b ∙ ap (put body 0) (body-part s h ∙ text);
    }
