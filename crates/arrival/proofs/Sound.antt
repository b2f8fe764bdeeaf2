-- What a sound frame's bytes tell: the header and each entry can be read,
-- each entry stands inside the twelve rows and columns, and the entries rise. Assumes nothing.
use Prim.Native.Nat.{◌*◌, ◌+◌, ◌<◌, ◌≤◌, suc, zero, ℕ}
use mathlib.Core.List.{List}
use mathlib.Core.Path.{◌≡◌, refl}
use native.Mathlib.Nat.{add-zero, zero-add}
use native.Mathlib.Omega.{arith}
use lib.ListN.{length}
use Rattle.arrival.specs.CheckedFrame.{CheckedFrame}
use Rattle.frame.proofs.Lookup.{Each, Ordered, Stands, each_map}
use Rattle.frame.proofs.Passed.{EntryKept, passes_kept}
use Rattle.frame.proofs.Rising.{each-kept, rising-ordered}
use Rattle.frame.specs.Entries.{entries_from, entry_at}
use Rattle.frame.specs.Header.{header}
use Rattle.frame.specs.declared.entries.Entry.{Entry}
use Rattle.frame.specs.declared.header.Header.{Header}
use Rattle.wire.proofs.Trailer.{trailed}
use Rattle.wire.specs.Limits.{max_count}

-- an entry inside the twelve rows and columns, of a value in range
pub record Inside (a : Entry) : Type 0 where
  pub row : a.row < 12
  pub column : a.column < 12
  pub most : a.value ≤ max_count

-- the facts of a sound frame s with the header h
pub record Readable (s : List ℕ) (h : Header) : Type 0 where
  pub long : 12 ≤ length s
  pub room : 12 + 6 * h.e ≤ length s
  pub sender : h.from < 12
  pub inside : Each Inside (entries_from s 0 h.e)
  pub ordered : Ordered 0 (entries_from s 0 h.e)

inside-kept : (n : ℕ) (h : Header) → n ≤ 12 → (a : Entry) → EntryKept n h a → Inside a
inside-kept n h p a k = record { row = omega (arith, k.row); column = omega (arith, k.column); most = k.most }

stands-kept : (n : ℕ) (h : Header) → n ≤ 12 → (a : Entry) → EntryKept n h a → Stands 0 a
stands-kept n h p a k = record { column = omega (arith, k.column); value = λ e. omega (arith, k.least); from = omega arith }

pub readable : (s : List ℕ) (h : Header) → CheckedFrame s → h ≡ header s → Readable s h
readable s h c e =
    let k = passes_kept c.n s c.passes in
    let l = entries_from s 0 (header s).e in
    let each = each-kept c.n (header s) l k.each in
    rw e
    record {
      long = k.long;
      room = omega (arith, k.size, k.long, (trailed s k.trailer).count);
      sender = omega (arith, k.from, c.few);
      inside = each_map (EntryKept c.n (header s)) Inside (inside-kept c.n (header s) c.few) l each;
      ordered = rising-ordered l (each_map (EntryKept c.n (header s)) (Stands 0) (stands-kept c.n (header s) c.few) l each) k.rise;
    }

-- its header can be read, and each of its entries
pub header-room : (s : List ℕ) → CheckedFrame s → 8 ≤ length s
header-room s c = omega (arith, (readable s (header s) c refl).long)

pub entry-room : (s : List ℕ) (h : Header) (k : ℕ) → CheckedFrame s → h ≡ header s → k < h.e → 8 + 6 * k + 6 ≤ length s
entry-room s h k c e l = omega (arith, (readable s h c e).room)

pub sender-below : (s : List ℕ) (h : Header) → CheckedFrame s → h ≡ header s → h.from < 12
sender-below s h c e = (readable s h c e).sender

-- a property of each of the entries is one of entry k
each_at : (P : Entry → Type 0) (s : List ℕ) (r j k : ℕ) → Each P (entries_from s j r) → k < r → P (entry_at s (j + k))
unfolding entries_from
each_at P s zero j k w h = absurd (omega arith)
each_at P s (suc r) j zero w h = rw add-zero w.0
each_at P s (suc r) j (suc k) w h =
    let e : j + suc k ≡ j + 1 + k = omega arith in
    rw e (each_at P s r (j + 1) k w.1 (omega arith))

-- so an entry that was read stands inside
pub inside-read : (s : List ℕ) (h : Header) (k : ℕ) (a : Entry) → CheckedFrame s → h ≡ header s → k < h.e → a ≡ entry_at s k → Inside a
inside-read s h k a c e l p =
    let z : 0 + k ≡ k = zero-add k in
    rw (p, ← z) (each_at Inside s h.e 0 k (readable s h c e).inside l)
