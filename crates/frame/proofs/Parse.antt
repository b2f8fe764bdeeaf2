-- The bytes of a frame and what is read from them: bytes written read back, and what was read, written again, is the same bytes. Assumes nothing.
use Prim.Native.Nat.{◌*◌, ◌+◌, ◌<◌, ◌≤◌, suc, zero, ℕ}
use mathlib.Core.List.{List, [], ◌++◌, ◌∷◌}
use mathlib.Core.Path.{◌∙◌, ◌≡◌, ap, ap₂, refl}
use native.Mathlib.Nat.{add_assoc}
use native.Mathlib.Omega.{arith}
use lib.ListN.{drop, get_or, length, take}
use lib.Seq.{drop-drop, get_or-drop, take-add}
use Rattle.frame.proofs.Lookup.{Each}
use Rattle.frame.specs.Entries.{entries_bytes, entries_from, entry_at, entry_bytes}
use Rattle.frame.specs.Header.{header, header_bytes}
use Rattle.frame.specs.declared.entries.Entry.{Entry}
use Rattle.matrix.proofs.Array.{list_run}
use Rattle.wire.proofs.Bytes.{four-back, four_bytes}
use Rattle.wire.specs.Bytes.{AllBytes, le32, u32_at}

-- the header
pub header-back : (s : List ℕ) → 8 ≤ length s → header_bytes (header s) ≡ take 8 s
unfolding header_bytes header
header-back s h = list_run 8 0 s h

-- an entry, by the bytes t that stand from its place on
entry_read : (s t : List ℕ) (k : ℕ) → drop (8 + 6 * k) s ≡ t
    → entry_at s k ≡ record { row = get_or t 0 0; column = get_or t 1 0; value = get_or t 2 0 + 256 * get_or t 3 0 + 65536 * get_or t 4 0 + 16777216 * get_or t 5 0 }
unfolding entry_at u32_at
entry_read s t k e =
    let value : u32_at s (8 + 6 * k + 2) ≡ get_or t 2 0 + 256 * get_or t 3 0 + 65536 * get_or t 4 0 + 16777216 * get_or t 5 0 = omega (
      arith,
      byte 2 (8 + 6 * k + 2) refl,
      byte 3 (8 + 6 * k + 2 + 1) (omega arith),
      byte 4 (8 + 6 * k + 2 + 2) (omega arith),
      byte 5 (8 + 6 * k + 2 + 3) (omega arith),
    ) in
    λ z. record { row = byte 0 (8 + 6 * k) (omega arith) z; column = byte 1 (8 + 6 * k + 1) refl z; value = value z }
  where
    byte : (i j : ℕ) → j ≡ 8 + 6 * k + i → get_or s j 0 ≡ get_or t i 0
    byte i j p = rw (p, ← e, get_or-drop)

entry_next : (s : List ℕ) (k : ℕ) → drop (8 + 6 * (k + 1)) s ≡ drop 6 (drop (8 + 6 * k) s)
entry_next s k =
    let e : 8 + 6 * (k + 1) ≡ 8 + 6 * k + 6 = omega arith in
    rw (e, drop-drop)

-- entries that stand in a frame are read from it
pub read-entries : (s r : List ℕ) (l : List Entry) (k : ℕ) → Each (λ a. a.value < 4294967296) l
    → drop (8 + 6 * k) s ≡ entries_bytes l ++ r → entries_from s k (length l) ≡ l
unfolding entries_from entries_bytes entry_bytes le32
read-entries s r [] k v e = refl
read-entries s r (a ∷ l) k v e =
    let first : entry_at s k ≡ a = entry_read s (entry_bytes a ++ entries_bytes l ++ r) k e
    ∙ ap (λ (x : ℕ). record { row = a.row; column = a.column; value = x }) (four_bytes a.value v.0) in
    ap₂ ◌∷◌ first (read-entries s r l (k + 1) v.1 (entry_next s k ∙ ap (drop 6) e))

-- an entry that was read has the bytes that it was read from
entry-again : (s : List ℕ) (k : ℕ) → AllBytes s → 8 + 6 * k + 6 ≤ length s → entry_bytes (entry_at s k) ≡ take 6 (drop (8 + 6 * k) s)
unfolding entry_bytes entry_at u32_at
entry-again s k b h =
    rw (four-back (get_or s (8 + 6 * k + 2) 0) (get_or s (8 + 6 * k + 2 + 1) 0) (get_or s (8 + 6 * k + 2 + 2) 0) (get_or s (8 + 6 * k + 2 + 3) 0) (b (8 + 6 * k + 2))
    (b (8 + 6 * k + 2 + 1)) (b (8 + 6 * k + 2 + 2)) (b (8 + 6 * k + 2 + 3))) (simp add_assoc (simp add_assoc at (list_run 6 (8 + 6 * k) s h)))

-- entries that were read have the bytes that they were read from
pub entries-again : (s : List ℕ) (r k : ℕ) → AllBytes s → 8 + 6 * k + 6 * r ≤ length s → entries_bytes (entries_from s k r) ≡ take (6 * r) (drop (8 + 6 * k) s)
unfolding entries_from entries_bytes
entries-again s zero k b h = refl
entries-again s (suc r) k b h =
    let e : 6 * suc r ≡ 6 + 6 * r = omega arith in
    rw (e, take-add 6 (6 * r) (drop (8 + 6 * k) s), entry-again s k b (omega arith), ← entry_next s k, entries-again s r (k + 1) b (omega arith))

pub length_from : (s : List ℕ) (r k : ℕ) → length (entries_from s k r) ≡ r
unfolding entries_from
length_from s zero k = refl
length_from s (suc r) k = ap suc (length_from s r (k + 1))
