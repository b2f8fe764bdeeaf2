-- A sound message's frame: its length, its bytes, that it meets no refusal, and that it reads back as the message. Assumes nothing.
use Prim.Native.Nat.{◌*◌, ◌+◌, ◌<◌, ◌≤◌, suc, zero, ℕ}
use mathlib.Core.List.{List, [], ◌++◌, ◌∷◌, append_assoc}
use mathlib.Core.Logic.{◌⊎◌, inl, inr}
use mathlib.Core.Path.{◌≡◌, ap, refl}
use native.Mathlib.Omega.{arith}
use lib.ListN.{drop, length, take}
use lib.Seq.{drop_at, drop-drop, take-append_seam}
use Rattle.frame.proofs.EntryLists.{length-entries, length-entries_of}
use Rattle.frame.proofs.Framing.{front_length}
use Rattle.frame.proofs.Lookup.{Each, each-entries, each_map, entries-ordered, look_entries}
use Rattle.frame.proofs.Parse.{read-entries}
use Rattle.frame.proofs.Passed.{EntryKept, Kept, kept-passes}
use Rattle.frame.proofs.Rising.{kept-each, ordered-rising}
use Rattle.frame.specs.Entries.{entries_bytes, entries_from, entries_of, entry_bytes, matrix_of}
use Rattle.frame.specs.Frame.{decode, encode, front, header_of}
use Rattle.frame.specs.Header.{header, header_bytes, kind_byte, kind_of}
use Rattle.frame.specs.Refusals.{frame_refusal}
use Rattle.frame.specs.RoundTrip.{SoundFrame}
use Rattle.frame.specs.declared.entries.Entry.{Entry}
use Rattle.matrix.proofs.Bounds.{cap-most, count_121}
use Rattle.matrix.specs.Matrix.{count}
use Rattle.matrix.specs.Message.{Kind, Message, Sound, extra, user}
use Rattle.wire.proofs.Bytes.{bytes_append, small_bytes}
use Rattle.wire.proofs.Trailer.{bytes-sealed, length-sealed, sealed-count, sealed_has}
use Rattle.wire.specs.Bytes.{AllBytes, le32}
use Rattle.wire.specs.Limits.{max_frame}
use Rattle.wire.specs.Trailer.{sealed, trailer}

-- the kind and its byte
kind-back : (k : Kind) → kind_of (kind_byte k) ≡ k
kind-back user = refl
kind-back extra = refl

kind_byte_lem : (k : Kind) → (kind_byte k ≡ 1) ⊎ (kind_byte k ≡ 2)
kind_byte_lem user = inl refl
kind_byte_lem extra = inr refl

kind-two : (k : Kind) → kind_byte k ≡ 2 → k ≡ extra
kind-two user e = absurd (omega arith)
kind-two extra e = refl

kind-small : (k : Kind) → kind_byte k ≤ 2
kind-small user = omega arith
kind-small extra = omega arith

-- entries are made of bytes
bytes-entry : (a : Entry) → a.row < 12 → a.column < 12 → AllBytes (entry_bytes a)
unfolding entry_bytes le32
bytes-entry a h k = small_bytes (entry_bytes a) (omega arith)

bytes-entries : (l : List Entry) → Each (λ a. (a.row < 12) × (a.column < 12)) l → AllBytes (entries_bytes l)
unfolding entries_bytes
bytes-entries [] e = small_bytes [] tt
bytes-entries (a ∷ l) e = bytes_append (entry_bytes a) (entries_bytes l) (bytes-entry a e.0.0 e.0.1) (bytes-entries l e.1)

-- the parts of a frame
pub header-encode : (m : Message) → header (encode m) ≡ header_of m
unfolding header encode sealed front header_bytes
header-encode m = refl

pub length-encode : (m : Message) → length (encode m) ≡ 12 + 6 * count m.entries + length m.body
unfolding encode
length-encode m = omega (arith, length-sealed (front m), front_length m)

entries-encode : (m : Message) → drop 8 (encode m) ≡ entries_bytes (entries_of m.entries) ++ (m.body ++ trailer (front m))
unfolding encode sealed front header_bytes
entries-encode m = append_assoc (entries_bytes (entries_of m.entries)) m.body (trailer (front m))

body-encode : (m : Message) → take (length m.body) (drop (8 + 6 * length (entries_of m.entries)) (encode m)) ≡ m.body
body-encode m =
    let l = entries_of m.entries in
    rw (
      ← drop-drop (6 * length l) 8 (encode m),
      entries-encode m,
      drop_at (entries_bytes l) (m.body ++ trailer (front m)) (6 * length l) (length-entries l),
      take-append_seam,
    )

-- a number that is not other than zero is zero (general law)
zero_stable : (v : ℕ) → ((v ≡ 0 → ⊥) → ⊥) → v ≡ 0
zero_stable zero h = refl
zero_stable (suc v) h = absurd (h (λ e. omega arith))

-- a sound message
module _ (m : Message) (s : Sound m) where
  outside : (x y : ℕ) → (x < 12 → y < 12 → ⊥) → m.entries x y ≡ 0
  outside x y h =
      zero_stable (m.entries x y) (λ e. let q = s.entries x y e in
      h (omega (arith, q.row, s.range.at_most12)) (omega (arith, q.column, s.range.at_most12)))

  pub few_121 : count m.entries ≤ 121
  few_121 =
      count_121 m.from m.entries (omega (arith, s.from, s.range.at_most12))
      (λ x. zero_stable (m.entries x x) (λ e. (s.entries x x e).apart refl))
      (λ x. zero_stable (m.entries x m.from) (λ e. (s.entries x m.from e).not_from refl))

  pub encode-most : length (encode m) ≤ max_frame
  encode-most = omega (arith, length-encode m, few_121, s.short)

  -- its entries keep the rules
  entry-rules : (x y : ℕ) → (m.entries x y ≡ 0 → ⊥) → EntryKept m.n (header_of m) (record { row = x; column = y; value = m.entries x y })
  unfolding header_of
  entry-rules x y e =
      let q = s.entries x y e in
      record {
        row = q.row;
        column = q.column;
        apart = q.apart;
        not_from = q.not_from;
        least = omega arith;
        most = q.value;
        extra_to = λ k. q.extra_to (kind-two m.kind k);
      }

  rules : Each (EntryKept m.n (header_of m)) (entries_of m.entries)
  rules = each-entries (EntryKept m.n (header_of m)) m.entries entry-rules

  -- and are read back
  entries-read : entries_from (encode m) 0 (length (entries_of m.entries)) ≡ entries_of m.entries
  entries-read =
      read-entries (encode m) (m.body ++ trailer (front m)) (entries_of m.entries) 0
      (each_map (EntryKept m.n (header_of m)) (λ a. a.value < 4294967296) (λ a k. omega (arith, k.most)) (entries_of m.entries) rules)
      (entries-encode m)

  pub decode-encode : decode (encode m) ≡ m
  unfolding decode header encode sealed front header_bytes header_of
  decode-encode =
      let entries : matrix_of (entries_from (encode m) 0 (length (entries_of m.entries))) ≡ m.entries = rw entries-read (look_entries m.entries outside) in
      λ z. record { kind = kind-back m.kind z; from = m.from; to = m.to; n = m.n; cap = m.cap; entries = entries z; body = body-encode m z }

  -- it is made of bytes, and meets no refusal
  encode-bytes : AllBytes (encode m)
  unfolding encode front header_bytes header_of
  encode-bytes =
      bytes-sealed (front m) (bytes_append (header_bytes (header_of m)) (entries_bytes (entries_of m.entries) ++ m.body) header-bytes
      (bytes_append (entries_bytes (entries_of m.entries)) m.body entry-bytes s.bytes))
    where
      entry-bytes : AllBytes (entries_bytes (entries_of m.entries))
      entry-bytes =
          bytes-entries (entries_of m.entries)
          (each_map (EntryKept m.n (header_of m)) (λ a. (a.row < 12) × (a.column < 12))
          (λ a k. (omega (arith, k.row, s.range.at_most12), omega (arith, k.column, s.range.at_most12))) (entries_of m.entries) rules)

      header-bytes : AllBytes (header_bytes (header_of m))
      header-bytes =
          small_bytes (header_bytes (header_of m)) (omega (
            arith,
            cap-most m.n m.cap s.range,
            few_121,
            length-entries_of m.entries,
            kind-small m.kind,
          ))

  front-short : length (front m) < 65536
  front-short = omega (arith, front_length m, few_121, s.short)

  encode-kept : Kept m.n (encode m) (header_of m) (entries_of m.entries)
  unfolding header_of encode
  encode-kept =
      record {
        long = omega (arith, length-encode m);
        most = encode-most;
        trailer = sealed_has (front m) front-short;
        kind = kind_byte_lem m.kind;
        reserved = refl;
        same_n = refl;
        cap_from = s.range.cap_from;
        cap_to = s.range.cap_to;
        from = s.from;
        to = s.to;
        apart = s.apart;
        size = omega (arith, length-entries_of m.entries, front_length m, sealed-count (front m) front-short);
        short = s.short;
        bare = λ k. ap length (s.bare (kind-two m.kind k));
        few = rw length-entries_of s.few;
        each = kept-each m.n (header_of m) (entries_of m.entries) rules;
        rise = ordered-rising 0 (entries_of m.entries) (entries-ordered m.entries);
      }

  encode-passes : frame_refusal m.n (encode m) ≡ 0
  unfolding header_of
  encode-passes = kept-passes m.n (encode m) (rw (header-encode m, entries-read) encode-kept)

  pub encode-sound : SoundFrame m.n (encode m)
  encode-sound = record { at_least2 = s.range.at_least2; at_most12 = s.range.at_most12; bytes = encode-bytes; passes = encode-passes }
