-- What a sound frame reads as: a sound message, whose frame is the same bytes. Assumes nothing.
use Prim.Native.Nat.{◌*◌, ◌+◌, ◌-◌, ◌<◌, ◌≤◌, ℕ}
use mathlib.Core.List.{List, append_assoc}
use mathlib.Core.Logic.{◌⊎◌, inl, inr}
use mathlib.Core.Path.{◌∙◌, ◌≡◌, ap, sym}
use native.Mathlib.Omega.{arith}
use lib.ListN.{drop, length, length-drop, take}
use lib.Seq.{length-take-le, take-add}
use Rattle.frame.proofs.EntryLists.{length-entries_of}
use Rattle.frame.proofs.Lookup.{Each, Stands, each_map, entries-back, look_each, place}
use Rattle.frame.proofs.Parse.{entries-again, header-back, length_from}
use Rattle.frame.proofs.Passed.{EntryKept, Kept, passes_kept}
use Rattle.frame.proofs.Rising.{each-kept, rising-ordered}
use Rattle.frame.specs.Entries.{entries_from, entries_of, matrix_of}
use Rattle.frame.specs.Frame.{decode, encode, front, header_of}
use Rattle.frame.specs.Header.{header, kind_byte, kind_of}
use Rattle.frame.specs.RoundTrip.{SoundFrame}
use Rattle.frame.specs.declared.entries.Entry.{Entry}
use Rattle.frame.specs.declared.header.Header.{Header}
use Rattle.matrix.specs.Message.{Sound, SoundEntry, extra, user}
use Rattle.wire.proofs.Bytes.{bytes_drop, bytes_take}
use Rattle.wire.proofs.Trailer.{has_sealed, trailed}

-- the byte of a kind
pub kind-again : (b : ℕ) → (b ≡ 1) ⊎ (b ≡ 2) → kind_byte (kind_of b) ≡ b
kind-again b (inl e) = rw e
kind-again b (inr e) = rw e

kind-extra : (b : ℕ) → (b ≡ 1) ⊎ (b ≡ 2) → kind_of b ≡ extra → b ≡ 2
kind-extra b (inl e) x =
    let u : user ≡ extra = rw e at x in
    let z : ◌≡◌ {A = ℕ} 0 1 = cc in
    absurd (omega arith)
kind-extra b (inr e) x = e

module _ (n : ℕ) (s : List ℕ) (f : SoundFrame n s) where
  abbrev h : Header
  h = header s

  abbrev l : List Entry
  l = entries_from s 0 h.e

  abbrev k : Kept n s (header s) (entries_from s 0 (header s).e)
  k = passes_kept n s f.passes

  -- its entries are those of its matrix
  rules : Each (EntryKept n h) l
  rules = each-kept n h l k.each

  back : entries_of (matrix_of l) ≡ l
  back =
      entries-back l (rising-ordered l (each_map (EntryKept n h) (Stands 0) stands l rules) k.rise)
      (each_map (EntryKept n h) (λ a. place a < 144) inside l rules)
    where
      stands : (a : Entry) → EntryKept n h a → Stands 0 a
      stands a q = record { column = omega (arith, q.column, f.at_most12); value = omega (arith, q.least); from = omega arith }

      inside : (a : Entry) → EntryKept n h a → place a < 144
      inside a q = omega (arith, q.row, q.column, f.at_most12)

  entry-count : length (entries_of (matrix_of l)) ≡ h.e
  entry-count = ap length back ∙ length_from s h.e 0

  -- its body stands between the entries and the trailer
  size : 8 + 6 * h.e + h.b ≡ length s - 4
  size = k.size ∙ (trailed s k.trailer).count

  body-length : length (take h.b (drop (8 + 6 * h.e) s)) ≡ h.b
  body-length = length-take-le h.b (drop (8 + 6 * h.e) s) (rw length-drop (omega (arith, size, k.long)))

  -- the message is sound
  pub decode-sound : Sound (decode s)
  unfolding decode
  decode-sound =
      record {
        range = rw k.same_n (record { at_least2 = f.at_least2; at_most12 = f.at_most12; cap_from = k.cap_from; cap_to = k.cap_to });
        from = rw k.same_n k.from;
        to = rw k.same_n k.to;
        apart = k.apart;
        entries = λ x y e. entry x y (look_each (EntryKept n h) l rules x y e);
        few = rw (← length-entries_of (matrix_of l), entry-count) k.few;
        short = rw body-length k.short;
        bare = λ e. rw (k.bare (kind-extra h.kind k.kind e));
        bytes = bytes_take h.b (drop (8 + 6 * h.e) s) (bytes_drop (8 + 6 * h.e) s f.bytes);
      }
    where
      entry : (x y : ℕ) → EntryKept n h (record { row = x; column = y; value = matrix_of l x y }) → SoundEntry (decode s) x y
      entry x y q =
          record {
            row = rw k.same_n q.row;
            column = rw k.same_n q.column;
            apart = q.apart;
            not_from = q.not_from;
            value = q.most;
            extra_to = λ e. q.extra_to (kind-extra h.kind k.kind e);
          }

  pub decode-same : (decode s).n ≡ n
  unfolding decode
  decode-same = k.same_n

  -- written again, its parts are the parts of the frame
  header-again : header_of (decode s) ≡ header s
  unfolding header_of decode
  header-again =
      let reserved : 0 ≡ h.reserved = sym k.reserved in
      λ z. record {
        kind = kind-again h.kind k.kind z;
        from = h.from;
        to = h.to;
        e = entry-count z;
        b = body-length z;
        n = h.n;
        cap = h.cap;
        reserved = reserved z;
      }

  front-again : front (decode s) ≡ take (length s - 4) s
  unfolding front decode
  front-again =
      let e : 8 ≤ length s = omega (arith, k.long) in
      let q : 8 + 6 * h.e ≤ length s = omega (arith, size) in
      rw (
        header-again,
        header-back s e,
        back,
        entries-again s h.e 0 f.bytes q,
        ← size,
        take-add (8 + 6 * h.e) h.b s,
        take-add 8 (6 * h.e) s,
        append_assoc,
      )

  pub encode-decode : encode (decode s) ≡ s
  unfolding encode
  encode-decode = rw front-again (sym (has_sealed s f.bytes k.trailer))
