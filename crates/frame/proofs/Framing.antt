-- The parts of a frame, written one after the other, are the frame of its message. Assumes nothing.
use Prim.Native.Nat.{◌*◌, ◌+◌, ◌-◌, ◌<◌, ◌≤◌, ℕ}
use mathlib.Core.List.{List, ◌++◌}
use mathlib.Core.Path.{◌∙◌, ◌≡◌, refl}
use native.Mathlib.Omega.{arith}
use lib.ListN.{drop, length, length-append, take}
use Rattle.frame.proofs.EntryLists.{length-entries, length-entries_of}
use Rattle.frame.specs.Entries.{entries_bytes, entries_of}
use Rattle.frame.specs.Frame.{encode, front, header_of}
use Rattle.frame.specs.Header.{header_bytes}
use Rattle.frame.specs.declared.header.Header.{Header}
use Rattle.frame.specs.declared.write.Address.{Address}
use Rattle.matrix.proofs.Bounds.{only-count}
use Rattle.matrix.specs.Matrix.{Matrix, column_count, count, only}
use Rattle.matrix.specs.Message.{Message, extra_message, user_message}
use Rattle.wire.proofs.Bytes.{put_append}
use Rattle.wire.proofs.Trailer.{put-sealed}
use Rattle.wire.specs.Bytes.{put}
use Rattle.wire.specs.Trailer.{trailer}

pub length-header : (h : Header) → length (header_bytes h) ≡ 8
unfolding header_bytes
length-header h = refl

-- how many bytes stand in front of the trailer
pub front_length : (m : Message) → length (front m) ≡ 8 + 6 * count m.entries + length m.body
unfolding front header_bytes
front_length m = simp (length-append, length-entries, length-entries_of) (omega arith)

-- header, entries and body
pub put_front : (o : List ℕ) (at : ℕ) (m : Message) (o₁ o₂ o₃ : List ℕ) (pos : ℕ) → o₁ ≡ put o at (header_bytes (header_of m))
    → o₂ ≡ put o₁ (at + 8) (entries_bytes (entries_of m.entries))
    → pos ≡ at + 8 + 6 * length (entries_of m.entries) → o₃ ≡ put o₂ pos m.body → o₃ ≡ put o at (front m)
unfolding front
put_front o at m o₁ o₂ o₃ pos p q e r =
    r
    ∙ rw (
      q,
      p,
      e,
      ← length-entries (entries_of m.entries),
      ← put_append (put o at (header_bytes (header_of m))) (at + 8) (entries_bytes (entries_of m.entries)) m.body,
      ← length-header (header_of m),
      ← put_append o at (header_bytes (header_of m)) (entries_bytes (entries_of m.entries) ++ m.body),
    )

-- and the trailer behind them
pub put-frame : (o : List ℕ) (at : ℕ) (m : Message) (o₃ o₄ : List ℕ) (end : ℕ) → o₃ ≡ put o at (front m) → end ≡ at + length (front m) → end + 4 ≤ length o
    → o₄ ≡ put o₃ end (trailer (take (end - at) (drop at o₃))) → o₄ ≡ put o at (encode m)
unfolding encode
put-frame o at m o₃ o₄ end p e h q = q ∙ rw (p, e) (put-sealed o (front m) at (omega arith))

-- the headers that the code makes
pub header-user : (a : Address) (m : Matrix) (body : List ℕ) (e : ℕ) → e ≡ count m
    → record { kind = 1; from = a.from; to = a.to; e = e; b = length body; n = a.n; cap = a.cap; reserved = 0 }
    ≡ header_of (user_message a.from a.to a.n a.cap m body)
unfolding header_of
header-user a m body e p = rw (p, length-entries_of m)

pub header-extra : (a : Address) (m : Matrix) (e : ℕ) → a.to < 12 → e ≡ column_count m a.to
    → record { kind = 2; from = a.from; to = a.to; e = e; b = 0; n = a.n; cap = a.cap; reserved = 0 }
    ≡ header_of (extra_message a.from a.to a.n a.cap m)
unfolding header_of
header-extra a m e h p = rw (p, length-entries_of (only a.to m), only-count m a.to h)
