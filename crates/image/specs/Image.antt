-- The image of a record: its fields in document 02 (vi)'s order, and behind them a trailer of the frame's kind, which is `wire`'s.
use Rattle.std.specs.Prelude.{ℕ, zero, suc, ◌+◌, Bool, false, true, not, ◌||◌, List, [], ◌∷◌, ◌++◌, ◌≡◌, eqb, get_or, length}
use Rattle.wire.specs.Bytes.{AllBytes, le32, u32_at}
use Rattle.wire.specs.Trailer.{sealed, has_trailer}
use Rattle.wire.specs.Exchange.{Unequal, exchanged}
use Rattle.node.specs.declared.Node.{Node as Record}
use Rattle.node.specs.Record.{broken_record}

-- bytes of an image: 628 of fields, and four of the trailer
abbrev pub image_size : ℕ
image_size = 632

-- ---- written

-- numbers of four bytes each, end to end
unfoldable pub fields : List ℕ → List ℕ
fields [] = []
fields (v ∷ l) = le32 v ++ fields l

-- the fields of a record: me, n and cap, one byte each; M in rows of twelve; DELIV; held, one byte
unfoldable pub record_fields : Record → List ℕ
record_fields r = r.me ∷ r.n ∷ r.cap ∷ (fields r.m ++ (fields r.deliv ++ (r.held ∷ [])))

-- the image: the fields, the count 628, and the sum over the 630 bytes in front of it, each times one more than its offset
unfoldable pub image : Record → List ℕ
image r = sealed (record_fields r)

-- ---- read

-- the k numbers of four bytes that stand from place `at` on
unfoldable pub numbers_at : List ℕ → ℕ → ℕ → List ℕ
numbers_at s at zero = []
numbers_at s at (suc k) = u32_at s at ∷ numbers_at s (at + 4) k

-- the record that the fields in front read as
unfoldable pub record_in : List ℕ → Record
record_in s =
    record {
      me = get_or s 0 0;
      n = get_or s 1 0;
      cap = get_or s 2 0;
      m = numbers_at s 3 144;
      deliv = numbers_at s 579 12;
      held = get_or s 627 0;
    }

-- 20. An image has another length, a bad trailer or a record that meets 2.
unfoldable pub bad_image : List ℕ → Bool
bad_image s = not (eqb (length s) image_size) || not (has_trailer s) || broken_record (record_in s)

-- ---- sound records and sound images

-- a sound record: its arrays have their lengths, and it meets no breach of a record rule
pub record SoundRecord (r : Record) : Type 0 where
  pub cells : length r.m ≡ 144
  pub senders : length r.deliv ≡ 12
  pub rules : broken_record r ≡ false

-- a sound image: bytes that do not meet 20
pub record SoundImage (s : List ℕ) : Type 0 where
  pub bytes : AllBytes s
  pub good : bad_image s ≡ false

-- written: the image of a sound record is sound; back: and reads as that record
-- read: the record of a sound image is sound; spelled: a sound image read and written again is the same bytes
-- one: two sound images of one record are the same bytes
-- exchange: a sound image with any two unequal neighbours exchanged meets 20 (document 02, (ix))
pub record ImageLaws : Type 0 where
  pub written : (r : Record) → SoundRecord r → SoundImage (image r)
  pub back : (r : Record) → SoundRecord r → record_in (image r) ≡ r
  pub read : (s : List ℕ) → SoundImage s → SoundRecord (record_in s)
  pub spelled : (s : List ℕ) → SoundImage s → image (record_in s) ≡ s
  pub one : (s t : List ℕ) → SoundImage s → SoundImage t → record_in s ≡ record_in t → s ≡ t
  pub exchange : (s : List ℕ) → SoundImage s → (k : ℕ) → Unequal s k → bad_image (exchanged s k) ≡ true
