-- How an image is written, one field after the other over other bytes and then the trailer. Assumes nothing.
use Prim.Native.Nat.{◌+◌, ◌-◌, ◌≤◌, ℕ}
use mathlib.Core.List.{List, [], ◌++◌, ◌∷◌, append_assoc, append-nil}
use mathlib.Core.Path.{◌∙◌, ◌≡◌, ap, refl, sym}
use native.Mathlib.Omega.{arith}
use lib.ListN.{drop, length, length-append, length-drop, replicate, set, take}
use lib.Seq.{drop_at, take_at}
use Rattle.wire.proofs.Bytes.{put-eq}
use Rattle.wire.proofs.Trailer.{length-trailer}
use Rattle.wire.specs.Bytes.{AllBytes, le32, put}
use Rattle.wire.specs.Trailer.{sealed, trailer}
use Rattle.node.specs.SetUp.{fresh_record}
use Rattle.node.specs.declared.Node.{Node as Record}
use Rattle.image.proofs.Images.{fields_then, length_record, rest-fields}
use Rattle.image.proofs.Numbers.{length_fields}
use Rattle.image.proofs.Reading.{record_cells, record_senders}
use Rattle.image.specs.Image.{fields, image, image_size, record_fields, record_in}
use Rattle.image.specs.Stores.{with_held, with_matrix, with_vector}

-- bytes written over as many others, between what stands in front and behind
put_over : (p x y t : List ℕ) (k : ℕ) → length p ≡ k → length y ≡ length x → put (p ++ (x ++ t)) k y ≡ p ++ (y ++ t)
put_over p x y t k e h =
    let o : List ℕ = p ++ (x ++ t) in
    let fits : k + length y ≤ length o = omega (arith, length-append p (x ++ t), length-append x t) in
    let behind : drop (k + length y) o ≡ t
    = ap (drop (k + length y)) (sym (append_assoc p x t)) ∙ drop_at (p ++ x) t (k + length y) (omega (arith, length-append p x)) in
    put-eq o k y fits ∙ rw (take_at p (x ++ t) k e, behind)

-- the fields of r stand in s, with four more bytes behind
pub record Laid (r : Record) (s : List ℕ) : Type 0 where
  pub cells : length r.m ≡ 144
  pub senders : length r.deliv ≡ 12
  pub tail : List ℕ
  pub four : length tail ≡ 4
  pub same : s ≡ r.me ∷ r.n ∷ r.cap ∷ (fields r.m ++ (fields r.deliv ++ (r.held ∷ tail)))

pub laid_as : {r : Record} {s t : List ℕ} → t ≡ s → Laid r s → Laid r t
laid_as e l = record { cells = l.cells; senders = l.senders; tail = l.tail; four = l.four; same = e ∙ l.same }

-- they do in any bytes of an image's length
pub laid-read : (s : List ℕ) → AllBytes s → length s ≡ image_size → Laid (record_in s) s
laid-read s b h =
    record {
      cells = record_cells s;
      senders = record_senders s;
      tail = drop 628 s;
      four = omega (arith, length-drop 628 s);
      same = rest-fields s b (omega arith) ∙ fields_then (record_in s) (drop 628 s);
    }

-- and those of the all-zero record in 632 zeros
pub laid-zeros : Laid (fresh_record 0 0 0) (replicate 632 0)
unfolding fields le32
laid-zeros = record { cells = refl; senders = refl; tail = replicate 4 0; four = refl; same = refl }

module _ (r : Record) (s : List ℕ) (l : Laid r s) where
  abbrev behind : List ℕ
  behind = fields r.deliv ++ (r.held ∷ l.tail)

  pub laid-front : (me n cap : ℕ)
      → Laid (record { me = me; n = n; cap = cap; m = r.m; deliv = r.deliv; held = r.held }) (set (set (set s 0 me) 1 n) 2 cap)
  laid-front me n cap =
      record {
        cells = l.cells;
        senders = l.senders;
        tail = l.tail;
        four = l.four;
        same = ap (λ (x : List ℕ). set (set (set x 0 me) 1 n) 2 cap) l.same;
      }

  pub laid-matrix : (m : List ℕ) → length m ≡ 144 → Laid (with_matrix m r) (put s 3 (fields m))
  laid-matrix m h =
      record {
        cells = h;
        senders = l.senders;
        tail = l.tail;
        four = l.four;
        same =
            ap (λ (x : List ℕ). put x 3 (fields m)) l.same
            ∙ put_over (r.me ∷ r.n ∷ r.cap ∷ []) (fields r.m) (fields m) behind 3 (omega arith)
            (omega (arith, length_fields m, length_fields r.m, l.cells));
      }

  pub laid-vector : (v : List ℕ) → length v ≡ 12 → Laid (with_vector v r) (put s 579 (fields v))
  laid-vector v h =
      record {
        cells = l.cells;
        senders = h;
        tail = l.tail;
        four = l.four;
        same =
            ap (λ (x : List ℕ). put x 579 (fields v)) l.same
            ∙ put_over (r.me ∷ r.n ∷ r.cap ∷ fields r.m) (fields r.deliv) (fields v) (r.held ∷ l.tail) 579
            (omega (arith, length_fields r.m, l.cells)) (omega (arith, length_fields v, length_fields r.deliv, l.senders));
      }

  pub laid-held : (held : ℕ) → Laid (with_held held r) (set s 627 held)
  unfolding put
  laid-held held =
      let p : List ℕ = r.me ∷ r.n ∷ r.cap ∷ (fields r.m ++ fields r.deliv) in
      let apart : (h : ℕ) → r.me ∷ r.n ∷ r.cap ∷ (fields r.m ++ (fields r.deliv ++ (h ∷ l.tail))) ≡ p ++ ((h ∷ []) ++ l.tail)
      = λ h. ap (λ (x : List ℕ). r.me ∷ r.n ∷ r.cap ∷ x) (sym (append_assoc (fields r.m) (fields r.deliv) (h ∷ l.tail))) in
      let size : length p ≡ 627 = omega (
        arith,
        length-append (fields r.m) (fields r.deliv),
        length_fields r.m,
        length_fields r.deliv,
        l.cells,
        l.senders,
      ) in
      record {
        cells = l.cells;
        senders = l.senders;
        tail = l.tail;
        four = l.four;
        same =
            ap (λ (x : List ℕ). set x 627 held) (l.same ∙ apart r.held)
            ∙ put_over p (r.held ∷ []) (held ∷ []) l.tail 627 size (omega arith) ∙ sym (apart held);
      }

  -- the trailer over the four bytes behind the fields makes it the image
  pub laid-sealed : put s 628 (trailer (take (628 - 0) (drop 0 s))) ≡ image r
  unfolding image sealed
  laid-sealed =
      let f : List ℕ = record_fields r in
      let size : length f ≡ 628 = length_record r l.cells l.senders in
      let e : s ≡ f ++ l.tail = l.same ∙ sym (fields_then r l.tail) in
      let front : take 628 s ≡ f = ap (take 628) e ∙ take_at f l.tail 628 size in
      let whole : f ++ l.tail ≡ f ++ (l.tail ++ []) = ap (λ (x : List ℕ). f ++ x) (sym (append-nil l.tail)) in
      rw front (ap (λ (x : List ℕ). put x 628 (trailer f)) (e ∙ whole)
      ∙ put_over f l.tail (trailer f) [] 628 size (omega (arith, length-trailer f, l.four))
      ∙ ap (λ (x : List ℕ). f ++ x) (append-nil (trailer f)))
