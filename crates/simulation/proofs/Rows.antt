-- Laws of printed lines: how long they are at most, and the lines of issued frames one after the other. Assumes nothing.
use Prim.Native.Nat.{ℕ, suc, ◌+◌, ◌≤◌, ◌<◌}
use mathlib.Core.Bool.{cond}
use mathlib.Core.List.{List, [], ◌∷◌, ◌++◌}
use mathlib.Core.Path.{◌≡◌, refl, sym, ap, ◌∙◌}
use native.Mathlib.Omega.{arith}
use lib.Dec.{eqb}
use lib.ListN.{length, get_or, take, drop, length-append}
use lib.Seq.{drop-cons, drop-length}
use Rattle.wire.specs.Bytes.{put}
use Rattle.wire.proofs.Bytes.{put_append}
use Rattle.text.specs.Print.{decimal, digits, line_end, refusal_row, row, spaced}
use Rattle.text.specs.Wrote.{Wrote}
use Rattle.text.proofs.Print.{decimal-few, length-row-nil, length-row-cons}
use Rattle.frame.specs.Header.{header}
use Rattle.frame.specs.declared.header.Header.{Header}
use Rattle.world.specs.Stored.{joined}
use Rattle.simulation.specs.Yard.{header_row, issue_rows}

-- `R 17` and its line feed
pub refusal_17 : length (refusal_row 17) ≡ 5
unfolding row line_end spaced decimal digits
refusal_17 = refl

-- numbers of two or three digits behind a letter
pub two-numbers : (l a b : ℕ) → a < 1000 → b < 100 → length (row l (a ∷ b ∷ [])) ≤ 9
two-numbers l a b h i =
    omega (arith, length-row-cons l a (b ∷ []), length-row-cons l b [], length-row-nil l, decimal-few 3 a (omega arith) h, decimal-few 2 b (omega arith) i)

pub three-numbers : (l a b c : ℕ) → a < 1000 → b < 100 → c < 100 → length (row l (a ∷ b ∷ c ∷ [])) ≤ 12
three-numbers l a b c h i j =
    omega (
      arith,
      length-row-cons l a (b ∷ c ∷ []),
      two-numbers l b c (omega arith) j,
      length-row-cons l b (c ∷ []),
      length-row-cons l c [],
      length-row-nil l,
      decimal-few 3 a (omega arith) h,
      decimal-few 2 b (omega arith) i,
      decimal-few 2 c (omega arith) j,
    )

-- the line of an issued frame: an issue below 100, and bytes
pub issue_numbers : (l m a b e : ℕ) → m < 100 → a < 256 → b < 256 → e < 256 → length (row l (m ∷ a ∷ b ∷ e ∷ [])) ≤ 17
issue_numbers l m a b e h i j k =
    omega (
      arith,
      length-row-cons l m (a ∷ b ∷ e ∷ []),
      length-row-cons l a (b ∷ e ∷ []),
      length-row-cons l b (e ∷ []),
      length-row-cons l e [],
      length-row-nil l,
      decimal-few 2 m (omega arith) h,
      decimal-few 3 a (omega arith) (omega arith),
      decimal-few 3 b (omega arith) (omega arith),
      decimal-few 3 e (omega arith) (omega arith),
    )

header_row_lem : (m : ℕ) (h : Header) → header_row m h ≡ row (cond (eqb h.kind 1) 83 88) (m ∷ h.from ∷ h.to ∷ h.e ∷ [])
unfolding header_row
header_row_lem m h = refl

-- the line of a header that is written
pub header-printed : (m at r k : ℕ) (h : Header) (o p : List ℕ) → k ≡ cond (eqb h.kind 1) 83 88 → length (row k (m ∷ h.from ∷ h.to ∷ h.e ∷ [])) ≤ 17
    → r ≡ at + length (row k (m ∷ h.from ∷ h.to ∷ h.e ∷ [])) → p ≡ put o at (row k (m ∷ h.from ∷ h.to ∷ h.e ∷ []))
    → (r ≤ at + 17) × Wrote (header_row m h) at o r p
header-printed m at r k h o p ek l er ep =
    let e : row k (m ∷ h.from ∷ h.to ∷ h.e ∷ []) ≡ header_row m h = ap (λ (x : ℕ). row x (m ∷ h.from ∷ h.to ∷ h.e ∷ [])) ek ∙ sym (header_row_lem m h) in
    (omega arith, (er ∙ ap (λ (x : List ℕ). at + length x) e, ep ∙ ap (put o at) e))

-- the lines of the frames from place i on: one line and the others, or none
rows_more : (f : List (List ℕ)) (i : ℕ) → i < length f
    → issue_rows (i + 1) (drop i f) ≡ header_row (i + 1) (header (get_or f i [])) ++ issue_rows (i + 1 + 1) (drop (i + 1) f)
unfolding issue_rows
rows_more f i h =
    let e : suc i ≡ i + 1 = omega arith in
    ap (issue_rows (i + 1)) (drop-cons f i [] h) ∙ ap (λ (k : ℕ). header_row (i + 1) (header (get_or f i [])) ++ issue_rows (i + 1 + 1) (drop k f)) e

rows_none : (f : List (List ℕ)) (i k : ℕ) → i ≡ length f → issue_rows k (drop i f) ≡ []
unfolding issue_rows
rows_none f i k e = ap (issue_rows k) (ap (λ (x : ℕ). drop x f) e ∙ drop-length f)

-- the loop over the frames f of a log behind the first `from`: those up to place i are printed, from `at` to `end`
pub record Issuing (from at : ℕ) (f : List (List ℕ)) (o₀ o : List ℕ) (next end i : ℕ) : Type 0 where
  pub here : next ≡ length (joined (take i f))
  pub room : end + length (issue_rows (i + 1) (drop i f)) ≡ at + length (issue_rows (from + 1) (drop from f))
  pub bytes : put o end (issue_rows (i + 1) (drop i f)) ≡ put o₀ at (issue_rows (from + 1) (drop from f))

pub issuing_goes : (from at : ℕ) (f : List (List ℕ)) (o₀ o : List ℕ) (next end i : ℕ) (h : Header) (o' : List ℕ) (next' end' : ℕ)
    → Issuing from at f o₀ o next end i → i < length f → h ≡ header (get_or f i []) → next' ≡ length (joined (take (i + 1) f))
    → end' ≡ end + length (header_row (i + 1) h) → o' ≡ put o end (header_row (i + 1) h) → Issuing from at f o₀ o' next' end' (i + 1)
issuing_goes from at f o₀ o next end i h o' next' end' s l eh en ee eo =
    let one : List ℕ = header_row (i + 1) h in
    let others : List ℕ = issue_rows (i + 1 + 1) (drop (i + 1) f) in
    let m : issue_rows (i + 1) (drop i f) ≡ one ++ others = rows_more f i l ∙ ap (λ (x : Header). header_row (i + 1) x ++ others) (sym eh) in
    record {
      here = en;
      room = omega (arith, ap length m, length-append one others, s.room);
      bytes = rw (eo, ee) (sym (put_append o end one others) ∙ ap (put o end) (sym m) ∙ s.bytes);
    }

pub issuing-ends : (from at : ℕ) (f : List (List ℕ)) (o₀ o : List ℕ) (next end i : ℕ) → Issuing from at f o₀ o next end i → i ≡ length f
    → Wrote (issue_rows (from + 1) (drop from f)) at o₀ end o
unfolding put
issuing-ends from at f o₀ o next end i s e =
    let m = rows_none f i (i + 1) e in
    (omega (arith, s.room, ap length m), ap (put o end) (sym m) ∙ s.bytes)
