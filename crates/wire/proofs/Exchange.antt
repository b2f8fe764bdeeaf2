-- Two unequal neighbours exchanged change the sum, and so break the trailer. Assumes nothing.
use Rattle.std.proofs.Common.{◌≡◌, ℕ, suc, ◌+◌, ◌-◌, ◌*◌, ◌≤◌, ◌≢◌, List, [], ◌∷◌, ◌++◌, length, get_or, take, drop, set, sym, ap, ◌∙◌, add-zero, add-mul, one-mul, arith, length-set, take-append-drop, length-take-le, get_or-set_other, get_or-take, get_or-set_same}
use native.Mathlib.Decide.{dec_le}
use lib.Dec.{not_T}
use lib.Seq.{take-set-le, take-set-lt}
use Rattle.wire.proofs.Bytes.{bytes_take, length-put, put-eq, rest}
use Rattle.wire.proofs.Tests.{is_false, of_true}
use Rattle.wire.proofs.Trailer.{Trailed, trailed}
use Rattle.wire.specs.Bytes.{AllBytes, put, u16_at}
use Rattle.wire.specs.Exchange.{ExchangeBreaksTrailer, ExchangeChangesSum, Unequal, exchanged}
use Rattle.wire.specs.Trailer.{checksum, count_back, has_trailer, sum_back, weighted}

-- the weighted sum of a run in two parts
weighted_append : (w : ℕ) (s t : List ℕ) → weighted w (s ++ t) ≡ weighted w s + weighted (w + length s) t
weighted_append w [] t = rw (add-zero w) (omega arith)
weighted_append w (b ∷ s) t =
    let e : w + 1 + length s ≡ w + suc (length s) = omega arith in
    let more = weighted_append (w + 1) s t in
    rw (← e) (omega (arith, more))

-- two neighbours in a run, and the run with them exchanged
module _ (s : List ℕ) (k : ℕ) (h : k + 2 ≤ length s) where
  pub parted : s ≡ take k s ++ (get_or s k 0 ∷ get_or s (k + 1) 0 ∷ drop (k + 2) s)
  parted =
      let e : k + 1 + 1 ≡ k + 2 = omega arith in
      sym (take-append-drop k s) ∙ rw (rest s k (omega arith), rest s (k + 1) (omega arith), e)

  pub exchanged-parted : exchanged s k ≡ take k s ++ (get_or s (k + 1) 0 ∷ get_or s k 0 ∷ drop (k + 2) s)
  unfolding exchanged
  exchanged-parted = put-eq s k (get_or s (k + 1) 0 ∷ get_or s k 0 ∷ []) h

-- the bytes at other places stay, and a front that has both neighbours is exchanged alone
pub length_exchanged : (s : List ℕ) (k : ℕ) → length (exchanged s k) ≡ length s
unfolding exchanged
length_exchanged s k = length-put s k (get_or s (k + 1) 0 ∷ get_or s k 0 ∷ [])

pub exchanged-other : (s : List ℕ) (k i : ℕ) → i ≢ k → i ≢ k + 1 → get_or (exchanged s k) i 0 ≡ get_or s i 0
unfolding exchanged put
exchanged-other s k i h l =
    get_or-set_other (set s k (get_or s (k + 1) 0)) (k + 1) i (get_or s k 0) 0 l ∙ get_or-set_other s k i (get_or s (k + 1) 0) 0 h

pub take-exchanged : (m : ℕ) (s : List ℕ) (k : ℕ) → k + 2 ≤ m → take m (exchanged s k) ≡ exchanged (take m s) k
unfolding exchanged put
take-exchanged m s k h =
    rw (
      take-set-lt m (set s k (get_or s (k + 1) 0)) (k + 1) (get_or s k 0) (omega arith),
      take-set-lt m s k (get_or s (k + 1) 0) (omega arith),
      get_or-take m s k 0 (omega arith),
      get_or-take m s (k + 1) 0 (omega arith),
    )

-- and a front that has neither stays
take-stays : (m : ℕ) (s : List ℕ) (k : ℕ) → m ≤ k → take m (exchanged s k) ≡ take m s
unfolding exchanged put
take-stays m s k h =
    take-set-le m (set s k (get_or s (k + 1) 0)) (k + 1) (get_or s k 0) (omega arith) ∙ take-set-le m s k (get_or s (k + 1) 0) h

-- two neighbours weigh by one more the byte that stands behind
two-weighted : (w a b : ℕ) (t : List ℕ) → weighted w (a ∷ b ∷ t) ≡ w * a + w * b + b + weighted (w + 1 + 1) t
two-weighted w a b t = rw (add-mul, one-mul) (omega arith)

pub exchange_changes_sum : ExchangeChangesSum
unfolding checksum
exchange_changes_sum s k a u e =
    let h : k + 2 ≤ length s = omega (arith, u.inside) in
    let x = get_or s k 0 in
    let y = get_or s (k + 1) 0 in
    let w = 1 + length (take k s) in
    let t = drop (k + 2) s in
    let before : weighted 1 s ≡ weighted 1 (take k s) + weighted w (x ∷ y ∷ t) =
    ap (weighted 1) (parted s k h) ∙ weighted_append 1 (take k s) (x ∷ y ∷ t) in
    let after : weighted 1 (exchanged s k) ≡ weighted 1 (take k s) + weighted w (y ∷ x ∷ t) =
    ap (weighted 1) (exchanged-parted s k h) ∙ weighted_append 1 (take k s) (y ∷ x ∷ t) in
    u.differ (omega (arith, before, after, two-weighted w x y t, two-weighted w y x t, e, a k, a (k + 1)))

-- a field of two bytes that stands behind stays
pub field_stays : (s : List ℕ) (k at : ℕ) → k + 2 ≤ at → u16_at (exchanged s k) at ≡ u16_at s at
unfolding u16_at
field_stays s k at h =
    rw (exchanged-other s k at (λ e. omega arith) (λ e. omega arith), exchanged-other s k (at + 1) (λ e. omega arith) (λ e. omega arith))

sum-stays : (s : List ℕ) (k : ℕ) → k + 2 + 2 ≤ length s → sum_back (exchanged s k) ≡ sum_back s
unfolding sum_back
sum-stays s k h = rw (length_exchanged s k) (field_stays s k (length s - 2) (omega arith))

pub count-stays : (s : List ℕ) (k : ℕ) → k + 2 + 4 ≤ length s → count_back (exchanged s k) ≡ count_back s
unfolding count_back
count-stays s k h = rw (length_exchanged s k) (field_stays s k (length s - 4) (omega arith))

-- the two themselves
pub exchanged-first : (s : List ℕ) (k : ℕ) → k + 2 ≤ length s → get_or (exchanged s k) k 0 ≡ get_or s (k + 1) 0
unfolding exchanged put
exchanged-first s k h =
    get_or-set_other (set s k (get_or s (k + 1) 0)) (k + 1) k (get_or s k 0) 0 (λ e. omega arith) ∙ get_or-set_same s k (get_or s (k + 1) 0) 0 (omega arith)

pub exchanged-second : (s : List ℕ) (k : ℕ) → k + 2 ≤ length s → get_or (exchanged s k) (k + 1) 0 ≡ get_or s k 0
unfolding exchanged put
exchanged-second s k h = get_or-set_same (set s k (get_or s (k + 1) 0)) (k + 1) (get_or s k 0) 0 (rw length-set (omega arith))

-- both trailers right, before and after the exchange
module _ (s : List ℕ) (k : ℕ) (a : AllBytes s) (u : Unequal s k) (b : Trailed s) (t : Trailed (exchanged s k)) where
  abbrev m : ℕ
  m = length s - 2

  here : get_or (exchanged s k) k 0 ≡ get_or s (k + 1) 0
  here = exchanged-first s k u.inside

  next : get_or (exchanged s k) (k + 1) 0 ≡ get_or s k 0
  next = exchanged-second s k u.inside

  -- in front of the sum: one sum over both
  in_front : k + 4 ≤ length s → ⊥
  in_front h =
      let l : length (take m s) ≡ m = length-take-le m s (omega arith) in
      let front : take (length (exchanged s k) - 2) (exchanged s k) ≡ exchanged (take m s) k =
      rw (length_exchanged s k) (take-exchanged m s k (omega arith)) in
      let unequal : Unequal (take m s) k =
      record { inside = omega (arith, l); differ = rw (get_or-take m s k 0 (omega arith), get_or-take m s (k + 1) 0 (omega arith)) u.differ } in
      exchange_changes_sum (take m s) k (bytes_take m s a) unequal (ap checksum (sym front) ∙ sym t.sum ∙ sum-stays s k (omega arith) ∙ b.sum)

  -- where count and sum meet: one count
  at-seam : k + 3 ≡ length s → ⊥
  unfolding count_back u16_at
  at-seam h =
      let at : length s - 4 + 1 ≡ k = omega (arith, b.long) in
      let same = exchanged-other s k (length s - 4) (λ e. omega (arith, b.long)) (λ e. omega (arith, b.long)) in
      let before : get_or s (length s - 4) 0 + 256 * get_or s k 0 ≡ length s - 4 = rw (← at) b.count in
      let after : get_or (exchanged s k) (length s - 4) 0 + 256 * get_or (exchanged s k) (length s - 4 + 1) 0 ≡ length s - 4 =
      rw (← length_exchanged s k) t.count in
      let moved = ap (λ (i : ℕ). get_or (exchanged s k) i 0) at ∙ here in
      u.differ (omega (arith, before, after, same, moved))

  -- within the sum: one sum, of the same bytes
  in_sum : k + 2 ≡ length s → ⊥
  unfolding sum_back u16_at
  in_sum h =
      let at : m ≡ k = omega arith in
      let front : take (length (exchanged s k) - 2) (exchanged s k) ≡ take m s = rw (length_exchanged s k) (take-stays m s k (omega arith)) in
      let before : get_or s k 0 + 256 * get_or s (k + 1) 0 ≡ checksum (take m s) = rw (← at) b.sum in
      let after : get_or (exchanged s k) m 0 + 256 * get_or (exchanged s k) (m + 1) 0 ≡ checksum (take m s) =
      rw (← front, ← length_exchanged s k) t.sum in
      let moved = ap (λ (i : ℕ). get_or (exchanged s k) i 0) at ∙ here in
      let moved₂ = ap (λ (i : ℕ). get_or (exchanged s k) (i + 1) 0) at ∙ next in
      u.differ (omega (arith, before, after, moved, moved₂))

pub exchange_breaks_trailer : ExchangeBreaksTrailer
exchange_breaks_trailer s k a u e = is_false (has_trailer (exchanged s k)) (not_T (has_trailer (exchanged s k)) (λ t. both (trailed (exchanged s k) t)))
  where
    right : Trailed s
    right = trailed s (of_true (has_trailer s) e)

    both : Trailed (exchanged s k) → ⊥
    both t = go (dec_le (k + 4) (length s)) (dec_le (k + 3) (length s))
      where
        go : Dec (k + 4 ≤ length s) → Dec (k + 3 ≤ length s) → ⊥
        go (yes h) d = in_front s k a u right t h
        go (no h) (yes i) = at-seam s k a u right t (omega arith)
        go (no h) (no i) = in_sum s k a u right t (omega (arith, u.inside))
