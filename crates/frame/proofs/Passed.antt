-- What the refusals 8 to 11 tell of a run of bytes that meets none of them, rule by rule, and that bytes which keep these rules meet none. Assumes nothing.
use Prim.Native.Nat.{◌*◌, ◌+◌, ◌<◌, ◌≤◌, ℕ}
use mathlib.Core.Bool.{◌&&◌, ◌||◌, cond, not}
use mathlib.Core.List.{List}
use mathlib.Core.Logic.{◌⊎◌, inl, inr, ⊎_elim}
use mathlib.Core.Path.{◌≡◌}
use native.Mathlib.Omega.{arith}
use lib.Dec.{T, eqb, eqb→eq, leb, leb→le, le→leb, ltb, ltb→lt, lt→ltb, nltb→le}
use lib.ListN.{length}
use Rattle.frame.specs.Entries.{entries_from}
use Rattle.frame.specs.Header.{header}
use Rattle.frame.specs.Refusals.{each_ok, entry_ok, frame_refusal, rising, wrong_address, wrong_body, wrong_cap, wrong_content, wrong_entries, wrong_kind, wrong_trailer}
use Rattle.frame.specs.declared.entries.Entry.{Entry}
use Rattle.frame.specs.declared.header.Header.{Header}
use Rattle.wire.proofs.Tests.{all_seven, and_T, eq→eqb, if-not, if_then, is_false, is_true, le→nltb, neqb→ne, ne→neqb}
use Rattle.wire.proofs.Tests.{no_four, no_three, not-if, not-not, or-T, or-not, skipped, then_if}
use Rattle.wire.specs.Limits.{max_body, max_count, max_frame}
use Rattle.wire.specs.Trailer.{count_back, has_trailer}

-- the rules of an entry
pub record EntryKept (n : ℕ) (h : Header) (a : Entry) : Type 0 where
  pub row : a.row < n
  pub column : a.column < n
  pub apart : a.row ≡ a.column → ⊥
  pub not_from : a.column ≡ h.from → ⊥
  pub least : 1 ≤ a.value
  pub most : a.value ≤ max_count
  pub extra_to : h.kind ≡ 2 → a.column ≡ h.to

pub entry_kept : (n : ℕ) (h : Header) (a : Entry) → T (entry_ok n h a) → EntryKept n h a
unfolding entry_ok
entry_kept n h a t =
    let p = all_seven (ltb a.row n) (ltb a.column n) (not (eqb a.row a.column)) (not (eqb a.column h.from)) (leb 1 a.value)
    (leb a.value max_count) (not (eqb h.kind 2) || eqb a.column h.to) t in
    record {
      row = ltb→lt a.row n p.0;
      column = ltb→lt a.column n p.1;
      apart = neqb→ne a.row a.column p.2;
      not_from = neqb→ne a.column h.from p.3;
      least = leb→le 1 a.value p.4;
      most = leb→le a.value max_count p.5;
      extra_to = λ e. eqb→eq a.column h.to (if_then (eqb h.kind 2) (eqb a.column h.to) p.6 (eq→eqb h.kind 2 e));
    }

pub kept_entry : (n : ℕ) (h : Header) (a : Entry) → EntryKept n h a → T (entry_ok n h a)
unfolding entry_ok
kept_entry n h a k =
    let r = is_true (ltb a.row n) (lt→ltb a.row n k.row) in
    let c = is_true (ltb a.column n) (lt→ltb a.column n k.column) in
    let d = is_true (not (eqb a.row a.column)) (ne→neqb a.row a.column k.apart) in
    let f = is_true (not (eqb a.column h.from)) (ne→neqb a.column h.from k.not_from) in
    let l = is_true (leb 1 a.value) (le→leb 1 a.value k.least) in
    let m = is_true (leb a.value max_count) (le→leb a.value max_count k.most) in
    rw (r, c, d, f, l, m) (then_if (eqb h.kind 2) (eqb a.column h.to) (λ t. eq→eqb a.column h.to (k.extra_to (eqb→eq h.kind 2 t))))

-- the rules of a frame s with the header h and the entries l
pub record Kept (n : ℕ) (s : List ℕ) (h : Header) (l : List Entry) : Type 0 where
  pub long : 12 ≤ length s
  pub most : length s ≤ max_frame
  pub trailer : T (has_trailer s)
  pub kind : (h.kind ≡ 1) ⊎ (h.kind ≡ 2)
  pub reserved : h.reserved ≡ 0
  pub same_n : h.n ≡ n
  pub cap_from : n ≤ h.cap
  pub cap_to : h.cap ≤ n * n
  pub from : h.from < n
  pub to : h.to < n
  pub apart : h.from ≡ h.to → ⊥
  pub size : 8 + 6 * h.e + h.b ≡ count_back s
  pub short : h.b ≤ max_body
  pub bare : h.kind ≡ 2 → h.b ≡ 0
  pub few : h.e ≤ h.cap
  pub each : T (each_ok n h l)
  pub rise : T (rising l)

-- bytes that meet no refusal keep them, and the other way round
module _ (n : ℕ) (s : List ℕ) where
  abbrev h : Header
  h = header s

  abbrev l : List Entry
  l = entries_from s 0 h.e

  pub passes_kept : frame_refusal n s ≡ 0 → Kept n s (header s) (entries_from s 0 (header s).e)
  unfolding frame_refusal wrong_trailer wrong_kind wrong_address wrong_content wrong_body wrong_entries
  passes_kept e =
      let e8 = skipped (wrong_trailer s) 8 (cond (wrong_kind h) 9 (cond (wrong_address n h) 10 (cond (wrong_content n s) 11 0))) (omega arith) e in
      let e9 = skipped (wrong_kind h) 9 (cond (wrong_address n h) 10 (cond (wrong_content n s) 11 0)) (omega arith) e8.1 in
      let e10 = skipped (wrong_address n h) 10 (cond (wrong_content n s) 11 0) (omega arith) e9.1 in
      let e11 = skipped (wrong_content n s) 11 0 (omega arith) e10.1 in
      let t = no_three (ltb (length s) 12) (ltb max_frame (length s)) (not (has_trailer s)) e8.0 in
      let k = or-not (not (eqb h.kind 1 || eqb h.kind 2)) (not (eqb h.reserved 0)) e9.0 in
      let a = or-not (not (eqb h.n n) || wrong_cap n h || not (ltb h.from n) || not (ltb h.to n)) (eqb h.from h.to) e10.0 in
      let b = no_four (not (eqb h.n n)) (wrong_cap n h) (not (ltb h.from n)) (not (ltb h.to n)) a.0 in
      let r = or-not (ltb h.cap n) (ltb (n * n) h.cap) b.1 in
      let c = no_four (not (eqb (8 + 6 * h.e + h.b) (count_back s))) (wrong_body h) (ltb h.cap h.e) (wrong_entries n h l) e11.0 in
      let d = or-not (ltb max_body h.b) (eqb h.kind 2 && not (eqb h.b 0)) c.1 in
      let f = and_T (each_ok n h l) (rising l) (not-not (each_ok n h l && rising l) c.3) in
      record {
        long = nltb→le (length s) 12 t.0;
        most = nltb→le max_frame (length s) t.1;
        trailer = not-not (has_trailer s) t.2;
        kind =
            ⊎_elim (λ u. inl (eqb→eq h.kind 1 u)) (λ u. inr (eqb→eq h.kind 2 u))
            (or-T (eqb h.kind 1) (eqb h.kind 2) (not-not (eqb h.kind 1 || eqb h.kind 2) k.0));
        reserved = eqb→eq h.reserved 0 (not-not (eqb h.reserved 0) k.1);
        same_n = eqb→eq h.n n (not-not (eqb h.n n) b.0);
        cap_from = nltb→le h.cap n r.0;
        cap_to = nltb→le (n * n) h.cap r.1;
        from = ltb→lt h.from n (not-not (ltb h.from n) b.2);
        to = ltb→lt h.to n (not-not (ltb h.to n) b.3);
        apart = neqb→ne h.from h.to a.1;
        size = eqb→eq (8 + 6 * h.e + h.b) (count_back s) (not-not (eqb (8 + 6 * h.e + h.b) (count_back s)) c.0);
        short = nltb→le max_body h.b d.0;
        bare = λ u. eqb→eq h.b 0 (if-not (eqb h.kind 2) (eqb h.b 0) d.1 (eq→eqb h.kind 2 u));
        few = nltb→le h.cap h.e c.2;
        each = f.0;
        rise = f.1;
      }

  pub kept-passes : Kept n s (header s) (entries_from s 0 (header s).e) → frame_refusal n s ≡ 0
  unfolding frame_refusal wrong_trailer wrong_kind wrong_address wrong_content wrong_body wrong_entries
  kept-passes k =
      let long = is_false (ltb (length s) 12) (le→nltb (length s) 12 k.long) in
      let most = is_false (ltb max_frame (length s)) (le→nltb max_frame (length s) k.most) in
      let trailer = is_true (has_trailer s) k.trailer in
      let kind = is_true (eqb h.kind 1 || eqb h.kind 2) (either k.kind) in
      let reserved = is_true (eqb h.reserved 0) (eq→eqb h.reserved 0 k.reserved) in
      let same = is_true (eqb h.n n) (eq→eqb h.n n k.same_n) in
      let least = is_false (ltb h.cap n) (le→nltb h.cap n k.cap_from) in
      let largest = is_false (ltb (n * n) h.cap) (le→nltb (n * n) h.cap k.cap_to) in
      let from = is_true (ltb h.from n) (lt→ltb h.from n k.from) in
      let to = is_true (ltb h.to n) (lt→ltb h.to n k.to) in
      let apart = is_false (eqb h.from h.to) (ne→neqb h.from h.to k.apart) in
      let size = is_true (eqb (8 + 6 * h.e + h.b) (count_back s)) (eq→eqb (8 + 6 * h.e + h.b) (count_back s) k.size) in
      let short = is_false (ltb max_body h.b) (le→nltb max_body h.b k.short) in
      let bare = is_false (eqb h.kind 2 && not (eqb h.b 0))
      (not-if (eqb h.kind 2) (eqb h.b 0) (λ t. eq→eqb h.b 0 (k.bare (eqb→eq h.kind 2 t)))) in
      let few = is_false (ltb h.cap h.e) (le→nltb h.cap h.e k.few) in
      rw (
        long,
        most,
        trailer,
        kind,
        reserved,
        same,
        least,
        largest,
        from,
        to,
        apart,
        size,
        short,
        bare,
        few,
        is_true (each_ok n h l) k.each,
        is_true (rising l) k.rise,
      )
    where
      either : (h.kind ≡ 1) ⊎ (h.kind ≡ 2) → T (eqb h.kind 1 || eqb h.kind 2)
      either (inl e) = rw e tt
      either (inr e) = rw e tt
