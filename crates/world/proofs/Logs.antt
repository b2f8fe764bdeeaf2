-- Frames end to end in a log: the frame at a place is found behind those before it. Assumes nothing.
use Rattle.std.specs.Prelude.{Option, Some, None, unwrap_or}
use Rattle.std.proofs.Common.{add-one}
use Prim.Native.Nat.{ℕ, zero, suc, ◌+◌, ◌-◌, ◌≤◌, ◌<◌}
use mathlib.Core.Bool.{Bool, cond, not, true, false}
use mathlib.Core.Logic.{◌⊎◌, inl, inr}
use mathlib.Core.List.{List, [], ◌∷◌, ◌++◌, append_assoc, append-nil}
use mathlib.Core.Path.{◌≡◌, refl, sym, ap, ◌∙◌}
use native.Mathlib.Omega.{arith}
use lib.Dec.{T, leb, leb→le, nleb→lt}
use lib.ListN.{length, get_or, take, drop, length-append, take-append-drop}
use lib.Seq.{take_all, take-suc, drop-cons, split_at, drop_at, take-append_seam, drop-length}
use Rattle.wire.proofs.Tests.{decide}
use Rattle.wire.proofs.Trailer.{trailed}
use Rattle.frame.proofs.Passed.{passes_kept}
use Rattle.frame.specs.Header.{header, own_length}
use Rattle.arrival.specs.CheckedFrame.{CheckedFrame}
use Rattle.holdback.proofs.Slots.{header_append, own-least}
use Rattle.causality.specs.Demand3.{Label}
use Rattle.world.specs.Steps.{named, issue_from}
use Rattle.world.specs.Stored.{joined, some_issue, Begins, BeginsWith}

-- a sound frame is as long as its own e and b say, and has at most 802 bytes
checked-own : (s : List ℕ) → CheckedFrame s → own_length (header s) ≡ length s
unfolding own_length
checked-own s c = let k = passes_kept c.n s c.passes in omega (arith, k.size, k.long, (trailed s k.trailer).count)

pub joined_append : (f g : List (List ℕ)) → joined (f ++ g) ≡ joined f ++ joined g
unfolding joined
joined_append [] g = refl
joined_append (s ∷ f) g = ap (λ (x : List ℕ). s ++ x) (joined_append f g) ∙ sym (append_assoc s (joined f) (joined g))

pub joined-one : (s : List ℕ) (f : List (List ℕ)) → joined (s ∷ f) ≡ s ++ joined f
unfolding joined
joined-one s f = refl

pub joined-none : joined [] ≡ []
unfolding joined
joined-none = refl

-- one frame more
joined-suc : (f : List (List ℕ)) (i : ℕ) → i < length f → joined (take (i + 1) f) ≡ joined (take i f) ++ get_or f i []
unfolding joined
joined-suc f i h =
    let e : i + 1 ≡ suc i = omega arith in
    ap (λ (k : ℕ). joined (take k f)) e ∙ ap joined (take-suc f i [] h) ∙ joined_append (take i f) (get_or f i [] ∷ [])
    ∙ ap (λ (x : List ℕ). joined (take i f) ++ x) (append-nil (get_or f i []))

-- the frames lie inside the log
pub begins-inside : (f : List (List ℕ)) (l : List ℕ) → Begins f l → length (joined f) ≤ length l
begins-inside f l b = go (decide (leb (length (joined f)) (length l)))
  where
    go : T (leb (length (joined f)) (length l)) ⊎ T (not (leb (length (joined f)) (length l))) → length (joined f) ≤ length l
    go (inl t) = leb→le (length (joined f)) (length l) t
    go (inr t) =
        let h : length l < length (joined f) = nleb→lt (length (joined f)) (length l) t in
        omega (arith, ap length (sym (take_all (length (joined f)) l (omega arith)) ∙ b.bytes))

-- the bytes around the frame at place i
around : (f : List (List ℕ)) (l : List ℕ) (i : ℕ) → Begins f l → i < length f → (r : List ℕ) × (l ≡ joined (take i f) ++ (get_or f i [] ++ r))
around f l i b h = (
  joined (drop (suc i) f) ++ drop (length (joined f)) l,
  sym (take-append-drop (length (joined f)) l)
      ∙ ap (λ (x : List ℕ). x ++ drop (length (joined f)) l) (b.bytes ∙ ap joined (split_at f i [] h) ∙ joined_append (take i f) (get_or f i [] ∷ drop (suc i) f)
      ∙ ap (λ (x : List ℕ). joined (take i f) ++ x) (joined-one (get_or f i []) (drop (suc i) f)))
      ∙ append_assoc (joined (take i f)) (get_or f i [] ++ joined (drop (suc i) f)) (drop (length (joined f)) l)
      ∙ ap (λ (x : List ℕ). joined (take i f) ++ x) (append_assoc (get_or f i []) (joined (drop (suc i) f)) (drop (length (joined f)) l)),
)

-- what stands at `at`, behind the first i frames: the frame at place i, which ends at `end`
pub record LogPart (f : List (List ℕ)) (l : List ℕ) (i at end : ℕ) : Type 0 where
  pub room : at + 8 ≤ length l
  pub head : header (drop at l) ≡ header (get_or f i [])
  pub from : at ≤ end
  pub inside : end ≤ length l
  pub same : take (end - at) (drop at l) ≡ get_or f i []
  pub sound : CheckedFrame (get_or f i [])
  pub next : end ≡ length (joined (take (i + 1) f))

pub log-room : (f : List (List ℕ)) (l : List ℕ) (i at : ℕ) → Begins f l → i < length f → at ≡ length (joined (take i f)) → at + 8 ≤ length l
log-room f l i at b h e =
    let x = around f l i b h in
    let s : List ℕ = get_or f i [] in
    omega (arith, ap length x.1, length-append (joined (take i f)) (s ++ x.0), length-append s x.0, checked-own s (b.sound i h), own-least (header s))

pub log-part : (f : List (List ℕ)) (l : List ℕ) (i at end : ℕ) → Begins f l → i < length f → at ≡ length (joined (take i f))
    → end ≡ at + own_length (header (drop at l)) → LogPart f l i at end
log-part f l i at end b h e z =
    let x = around f l i b h in
    let s : List ℕ = get_or f i [] in
    let own : own_length (header s) ≡ length s = checked-own s (b.sound i h) in
    let d : drop at l ≡ s ++ x.0 = ap (drop at) x.1 ∙ drop_at (joined (take i f)) (s ++ x.0) at (sym e) in
    let head : header (drop at l) ≡ header s = ap header d ∙ header_append s x.0 (omega (arith, own-least (header s))) in
    let size : end ≡ at + length s = z ∙ ap (λ (k : ℕ). at + k) (ap own_length head ∙ own) in
    let width : end - at ≡ length s = omega arith in
    record {
      room = log-room f l i at b h e;
      head = head;
      from = omega arith;
      inside = omega (arith, ap length x.1, length-append (joined (take i f)) (s ++ x.0), length-append s x.0);
      same = ap (λ (k : ℕ). take k (drop at l)) width ∙ ap (take (length s)) d ∙ take-append_seam s x.0;
      sound = b.sound i h;
      next = size ∙ ap (λ (k : ℕ). k + length s) e ∙ sym (length-append (joined (take i f)) s) ∙ sym (ap length (joined-suc f i h));
    }

-- `at` is where the frames behind the first i begin, in bytes that begin with at least k frames
abbrev pub Behind : ℕ → List ℕ → ℕ → ℕ → Type 0
Behind k l i at = (f : List (List ℕ)) → Begins f l → k ≤ length f → at ≡ length (joined (take i f))

-- a frame of a log that begins with at least k
module _ {k : ℕ} {l : List ℕ} (b : BeginsWith k l) {i at : ℕ} (h : i < k) (here : Behind k l i at) where
  pub begins-room : at + 8 ≤ length l
  begins-room = log-room b.frames l i at b.begins (omega (arith, b.many)) (here b.frames b.begins b.many)

  pub begins-part : {end : ℕ} → end ≡ at + own_length (header (drop at l)) → LogPart b.frames l i at end
  begins-part {end} z = log-part b.frames l i at end b.begins (omega (arith, b.many)) (here b.frames b.begins b.many) z

-- the search for an issue: the next frame is it, or the search goes on
pub issue_hit : (a : Label) (j i : ℕ) (f : List (List ℕ)) → i < length f → named a j (get_or f i []) ≡ true → issue_from (i + 1) a j (drop i f) ≡ i + 1
unfolding issue_from
issue_hit a j i f h t = ap (issue_from (i + 1) a j) (drop-cons f i [] h) ∙ ap (λ (b : Bool). cond b (i + 1) (issue_from (i + 1 + 1) a j (drop (suc i) f))) t

pub issue-next : (a : Label) (j i : ℕ) (f : List (List ℕ)) → i < length f → named a j (get_or f i []) ≡ false
    → issue_from (i + 1) a j (drop i f) ≡ issue_from (i + 1 + 1) a j (drop (i + 1) f)
unfolding issue_from
issue-next a j i f h t =
    let e : suc i ≡ i + 1 = omega arith in
    ap (issue_from (i + 1) a j) (drop-cons f i [] h) ∙ ap (λ (b : Bool). cond b (i + 1) (issue_from (i + 1 + 1) a j (drop (suc i) f))) t
    ∙ ap (λ (k : ℕ). issue_from (i + 1 + 1) a j (drop k f)) e

pub issue-none : (a : Label) (j i k : ℕ) (f : List (List ℕ)) → length f ≤ i → i ≤ length f → issue_from k a j (drop i f) ≡ 0
unfolding issue_from
issue-none a j i k f h g =
    let e : i ≡ length f = omega arith in
    ap (issue_from k a j) (ap (λ (x : ℕ). drop x f) e ∙ drop-length f)

-- what the search answers: the issue, or none
pub some-hit : (k i : ℕ) → k ≡ i + 1 → Some (i + 1) ≡ some_issue k
unfolding some_issue
some-hit k i e = rw (e, add-one)

pub some-none : (k : ℕ) → k ≡ 0 → None ≡ some_issue k
unfolding some_issue
some-none k e = rw e

pub some-or : (o : Option ℕ) (k : ℕ) → o ≡ some_issue k → unwrap_or o 0 ≡ k
unfolding some_issue
some-or o zero e = rw e
some-or o (suc k) e = rw e
