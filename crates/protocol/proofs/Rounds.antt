-- A run of trim is a run of issues: it keeps the invariant, and what it issues is sound.
use Prim.Native.Nat.{ℕ, zero, suc, ◌≤◌, ◌<◌}
use mathlib.Core.Bool.{cond}
use mathlib.Core.List.{List, [], ◌∷◌, ◌++◌, append_assoc, append-nil, map}
use mathlib.Core.Logic.{◌⊎◌, inl, inr, ◌≢◌}
use mathlib.Core.Option.{some}
use mathlib.Core.Path.{◌≡◌, refl, sym, ap, subst, ◌∙◌}
use native.Mathlib.Decide.{ℕ_discrete}
use native.Mathlib.Omega.{arith}
use lib.Dec.{eqb}
use lib.ListN.{get_elem?}
use Rattle.matrix.proofs.Columns.{count-only, only-rules}
use Rattle.matrix.proofs.Matrix.{clear-mine, clear-gone, clear_keep, only_col, only_zero}
use Rattle.matrix.specs.Matrix.{Matrix, clear, only}
use Rattle.matrix.specs.Message.{user, extra, Message, extra_message}
use Rattle.protocol.proofs.Good.{SoundIssue, AllSound, invariant_cong}
use Rattle.protocol.proofs.Issuing.{Issuing, after_issue, UserStep, issue-invariant}
use Rattle.protocol.proofs.Lists.{at_none}
use Rattle.protocol.proofs.State.{State, Invariant}
use Rattle.protocol.proofs.Trim.{Rounds, done, round}
use Rattle.protocol.specs.World.{Issue, Event, issued_by}
use Rattle.wire.proofs.Tests.{cond_same, cond-other}

-- the matrices M, with m at node i
abbrev pub put_matrix : (ℕ → Matrix) → ℕ → Matrix → ℕ → Matrix
put_matrix M i m k x y = cond (eqb k i) (m x y) (M k x y)

-- the matrix that was put
pub put_matrix-same : (M : ℕ → Matrix) (i : ℕ) (m : Matrix) (x y : ℕ) → put_matrix M i m i x y ≡ m x y
put_matrix-same M i m x y = cond_same i (m x y) (M i x y)

-- the other matrices stay
pub put_matrix-other : (M : ℕ → Matrix) (i : ℕ) (m : Matrix) (k x y : ℕ) → k ≢ i → put_matrix M i m k x y ≡ M k x y
put_matrix-other M i m k x y h = cond-other k i (m x y) (M k x y) h

-- no message is of both kinds
pub extra-user : extra ≡ user → ⊥
extra-user e = let z : ◌≡◌ {A = ℕ} 0 1 = cc in omega arith

-- node i, whose matrix is m, issues an extra message to l
extra-issuing : (M : ℕ → Matrix) (i l n cap t : ℕ) (m : Matrix) → ((x y : ℕ) → M i x y ≡ m x y) → l ≢ i
    → Issuing M (put_matrix M i (clear i l m)) (issued_by t (extra_message i l n cap m))
extra-issuing M i l n cap t m e ne = record {
  apart = λ q. ne (sym q);
  column = λ x. only_col l m x ∙ sym (e x l);
  part = λ x y. part x y (ℕ_discrete y l);
  whole = λ u. absurd (extra-user u);
  raised = put_matrix-same M i (clear i l m) i l ∙ clear-mine i l m ∙ ap suc (sym (only_col l m i));
  cleared = λ x h. put_matrix-same M i (clear i l m) x l ∙ clear-gone i l m x h;
  same = λ x y h. put_matrix-same M i (clear i l m) x y ∙ clear_keep i l m x y h ∙ sym (e x y);
  others = λ k x y h. put_matrix-other M i (clear i l m) k x y h;
}
  where
    part : (x y : ℕ) → Dec (y ≡ l) → (only l m x y ≡ M i x y) ⊎ (only l m x y ≡ 0)
    part x y (yes q) = inl (rw q (only_col l m x ∙ sym (e x l)))
    part x y (no q) = inr (only_zero l m x y q)

-- nothing is asked of an extra message's step
extra-step : (w : State) (f : Issue) → f.message.kind ≡ extra → UserStep w f
extra-step w f e =
    record { last = λ u. absurd (extra-user (sym e ∙ u)); event = λ u. absurd (extra-user (sym e ∙ u)); free = λ u. absurd (extra-user (sym e ∙ u)) }

-- the rounds keep the invariant
pub rounds-invariant : (n cap i t : ℕ) (m : Matrix) (extras : List Message) (m' : Matrix) → Rounds n cap i m extras m'
    → (log : List Issue) (h : List Event) (M : ℕ → Matrix) (D : ℕ → ℕ → ℕ)
    → ((x y : ℕ) → M i x y ≡ m x y) → Invariant (record { log = log; history = h; matrix = M; deliv = D })
    → Invariant (record { log = log ++ map (issued_by t) extras; history = h; matrix = put_matrix M i m'; deliv = D })
rounds-invariant n cap i t m extras m' (done _) log h M D e v =
    invariant_cong log (log ++ []) h M (put_matrix M i m) D D (sym (append-nil log)) (λ k x y. same k x y (ℕ_discrete k i)) (λ k x. refl) v
  where
    same : (k x y : ℕ) → Dec (k ≡ i) → M k x y ≡ put_matrix M i m k x y
    same k x y (yes q) = rw q (e x y ∙ sym (put_matrix-same M i m x y))
    same k x y (no q) = sym (put_matrix-other M i m k x y q)
rounds-invariant n cap i t m extras m' (round _ _ o l hl ne two rules r) log h M D e v =
    let f : Issue = issued_by t (extra_message i l n cap m) in
    let w : State = record { log = log; history = h; matrix = M; deliv = D } in
    let M₁ : ℕ → Matrix = put_matrix M i (clear i l m) in
    let v₁ : Invariant (after_issue w M₁ f) = issue-invariant w v M₁ f (extra-issuing M i l n cap t m e ne) (extra-step w f refl) in
    invariant_cong (log ++ (f ∷ []) ++ map (issued_by t) o) (log ++ map (issued_by t) (extra_message i l n cap m ∷ o)) h (put_matrix M₁ i m') (put_matrix M i m') D D
    (append_assoc log (f ∷ []) (map (issued_by t) o)) (λ k x y. same k x y (ℕ_discrete k i)) (λ k x. refl)
    (rounds-invariant n cap i t (clear i l m) o m' r (log ++ (f ∷ [])) h M₁ D (λ x y. put_matrix-same M i (clear i l m) x y) v₁)
  where
    same : (k x y : ℕ) → Dec (k ≡ i) → put_matrix (put_matrix M i (clear i l m)) i m' k x y ≡ put_matrix M i m' k x y
    same k x y (yes q) = rw q (put_matrix-same (put_matrix M i (clear i l m)) i m' x y ∙ sym (put_matrix-same M i m' x y))
    same k x y (no q) =
        put_matrix-other (put_matrix M i (clear i l m)) i m' k x y q ∙ put_matrix-other M i (clear i l m) k x y q ∙ sym (put_matrix-other M i m' k x y q)

-- the extras of a trim are sound
pub rounds-sound : (n : ℕ) (caps : ℕ → ℕ) (i : ℕ) (m : Matrix) (extras : List Message) (m' : Matrix) → i < n → n ≤ caps i
    → Rounds n (caps i) i m extras m' → AllSound n caps extras
rounds-sound n caps i m extras m' hi hc (done _) p f e = absurd (at_none p f e)
rounds-sound n caps i m extras m' hi hc (round _ _ o l hl ne two rules r) p f e = go p e (λ q g d. rounds-sound n caps i (clear i l m) o m' hi hc r q g d)
  where
    first : SoundIssue n caps (extra_message i l n (caps i) m)
    first = record {
      from = hi;
      to = hl;
      apart = λ q. ne (sym q);
      sized = refl;
      capped = refl;
      rules = only-rules n i l m rules ne;
      few = omega (arith, count-only m l n (λ x q. rules.rows x l q));
      short = omega arith;
      lone = λ u x y ne. only_zero l m x y ne;
      bare = λ u. refl;
    }

    go : (p : ℕ) → get_elem? (extra_message i l n (caps i) m ∷ o) p ≡ some f → AllSound n caps o → SoundIssue n caps f
    go zero e ih = let z : extra_message i l n (caps i) m ≡ f = cc in subst (λ (g : Message). SoundIssue n caps g) z first
    go (suc p) e ih = ih p f e
