-- The ceiling on extras: what two matched worlds say of what each step issued, and the sum over a history. Assumes nothing.
use Prim.Native.Nat.{ℕ, suc, ◌+◌, ◌*◌, ◌-◌, ◌≤◌}
use mathlib.Core.Bool.{Bool, ◌&&◌, cond, false, true}
use mathlib.Core.List.{List, [], ◌∷◌, map}
use mathlib.Core.Option.{some}
use mathlib.Core.Path.{◌∙◌, ◌≡◌, ap, ap₂, refl, subst}
use native.Mathlib.Nat.{mul-add}
use native.Mathlib.Omega.{arith}
use lib.Dec.{eqb}
use lib.ListN.{get_elem?}
use Rattle.causality.proofs.Matches.{Matches, SameAnswer, SameEvent, SameHistory, empty, encode_issue, named, next, same_back}
use Rattle.causality.proofs.Reading.{kind-encode}
use Rattle.causality.specs.Ceiling.{CeilingFor, StepIssues, extras, frames_by, frames_of_kind, user_named, users_delivered, users_issued}
use Rattle.causality.specs.Demand3.{Answer, Event, World, sum_over}
use Rattle.frame.specs.Frame.{encode}
use Rattle.frame.specs.Header.{header, kind_byte}
use Rattle.matrix.specs.Message.{Kind, Message, extra, user}
use Rattle.protocol.proofs.Ceiling.{ByKind, Reported, messages_of, received, sum_by, sum_of, users}
use Rattle.protocol.proofs.Ceiling as counted
use Rattle.protocol.proofs.Extras.{one_user}
use Rattle.protocol.specs.Answer as protocol
use Rattle.protocol.specs.World as messages

-- ---- the sum

-- a bound of each answer is one of the sum
sum-most : (n : ℕ) (f g h : Answer → ℕ) (l : List Event) → ((t : ℕ) (e : Event) → get_elem? l t ≡ some e → f e.answer ≤ g e.answer + n * h e.answer)
    → sum_over f l ≤ sum_over g l + n * sum_over h l
sum-most n f g h [] b = omega arith
sum-most n f g h (e ∷ l) b =
    omega (arith, b 0 e refl, sum-most n f g h l (λ t x a. b (suc t) x a), mul-add n (h e.answer) (sum_over h l))

-- ---- what matched worlds count

-- 1 for a message whose frame is of this kind
abbrev of_kind : ℕ → Message → ℕ
of_kind kind m = cond (eqb (header (encode m)).kind kind) 1 0

-- the frames of a log
frames-by : (t kind : ℕ) (l : List messages.Issue) → frames_by t kind (map encode_issue l) ≡ sum_by (of_kind kind) t l
frames-by t kind [] = refl
frames-by t kind (g ∷ l) = ap₂ ◌+◌ (both (eqb g.step t) (eqb (header (encode g.message)).kind kind)) (frames-by t kind l)
  where
    both : (b c : Bool) → ◌≡◌ {A = ℕ} (cond (b && c) 1 0) (cond b (cond c 1 0) 0)
    both true c = refl
    both false c = refl

frames_of_lem : (kind : ℕ) (l : List messages.Issue) → frames_of_kind kind (map encode_issue l) ≡ sum_of (of_kind kind) (messages_of l)
frames_of_lem kind [] = refl
frames_of_lem kind (g ∷ l) = ap (λ (k : ℕ). of_kind kind g.message + k) (frames_of_lem kind l)

-- a sum of one number over one history, and of another over another
sum_same : (f : protocol.Answer → ℕ) (h : Answer → ℕ) (l : List messages.Event) (k : List Event) → SameHistory l k
    → ((t : ℕ) (e : messages.Event) (x : Event) → get_elem? l t ≡ some e → SameEvent e x → f e.answer ≡ h x.answer)
    → counted.sum_over f l ≡ sum_over h k
sum_same f h _ _ empty b = refl
sum_same f h _ _ (next e x l k s r) b = ap₂ ◌+◌ (b 0 e x refl s) (sum_same f h l k r (λ t a c at. b (suc t) a c at))

-- by the byte of a kind
by_kind : (kind : ℕ) → ByKind (of_kind kind) (cond (eqb 1 kind) 1 0) (cond (eqb 2 kind) 1 0)
by_kind kind = record { user = λ m e. same m user e; extra = λ m e. same m extra e }
  where
    same : (m : Message) (k : Kind) → m.kind ≡ k → of_kind kind m ≡ cond (eqb (kind_byte k) kind) 1 0
    same m k e = ap (λ (b : ℕ). cond (eqb b kind) 1 0) (kind-encode m ∙ ap kind_byte e)

-- deliveries of user frames
user_byte : (k : Kind) → ◌≡◌ {A = ℕ} (cond (eqb (kind_byte k) 1) 1 0) (one_user k)
user_byte user = refl
user_byte extra = refl

user-named : (a : protocol.Answer) → user_named (named (protocol.delivery a)) ≡ received a
user-named (protocol.refused r) = refl
user-named (protocol.sent l) = refl
user-named (protocol.taken k b) = refl
user-named (protocol.nothing k) = refl
user-named (protocol.delivered a k b l) = user_byte a.kind

module _ (n : ℕ) (caps : ℕ → ℕ) (w : messages.World) (b : World) (m : Matches n w b) (r : Reported n caps w) where
  -- the frames of one kind that a step issued
  frames-issued : (t kind : ℕ) (e : messages.Event) → get_elem? w.history t ≡ some e
      → frames_by t kind b.log ≡ cond (eqb 1 kind) 1 0 * users e.answer + cond (eqb 2 kind) 1 0 * counted.extras e.answer
  frames-issued t kind e at =
      ap (frames_by t kind) m.log ∙ frames-by t kind w.log ∙ r.logged (of_kind kind) t e at
      ∙ (r.each t e at).kinds (of_kind kind) _ _ (by_kind kind)

  step-issues : (t : ℕ) (f : Event) → get_elem? b.history t ≡ some f → StepIssues n (caps f.node) t f.answer b.log
  step-issues t f at =
      let x = same_back w.history b.history m.history t f at in
      let e = x.0 in
      let same = x.2.answer in
      let i = r.each t e x.1 in
      let received-same : users_delivered f.answer ≡ received e.answer = ap user_named same.names ∙ user-named e.answer in
      record {
        most = rw (same.extras, same.users, received-same) i.most;
        none = λ large. same.extras ∙ i.none (subst (λ (k : ℕ). (n - 1) * (n - 1) ≤ caps k) x.2.node large);
        reported = omega (arith, same.extras, frames-issued t 2 e x.1);
        users = omega (arith, same.users, frames-issued t 1 e x.1);
      }

  -- the frames of one kind in the log, where h counts those of each answer
  frames-all : (kind : ℕ) (h : Answer → ℕ)
      → ((a : protocol.Answer) (x : Answer) → SameAnswer a x → cond (eqb 1 kind) 1 0 * users a + cond (eqb 2 kind) 1 0 * counted.extras a ≡ h x)
      → frames_of_kind kind b.log ≡ sum_over h b.history
  frames-all kind h same =
      ap (frames_of_kind kind) m.log ∙ frames_of_lem kind w.log ∙ r.whole (of_kind kind)
      ∙ sum_same (λ a. sum_of (of_kind kind) (protocol.issued a)) h w.history b.history m.history
      (λ t e x at s. (r.each t e at).kinds (of_kind kind) _ _ (by_kind kind) ∙ same e.answer x.answer s.answer)

  pub ceiling_for : CeilingFor n caps b
  ceiling_for = record {
    ceiling = sum-most (n - 1) extras users_issued users_delivered b.history (λ t e at. (step-issues t e at).most);
    each = step-issues;
    extra_frames = frames-all 2 extras (λ a x s. omega (arith, s.extras));
    user_frames = frames-all 1 users_issued (λ a x s. omega (arith, s.users));
  }
