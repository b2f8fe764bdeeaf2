-- Send by its refusal, and what a send that is not refused leaves. Assumes nothing.
use Prim.Native.Nat.{◌*◌, ◌+◌, ◌-◌, ◌<◌, ◌≤◌, suc, ℕ}
use mathlib.Core.Bool.{Bool, ◌||◌, cond, false, not, true}
use mathlib.Core.List.{List, [], ◌∷◌}
use mathlib.Core.Path.{◌∙◌, ◌≡◌, ap, refl, sym}
use native.Mathlib.Decide.{ℕ_discrete}
use native.Mathlib.Omega.{arith}
use borrow.Author.Tests.{le-ltb, lt-ltb, ne_eqb}
use lib.Dec.{eqb, ltb, ltb→lt, nltb→le}
use lib.ListN.{length}
use Rattle.frame.proofs.Frames.{length-frames, put-frames}
use Rattle.frame.proofs.Written.{length-encode}
use Rattle.frame.specs.Frame.{encode}
use Rattle.frame.specs.Frames.{frames_of}
use Rattle.matrix.proofs.Array.{entry-back}
use Rattle.matrix.proofs.Bounds.{count_121}
use Rattle.matrix.proofs.Cleared.{clear-limit, inside-clear, inside-entry}
use Rattle.matrix.specs.Array.{entry, flat, vector}
use Rattle.matrix.specs.Matrix.{Matrix, clear, count}
use Rattle.matrix.specs.Message.{Message, user_message}
use Rattle.node.specs.Answers.{AfterSend, after_send, send_number}
use Rattle.node.specs.Calls.{accept_send, refusal, refuse_send, send_call}
use Rattle.node.specs.CallRefusals.{SendPasses, SendPassesAt, send_refusal}
use Rattle.node.specs.Record.{broken_record, node_of}
use Rattle.node.specs.Sizes.{out_size}
use Rattle.protocol.specs.Answer.{Outcome, accepted, refuse}
use Rattle.protocol.specs.Node.{Node, at_limit}
use Rattle.protocol.specs.Send.{bad_destination, long_body, send, sending}
use Rattle.protocol.specs.Trim.{Trimmed, trim_for}
use Rattle.rights.specs.Ours.{ours}
use Rattle.rights.specs.Rights.{lacks_right}
use Rattle.rules.proofs.Facts.{Unbroken, limit-row, unbroken}
use Rattle.wire.proofs.Tests.{is_false, neqb→ne, not-not, or-not, skipped}
use Rattle.wire.specs.Bytes.{put}
use Rattle.wire.specs.Limits.{max_body, max_count}
use Rattle.node.specs.declared.Node.{Node as Record}
use Rattle.node.specs.SendAnswer as send_answer

-- the checks in rising order give the refusal, and none of them an accepted send
module _ (r : Record) (out : List ℕ) (d : Node) (s : Outcome) (a : accepted s.answer ≡ true) where
  after : Bool → Outcome → AfterSend
  after t o = cond (accepted o.answer) (cond t (refuse_send 21 r out) (accept_send r out o)) (refuse_send (refusal o.answer) r out)

  checked : (t₂ t₃ t₅ t₆ t₇ t₂₁ : Bool) → ℕ
  checked t₂ t₃ t₅ t₆ t₇ t₂₁ = cond t₂ 2 (cond t₃ 3 (cond t₅ 5 (cond t₆ 6 (cond t₇ 7 (cond t₂₁ 21 0)))))

  by_checks : (t₂ t₃ t₅ t₆ t₇ t₂₁ : Bool)
      → cond t₂ (refuse_send 2 r out) (cond t₃ (refuse_send 3 r out) (after t₂₁ (cond t₅ (refuse 5 d) (cond t₆ (refuse 6 d) (cond t₇ (refuse 7 d) s)))))
      ≡ cond (eqb (checked t₂ t₃ t₅ t₆ t₇ t₂₁) 0) (accept_send r out s) (refuse_send (checked t₂ t₃ t₅ t₆ t₇ t₂₁) r out)
  unfolding after checked
  by_checks true t₃ t₅ t₆ t₇ t₂₁ = refl
  by_checks false true t₅ t₆ t₇ t₂₁ = refl
  by_checks false false true t₆ t₇ t₂₁ = refl
  by_checks false false false true t₇ t₂₁ = refl
  by_checks false false false false true t₂₁ = refl
  by_checks false false false false false true = rw a
  by_checks false false false false false false = rw a

pub send-by-refusal : (r : Record) (to class : ℕ) (body out : List ℕ)
    → send_call r to class body out
    ≡ cond (eqb (send_refusal r to class body (length out)) 0) (accept_send r out (sending (node_of r []) to body))
    (refuse_send (send_refusal r to class body (length out)) r out)
unfolding send_call send_refusal send after checked
send-by-refusal r to class body out =
    by_checks r out (node_of r []) (sending (node_of r []) to body) refl (broken_record r) (ltb (length out) out_size) (at_limit (node_of r []))
    (bad_destination (node_of r []) to) (long_body body) (lacks_right ours class body)

-- a refused send, and an accepted one
pub send-refused : (r : Record) (to class : ℕ) (body out : List ℕ) (k : ℕ) → k ≡ send_refusal r to class body (length out) → (k ≡ 0 → ⊥)
    → refuse_send k r out ≡ send_call r to class body out
send-refused r to class body out k e h = sym (send-by-refusal r to class body out ∙ rw (← e, ne_eqb k 0 h))

pub send-accepted : (r : Record) (to class : ℕ) (body out : List ℕ) → send_refusal r to class body (length out) ≡ 0
    → accept_send r out (sending (node_of r []) to body) ≡ send_call r to class body out
send-accepted r to class body out e = sym (send-by-refusal r to class body out ∙ rw e)

-- the number that a send answers with
pub send-number : (r : Record) (to class : ℕ) (body out : List ℕ)
    → send_number (send_call r to class body out).result.answer ≡ send_refusal r to class body (length out)
send-number r to class body out =
    ap (λ (c : AfterSend). send_number c.result.answer) (send-by-refusal r to class body out) ∙ go (ℕ_discrete k 0)
  where
    k : ℕ
    k = send_refusal r to class body (length out)

    answered : AfterSend
    answered = cond (eqb k 0) (accept_send r out (sending (node_of r []) to body)) (refuse_send k r out)

    go : Dec (k ≡ 0) → send_number answered.result.answer ≡ k
    go (yes z) = rw z refl
    go (no h) = rw (ne_eqb k 0 h) refl

-- what an accepted send leaves: the user frame, then the extra frames behind it, and the trimmed matrix
module _ (r : Record) (to : ℕ) (body out : List ℕ) (lower : r.me < 12) (upper : to < 12) where
  abbrev m : Matrix
  m = entry r.m

  abbrev user : Message
  user = user_message r.me to r.n r.cap m body

  abbrev t : Trimmed
  t = trim_for 12 r.me r.n r.cap (clear r.me to m)

  pub send-leaves : (m₁ m₂ out₁ out₂ : List ℕ) (at end extras : ℕ) → out₁ ≡ put out 0 (encode user)
      → at ≡ 0 + 12 + 6 * count m + length body → m₁ ≡ flat (clear r.me to m)
      → (let t₁ : Trimmed = trim_for 12 r.me r.n r.cap (entry m₁) in
      (m₂ ≡ flat t₁.matrix) × (out₂ ≡ put out₁ at (frames_of t₁.extras)) × (end ≡ at + length (frames_of t₁.extras)) × (extras ≡ length t₁.extras))
      → after_send (record {
        answer = send_answer.Sent end extras;
        node = record { me = r.me; n = r.n; cap = r.cap; m = m₂; deliv = r.deliv; held = r.held };
      }) out₂
      ≡ accept_send r out (sending (node_of r []) to body)
  send-leaves m₁ m₂ out₁ out₂ at end extras p q e w =
      let same : entry m₁ ≡ clear r.me to m = ap entry e ∙ entry-back (clear r.me to m) (inside-clear r.me to m lower upper (inside-entry r.m)) in
      let trimmed : trim_for 12 r.me r.n r.cap (entry m₁) ≡ t = ap (trim_for 12 r.me r.n r.cap) same in
      let start : at ≡ 0 + length (encode user) = omega (arith, length-encode user) in
      let bytes : out₂ ≡ put out 0 (frames_of (user ∷ t.extras)) = w.1 ∙ rw (trimmed, p, start, put-frames out 0 user t.extras) in
      let last : end ≡ length (frames_of (user ∷ t.extras))
      = omega (arith, w.2, ap (λ (u : Trimmed). length (frames_of u.extras)) trimmed, length-frames user t.extras) in
      let number : extras ≡ suc (length t.extras) - 1 = omega (arith, w.3, ap (λ (u : Trimmed). length u.extras) trimmed) in
      let matrix : m₂ ≡ flat t.matrix = w.0 ∙ ap (λ (u : Trimmed). flat u.matrix) trimmed in
      λ z. record {
        result = record {
          answer = send_answer.Sent (last z) (number z);
          node = record { me = r.me; n = r.n; cap = r.cap; m = matrix z; deliv = r.deliv; held = r.held };
        };
        out = bytes z;
      }

-- where the other checks are not met the refusal is that of the right
pub send-last : (r : Record) (to class : ℕ) (body : List ℕ) (out : ℕ) → broken_record r ≡ false → out_size ≤ out → at_limit (node_of r []) ≡ false
    → bad_destination (node_of r []) to ≡ false → length body ≤ max_body → send_refusal r to class body out ≡ cond (lacks_right ours class body) 21 0
unfolding send_refusal
send-last r to class body out a b c d e = rw (a, le-ltb out out_size b, c, d, le-ltb max_body (length body) e)

-- what a send that passed its checks knows
pub record Sendable (r : Record) (to class : ℕ) (body : List ℕ) (out : ℕ) : Type 0 where
  pub sound : Unbroken r.me r.n r.cap (entry r.m) (vector r.deliv) r.held
  pub long : out_size ≤ out
  pub other : to ≡ r.me → ⊥
  pub destination : to < r.n
  pub short : length body ≤ max_body
  pub allowed : lacks_right ours class body ≡ false
  pub below : (y : ℕ) → y < 12 → entry r.m r.me y < max_count

pub sendable : (r : Record) (to class : ℕ) (body : List ℕ) (out : ℕ) → send_refusal r to class body out ≡ 0 → Sendable r to class body out
unfolding send_refusal broken_record
sendable r to class body out e =
    let p = skipped (broken_record r) 2 _ (omega arith) e in
    let q = skipped (ltb out out_size) 3 _ (omega arith) p.1 in
    let s = skipped (at_limit (node_of r [])) 5 _ (omega arith) q.1 in
    let t = skipped (bad_destination (node_of r []) to) 6 _ (omega arith) s.1 in
    let u = skipped (long_body body) 7 _ (omega arith) t.1 in
    let v = skipped (lacks_right ours class body) 21 0 (omega arith) u.1 in
    let d = or-not (eqb to r.me) (not (ltb to r.n)) t.0 in
    let sound = unbroken r.me r.n r.cap r.m (vector r.deliv) r.held (is_false (broken_record r) p.0) in
    record {
      sound = sound;
      long = nltb→le out out_size q.0;
      other = neqb→ne to r.me d.0;
      destination = ltb→lt to r.n (not-not (ltb to r.n) d.1);
      short = nltb→le max_body (length body) u.0;
      allowed = is_false (lacks_right ours class body) v.0;
      below = limit-row (node_of r []) s.0 sound.limit;
    }

-- a destination that is not me, and below n
pub to-other : (me n to : ℕ) → (to ≡ me → ⊥) → to < n → (eqb to me || not (ltb to n)) ≡ false
to-other me n to e h = rw (ne_eqb to me e, lt-ltb to n h)

-- the cleared matrix keeps the limit
pub cleared-limit : (r : Record) (to : ℕ) (m₁ : List ℕ) → r.me < 12 → to < 12 → ((x y : ℕ) → entry r.m x y ≤ max_count) → entry r.m r.me to < max_count
    → m₁ ≡ flat (clear r.me to (entry r.m)) → (x y : ℕ) → entry m₁ x y ≤ max_count
cleared-limit r to m₁ h k l b e x y =
    rw (ap entry e ∙ entry-back (clear r.me to (entry r.m)) (inside-clear r.me to (entry r.m) h k (inside-entry r.m)))
    (clear-limit r.me to max_count (entry r.m) l b x y)

-- both nodes are below 12
pub sender-small : {r : Record} {to class : ℕ} {body : List ℕ} {out : ℕ} → Sendable r to class body out → r.me < 12
sender-small k = omega (arith, k.sound.range.below, k.sound.range.at_most12)

pub receiver-small : {r : Record} {to class : ℕ} {body : List ℕ} {out : ℕ} → Sendable r to class body out → to < 12
receiver-small k = omega (arith, k.destination, k.sound.range.at_most12)

-- a sound record's matrix has at most 121 entries
pub frame-room : {r : Record} {to class : ℕ} {body : List ℕ} {out : ℕ} → Sendable r to class body out → count (entry r.m) ≤ 121
frame-room {r} k =
    count_121 r.me (entry r.m) (omega (arith, k.sound.range.below, k.sound.range.at_most12)) k.sound.rules.diagonal k.sound.rules.own

-- what passes at the record passes at a node with its me, n, cap and matrix
pub passes-at : {r : Record} {to : ℕ} {body : List ℕ} {out : ℕ} → SendPasses r to body out → SendPassesAt r to body out
passes-at {r} p = record { deliv = r.deliv; held = r.held; class = p.class; passes = p.passes }
