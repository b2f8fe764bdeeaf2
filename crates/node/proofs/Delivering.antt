-- Deliver by its refusal, and what a deliver that is not refused leaves. Assumes nothing.
use Prim.Native.Nat.{◌+◌, ◌-◌, ◌<◌, ◌≤◌, suc, ℕ}
use mathlib.Core.Bool.{Bool, ◌||◌, cond, false, not, true}
use mathlib.Core.List.{List, [], map}
use mathlib.Core.Option.{some}
use mathlib.Core.Path.{◌∙◌, ◌≡◌, ap, refl, subst, sym}
use native.Mathlib.Omega.{arith}
use borrow.Author.Tests.{ne_eqb}
use lib.Dec.{T, eqb, ltb, nltb→le}
use lib.ListN.{get_or, length, length-map, set}
use Rattle.node.proofs.Shared.{checked-queue, held-arrives, held_carried, queue-laid, record_passed, record_past}
use Rattle.node.proofs.Offering.{length_messages}
use Rattle.arrival.proofs.Arrived.{Arrives}
use Rattle.arrival.specs.CheckedFrame.{CheckedFrame}
use Rattle.arrival.specs.View.{node_with}
use Rattle.frame.proofs.Carried.{Carried}
use Rattle.frame.specs.Frame.{decode}
use Rattle.frame.specs.Frames.{frames_of}
use Rattle.frame.specs.Header.{kind_byte}
use Rattle.holdback.proofs.Parts.{HeldPart, end_of, held-part}
use Rattle.holdback.proofs.Queues.{found-held, length_without}
use Rattle.holdback.proofs.Searched.{found_none}
use Rattle.holdback.proofs.Slots.{length-held}
use Rattle.holdback.specs.WrongQueue.{wrong_queue}
use Rattle.holdback.specs.CheckedQueue.{CheckedQueue}
use Rattle.holdback.specs.Places.{frame_at, place_of}
use Rattle.holdback.specs.Slots.{held_frames, held_messages, laid, queue_size, without}
use Rattle.matrix.specs.Array.{entry, flat, list_from, vector}
use Rattle.matrix.specs.Matrix.{Matrix}
use Rattle.matrix.specs.Message.{Kind, Message, extra, number, user}
use Rattle.node.specs.Answers.{AfterDeliver, after_deliver}
use Rattle.node.specs.Calls.{accept_deliver, deliver_call, refusal, refuse_deliver}
use Rattle.node.specs.CallRefusals.{Finds, FindsAt, deliver_refusal, record_refusal, short_outputs}
use Rattle.node.specs.Record.{node_at, broken_record, node_of}
use Rattle.node.specs.Sizes.{out_size}
use Rattle.protocol.specs.Answer.{Outcome, accepted, delivery, label, refuse}
use Rattle.protocol.specs.Deliver.{Search, absent, conclude, count_up, deliver, found, learn, search}
use Rattle.protocol.specs.Node.{Node, at_limit}
use Rattle.protocol.specs.Offer.{deliverable}
use Rattle.protocol.specs.Trim.{Trimmed}
use Rattle.rules.proofs.Facts.{Unbroken}
use Rattle.wire.proofs.Tests.{of_false, or-not, skipped}
use Rattle.wire.specs.Bytes.{put}
use Rattle.wire.specs.Limits.{max_body, max_count}
use Rattle.node.specs.Delivered.{Delivered}
use Rattle.node.specs.Taken.{TakenIn, learned, told_of}
use Rattle.node.proofs.Taking.{count-up, from-below}
use Rattle.node.specs.declared.Node.{Node as Record}
use Rattle.node.specs.DeliverAnswer as deliver_answer

-- the checks in rising order give the refusal, and none of them an accepted deliver
module _ (r : Record) (q out body : List ℕ) (d : Node) (o : Outcome) (a : accepted o.answer ≡ true) where
  after : Outcome → AfterDeliver
  after o = cond (accepted o.answer) (accept_deliver r q out body o (delivery o.answer)) (refuse_deliver (refusal o.answer) r q out body)

  by_checks : (t₂ t₃ t₄ t₅ : Bool)
      → cond t₂ (refuse_deliver 2 r q out body)
      (cond t₃ (refuse_deliver 3 r q out body) (cond t₄ (refuse_deliver 4 r q out body) (after (cond t₅ (refuse 5 d) o))))
      ≡ cond (eqb (cond t₂ 2 (cond t₃ 3 (cond t₄ 4 (cond t₅ 5 0)))) 0) (accept_deliver r q out body o (delivery o.answer))
      (refuse_deliver (cond t₂ 2 (cond t₃ 3 (cond t₄ 4 (cond t₅ 5 0)))) r q out body)
  unfolding after
  by_checks true t₃ t₄ t₅ = refl
  by_checks false true t₄ t₅ = refl
  by_checks false false true t₅ = refl
  by_checks false false false true = refl
  by_checks false false false false = rw a

-- the search among the held messages, and what the protocol does where no check is met
abbrev pub searched : Record → List ℕ → Search
searched r q = search (deliverable (node_at r q)) (held_messages r.held q)

abbrev pub concluded : Record → List ℕ → Outcome
concluded r q = conclude (node_at r q) (searched r q)

-- it is not refused
conclude-accepts : (d : Node) (f : Search) → accepted (conclude d f).answer ≡ true
conclude-accepts d absent = refl
conclude-accepts d (found k m others) = refl

pub deliver-by-refusal : (r : Record) (q out body : List ℕ)
    → deliver_call r q out body
    ≡ cond (eqb (deliver_refusal r q (short_outputs (length out) (length body))) 0) (accept_deliver r q out body (concluded r q)
    (delivery (concluded r q).answer)) (refuse_deliver (deliver_refusal r q (short_outputs (length out) (length body))) r q out body)
unfolding deliver_call deliver_refusal record_refusal deliver after
deliver-by-refusal r q out body =
    let d = node_at r q in
    by_checks r q out body d (concluded r q) (conclude-accepts d (searched r q)) (broken_record r)
    (short_outputs (length out) (length body) || not (eqb (length q) queue_size)) (wrong_queue (node_of r []) r.held q) (at_limit d)

-- a refused deliver, and an accepted one
pub deliver-refused : (r : Record) (q out body : List ℕ) (k : ℕ) → k ≡ deliver_refusal r q (short_outputs (length out) (length body)) → (k ≡ 0 → ⊥)
    → refuse_deliver k r q out body ≡ deliver_call r q out body
deliver-refused r q out body k e h = sym (deliver-by-refusal r q out body ∙ rw (← e, ne_eqb k 0 h))

pub deliver-accepted : (r : Record) (q out body : List ℕ) → deliver_refusal r q (short_outputs (length out) (length body)) ≡ 0
    → accept_deliver r q out body (concluded r q) (delivery (concluded r q).answer) ≡ deliver_call r q out body
deliver-accepted r q out body e = sym (deliver-by-refusal r q out body ∙ rw e)

-- what a deliver that passed its checks knows
pub record Ready (r : Record) (q : List ℕ) (out body : ℕ) : Type 0 where
  pub sound : Unbroken r.me r.n r.cap (entry r.m) (vector r.deliv) r.held
  pub long : out_size ≤ out
  pub room : max_body ≤ body
  pub queue : CheckedQueue r.held q
  pub layout : q ≡ laid (held_frames r.held q)
  pub carries : (i : ℕ) → i < r.held → Carried r.n (decode (frame_at q i))
  pub arrived : (i : ℕ) → i < r.held → Arrives (node_of r []) (decode (frame_at q i))
  pub free : T (not (at_limit (node_at r q)))

pub deliver-ready : (r : Record) (q : List ℕ) (out body : ℕ) → deliver_refusal r q (short_outputs out body) ≡ 0 → Ready r q out body
unfolding deliver_refusal
deliver-ready r q out body e =
    let p = record_passed r q (short_outputs out body) _ e in
    let t = or-not (ltb out out_size) (ltb body max_body) (of_false (short_outputs out body) p.long) in
    record {
      sound = p.sound;
      long = nltb→le out out_size t.0;
      room = nltb→le body max_body t.1;
      queue = checked-queue r q (short_outputs out body) p;
      layout = queue-laid r q (short_outputs out body) p;
      carries = held_carried r q (short_outputs out body) p;
      arrived = held-arrives r q (short_outputs out body) p;
      free = (skipped (at_limit (node_at r q)) 5 0 (omega arith) (sym (record_past r q (short_outputs out body) _ p) ∙ e)).0;
    }

-- a test of the outputs' lengths stands for it
pub deliver-passes : (r : Record) (q : List ℕ) (out body : ℕ) (short : Bool) → short ≡ short_outputs out body → 0 ≡ deliver_refusal r q short
    → deliver_refusal r q (short_outputs out body) ≡ 0
deliver-passes r q out body short e p = sym (p ∙ ap (deliver_refusal r q) e)

-- no held frame is deliverable
pub deliver-none : (r : Record) (q out body : List ℕ) → 0 ≡ place_of (searched r q)
    → after_deliver (record { answer = deliver_answer.Nothing r.held; node = r }) q out body
    ≡ accept_deliver r q out body (concluded r q) (delivery (concluded r q).answer)
deliver-none r q out body e =
    let a : searched r q ≡ absent = found_none (deliverable (node_at r q)) (held_messages r.held q) (sym e) in
    let all : r.held ≡ length (held_messages r.held q) = sym (length_messages r.held q) in
    ap (λ (k : ℕ). after_deliver (record { answer = deliver_answer.Nothing k; node = r }) q out body) all
    ∙ ap (λ (f : Search). accept_deliver r q out body (conclude (node_at r q) f) (delivery (conclude (node_at r q) f).answer)) (sym a)

-- a frame is: the slot that it stands in, and what is left
pub slot-held : (r : Record) (q : List ℕ) (j : ℕ) → j + 1 ≡ place_of (searched r q) → j < r.held
slot-held r q j e = (found-held (deliverable (node_at r q)) r.held q j (omega arith)).0

learn-same : (k : Kind) (me n cap : ℕ) (m v w : List ℕ) (l : List Message) (e : Matrix)
    → learn k (node_with me n cap m w []) e ≡ learn k (node_with me n cap m v l) e
learn-same user me n cap m v w l e = refl
learn-same extra me n cap m v w l e = refl

-- what is left to do behind a frame that is taken in: the record is as it was but for the matrix, and its sender is counted
abbrev pub counted : Record → (from : ℕ) → Record
counted r from = record r { deliv = set r.deliv from (get_or r.deliv from 0 + 1); held = r.held - 1 }

module _ (r : Record) (q out body : List ℕ) (j : ℕ) (e : j + 1 ≡ place_of (searched r q)) where
  abbrev g : Message
  g = decode (frame_at q j)

  abbrev t : Trimmed
  t = learn g.kind (node_of r (held_messages r.held q)) g.entries

  abbrev others : List (List ℕ)
  others = without j (held_frames r.held q)

  leaves : (d : Delivered) (m₁ v₁ q₁ out₁ body₁ : List ℕ) → d ≡ told_of r (frame_at q j) (j + 1)
      → m₁ ≡ flat (learned r (frame_at q j)).matrix → out₁ ≡ put out 0 (frames_of (learned r (frame_at q j)).extras)
      → body₁ ≡ put body 0 g.body
      → v₁ ≡ list_from 0 12 (count_up d.from (vector r.deliv)) → q₁ ≡ laid others
      → after_deliver (record {
        answer = deliver_answer.Frame d;
        node = record { me = r.me; n = r.n; cap = r.cap; m = m₁; deliv = v₁; held = r.held - 1 };
      }) q₁ out₁ body₁
      ≡ accept_deliver r q out body (concluded r q) (delivery (concluded r q).answer)
  leaves d m₁ v₁ q₁ out₁ body₁ w₀ w₁ w₂ w₃ c x =
      let f = found-held (deliverable (node_at r q)) r.held q j (omega arith) in
      let u : learned r (frame_at q j) ≡ t = learn-same g.kind r.me r.n r.cap r.m r.deliv r.deliv (held_messages r.held q) g.entries in
      let tried : j + 1 ≡ suc j = omega arith in
      let told : d ≡ record {
        kind = kind_byte g.kind;
        from = g.from;
        number = number g;
        tried = suc j;
        body = length g.body;
        bytes = length (frames_of t.extras);
        extras = length t.extras;
      }
      = w₀ ∙ (λ z. record {
        kind = kind_byte g.kind;
        from = g.from;
        number = number g;
        tried = tried z;
        body = length g.body;
        bytes = length (frames_of (u z).extras);
        extras = length (u z).extras;
      }) in
      let matrix : m₁ ≡ flat t.matrix = w₁ ∙ ap (λ (y : Trimmed). flat y.matrix) u in
      let frames : out₁ ≡ put out 0 (frames_of t.extras) = w₂ ∙ ap (λ (y : Trimmed). put out 0 (frames_of y.extras)) u in
      let counts : v₁ ≡ list_from 0 12 (count_up g.from (vector r.deliv))
      = c ∙ ap (λ (y : Delivered). list_from 0 12 (count_up y.from (vector r.deliv))) told in
      let fewer : r.held - 1 ≡ length (map decode others) = omega (
        arith,
        length-map others decode,
        length_without j (held_frames r.held q) (omega (arith, f.0, length-held r.held q)),
        length-held r.held q,
      ) in
      let last : j ≡ suc j - 1 = omega arith in
      let queue : q₁ ≡ laid (without (suc j - 1) (held_frames r.held q)) = x ∙ ap (λ (i : ℕ). laid (without i (held_frames r.held q))) last in
      let given : after_deliver (record {
        answer = deliver_answer.Frame d;
        node = record { me = r.me; n = r.n; cap = r.cap; m = m₁; deliv = v₁; held = r.held - 1 };
      }) q₁ out₁ body₁
      ≡ accept_deliver r q out body (conclude (node_at r q) (found (suc j) g (map decode others))) (some (label g))
      = λ z. record {
        result = record {
          answer = deliver_answer.Frame (told z);
          node = record { me = r.me; n = r.n; cap = r.cap; m = matrix z; deliv = counts z; held = fewer z };
        };
        queue = queue z;
        out = frames z;
        body = w₃ z;
      } in
      given ∙ ap (λ (y : Search). accept_deliver r q out body (conclude (node_at r q) y) (delivery (conclude (node_at r q) y).answer)) (sym f.1)

  -- the frame taken in, its slot emptied and its sender counted, as the protocol leaves them
  pub deliver-leaves : (s : List ℕ) (d : Delivered) (r₁ : Record) (q₁ out₁ body₁ : List ℕ) → s ≡ frame_at q j → TakenIn r s (j + 1) out body d r₁ out₁ body₁
      → length r.deliv ≡ 12 → d.from < 12 → q₁ ≡ laid (without j (held_frames r₁.held q))
      → after_deliver (record { answer = deliver_answer.Frame d; node = counted r₁ d.from }) q₁ out₁ body₁
      ≡ accept_deliver r q out body (concluded r q) (delivery (concluded r q).answer)
  deliver-leaves s d r₁ q₁ out₁ body₁ p w l b x =
      let P : Record → Type 0 = λ (y : Record). q₁ ≡ laid (without j (held_frames y.held q))
      → after_deliver (record { answer = deliver_answer.Frame d; node = counted y d.from }) q₁ out₁ body₁
      ≡ accept_deliver r q out body (concluded r q) (delivery (concluded r q).answer) in
      let m₁ : List ℕ = flat (learned r s).matrix in
      subst P (sym w.node)
      (λ y. leaves d m₁ _ q₁ out₁ body₁ (rw p at w.told) (rw p) (rw p at w.frames) (rw p at w.text) (count-up r.deliv d.from l b) y) x

-- a deliver that finds a frame passed its checks, and the frame is a part of the queue
pub finds-ready : {r : Record} {q : List ℕ} {out body slot : ℕ} → Finds r q out body slot → Ready r q out body
finds-ready f = deliver-ready _ _ _ _ f.passes

pub finds-part : {r : Record} {q : List ℕ} {out body slot : ℕ} → Finds r q out body slot → (end : ℕ) → end ≡ end_of q slot → HeldPart q slot end
finds-part {r} {q} {slot = slot} f end w = held-part r.held q slot end (finds-ready f).queue (slot-held r q slot f.found) w

-- it can count its sender
pub finds-at : {r : Record} {q : List ℕ} {out body slot : ℕ} → Finds r q out body slot → FindsAt r q out body slot
finds-at {r} {q} {slot = slot} f =
    let p = finds-part f (end_of q slot) refl in
    record {
      deliv = r.deliv;
      finds = f;
      room = (finds-ready f).sound.vector_limit (decode (frame_at q slot)).from (from-below (frame_at q slot) p.checked);
    }

-- what is asked behind the frame taken in, to take it out of the queue and to count its sender
pub record Countable (r₁ : Record) (q : List ℕ) (slot from : ℕ) : Type 0 where
  pub size : length q ≡ queue_size
  pub most : r₁.held ≤ 16
  pub held : slot < r₁.held
  pub layout : q ≡ laid (held_frames r₁.held q)
  pub sender : from < 12
  pub count : get_or r₁.deliv from 0 ≤ max_count

-- where some vector finds the slot, and this record's own is within the limit at the sender
countable-by : {r : Record} {v q : List ℕ} {out body slot : ℕ} → Finds (record r { deliv = v }) q out body slot → (s : List ℕ) → CheckedFrame s
    → {tried : ℕ} {o b o₁ b₁ : List ℕ} {d : Delivered} {r₁ : Record} → TakenIn r s tried o b d r₁ o₁ b₁
    → vector r.deliv d.from ≤ max_count → Countable r₁ q slot d.from
countable-by {r} {q = q} {slot = slot} f s c {d = d} w room =
    let P : Record → Type 0 = λ (y : Record). Countable y q slot d.from in
    let k = finds-ready f in
    subst P (sym w.node)
    record {
      size = k.queue.size;
      most = k.queue.most;
      held = slot-held _ q slot f.found;
      layout = k.layout;
      sender = rw w.told (from-below s c);
      count = room;
    }

-- the record that finds the slot can count the sender of any checked frame
pub countable : {r : Record} {q : List ℕ} {out body slot : ℕ} → Finds r q out body slot → (s : List ℕ) → CheckedFrame s
    → {tried : ℕ} {o b o₁ b₁ : List ℕ} {d : Delivered} {r₁ : Record} → TakenIn r s tried o b d r₁ o₁ b₁ → Countable r₁ q slot d.from
countable f s c {d = d} w = countable-by f s c w ((finds-ready f).sound.vector_limit d.from (rw w.told (from-below s c)))

-- a record with room for the sender of the slot's frame can count it
pub countable-at : {r : Record} {q : List ℕ} {out body slot : ℕ} → FindsAt r q out body slot → (s : List ℕ) → s ≡ frame_at q slot → CheckedFrame s
    → {tried : ℕ} {o b o₁ b₁ : List ℕ} {d : Delivered} {r₁ : Record} → TakenIn r s tried o b d r₁ o₁ b₁ → Countable r₁ q slot d.from
countable-at f s e c w = countable-by f.finds s c w (rw (w.told, e) f.room)
