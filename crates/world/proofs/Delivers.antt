-- A deliver that is stored is the definition's. Assumes nothing.
use Prim.Native.Nat.{ℕ, ◌+◌, ◌-◌, ◌*◌, ◌≤◌, ◌<◌}
use mathlib.Core.Bool.{Bool, true, false, ◌||◌}
use mathlib.Core.List.{List, [], ◌++◌}
use mathlib.Core.Path.{◌≡◌, refl, sym, ap, ap₂, ◌∙◌, subst}
use native.Mathlib.Omega.{arith}
use lib.Dec.{leb, ltb}
use lib.ListN.{length, get_or, set, take, drop}
use lib.Seq.{length-take-le, set-get_or}
use Rattle.wire.proofs.Bytes.{put-nil}
use Rattle.wire.specs.Bytes.{put as write}
use Rattle.holdback.specs.Slots.{queue_size}
use Rattle.node.proofs.Told.{DeliverTold, DeliveredFacts, deliver-told}
use Rattle.node.specs.Answers.{AfterDeliver, after_deliver, Delivery}
use Rattle.node.specs.Calls.{deliver_call}
use Rattle.node.specs.Delivered.{Delivered}
use Rattle.node.specs.DeliverAnswer.{DeliverAnswer}
use Rattle.node.specs.DeliverAnswer as deliver_answer
use Rattle.node.specs.declared.Node.{Node as Record}
use Rattle.causality.proofs.Frames.{cut-nothing}
use Rattle.causality.specs.Demand3.{World, bytes_issued, deliver_at, delivered, delivers, frames_in}
use Rattle.world.proofs.Keeping.{end-room, holds_after, holds_later, stored-still}
use Rattle.world.proofs.Logs.{begins-inside}
use Rattle.world.proofs.Queues.{wide, width, queue-back, queue-here, queue-other, queue-part, queues-length}
use Rattle.world.proofs.Reach.{reached-deliver, reached-sized}
use Rattle.world.proofs.Sends.{Goes, goes_on_lem, stops_lem}
use Rattle.world.proofs.Written.{frames-joined, wrote-frames}
use Rattle.world.specs.Outcome.{Outcome}
use Rattle.world.specs.Outcome as outcome
use Rattle.world.specs.declared.World.{World as Stored}
use Rattle.world.specs.Steps.{AfterStep, after_delivered, body_output, deliver_step, exhausted, frame_output, frames, issue_from, refuse}
use Rattle.world.specs.Stored.{Holds, Standing, joined, log_size, no_record, queue_at, stored_after}
use Rattle.world.specs.Start.{max_simulated}

module _ (n : ℕ) (caps : ℕ → ℕ) (limit k : ℕ) (w : World) (s : Stored) (q l : List ℕ) (h : Holds n caps limit k w s q l) (short : k + 1 < 1000000000) (j : ℕ) where
  -- what is asked of the code: the outcome and the stored world are the definition's
  abbrev pub DeliverDone : Outcome → Stored → List ℕ → List ℕ → Type 0
  DeliverDone o s' q' l' = (o ≡ (deliver_step n limit w j).outcome) × Holds n caps limit (k + 1) (deliver_step n limit w j).world s' q' l'

  deliver-stops : (leb n j || exhausted n limit w) ≡ true → deliver_step n limit w j ≡ refuse 17 w
  unfolding deliver_step
  deliver-stops t = rw t

  pub deliver_17 : {t : Bool} → t ≡ (leb s.n j || ltb (limit - s.issued) s.n) → t ≡ true → DeliverDone (outcome.Refused 17) s q l
  deliver_17 e t =
      subst (λ (a : AfterStep). (outcome.Refused 17 ≡ a.outcome) × Holds n caps limit (k + 1) a.world s q l) (sym (deliver-stops (stops_lem h j e t)))
      (refl, holds_later n caps limit k w s q l h)

  module _ {stop : Bool} (et : stop ≡ (leb s.n j || ltb (limit - s.issued) s.n)) (on : stop ≡ false) (a : Delivery) (p₁ out body : List ℕ)
      (e : after_deliver a p₁ out body ≡ deliver_call (get_or s.nodes j no_record) (take (width j) (drop (queue_size * j) q)) frame_output body_output)
      (long : length p₁ ≡ length (take (width j) (drop (queue_size * j) q))) where
    goes : Goes h j et
    goes = goes_on_lem h j et on

    hj : j < n
    hj = goes.node

    ez : (width j) ≡ queue_size
    ez = wide j

    abbrev c : AfterDeliver
    c = deliver_call (w.records j) (w.queues j) frame_output body_output

    same : c ≡ after_deliver a p₁ out body
    same = sym (e ∙ ap₂ (λ (x : Record) (y : List ℕ). deliver_call x y frame_output body_output) (h.records j hj) (queue-part j (width j) q ez ∙ h.queues j hj))

    deliver-goes : deliver_step n limit w j ≡ after_delivered w j c a.answer
    unfolding deliver_step
    deliver-goes = rw goes.test (ap (λ (x : AfterDeliver). after_delivered w j c x.result.answer) same)

    -- what the answer tells
    told : (x : DeliverAnswer) → a.answer ≡ x → DeliverTold (w.records j) (w.queues j) frame_output x c
    told x t =
        subst (λ (y : DeliverAnswer). DeliverTold (w.records j) (w.queues j) frame_output y c) (ap (λ (y : AfterDeliver). y.result.answer) same ∙ t)
        (deliver-told (w.records j) (w.queues j) frame_output body_output)

    tells : (x : DeliverAnswer) → a.answer ≡ x → bytes_issued (delivered c.result.answer) ≡ bytes_issued (delivered x)
    tells x t = ap (λ (y : DeliverAnswer). bytes_issued (delivered y)) (ap (λ (y : AfterDeliver). y.result.answer) same ∙ t)

    -- the queues after the call
    abbrev q₁ : List ℕ
    q₁ = take (queue_size * j) q ++ (p₁ ++ drop (width j) (drop (queue_size * j) q))

    few : j < max_simulated
    few = omega (arith, h.few, goes.node)

    pub deliver-refused : (why : ℕ) → a.answer ≡ deliver_answer.Refused why → DeliverDone (outcome.Refused why) s q₁ l
    deliver-refused why t =
        let u : p₁ ≡ queue_at q j = sym (ap (λ (x : AfterDeliver). x.queue) same) ∙ told (deliver_answer.Refused why) t ∙ sym (h.queues j hj) in
        subst (λ (x : AfterStep). (outcome.Refused why ≡ x.outcome) × Holds n caps limit (k + 1) x.world s q₁ l)
        (sym (deliver-goes ∙ ap (after_delivered w j c) t)) (
          refl,
          subst (λ (y : List ℕ). Holds n caps limit (k + 1) w s y l)
              (sym (queue-back j (width j) q p₁ few h.size ez long u)) (holds_later n caps limit k w s q l h),
        )

    -- the stored world after the call
    stored : (bytes : List ℕ) (count : ℕ) → joined (frames_in (take (bytes_issued (delivered c.result.answer)) c.out)) ≡ bytes
        → length (frames_in (take (bytes_issued (delivered c.result.answer)) c.out)) ≡ count
        → length w.log + count ≤ limit → s.end + length bytes ≤ length l → (s' : Stored) (l' : List ℕ)
        → s' ≡ stored_after s j c.result.node count (length bytes) → l' ≡ write l s.end bytes
        → Holds n caps limit (k + 1) (deliver_at w j (delivers j frame_output body_output) c) s' q₁ l'
    stored bytes count written many below fits s' l' es el =
        holds_after n caps limit k w s q l h short j hj (delivers j frame_output body_output) c.result.node c.queue
        (delivered c.result.answer) c.out q₁ bytes count
        (reached-deliver n caps k w h.reached j frame_output body_output hj)
        (queues-length j (width j) q p₁ few h.size ez long)
        (queue-here j (width j) q p₁ few h.size ez long ∙ sym (ap (λ (x : AfterDeliver). x.queue) same))
        (λ x hx d. queue-other j (width j) q p₁ few h.size ez long x d)
        written many below fits s' l' es el

    -- the record as it was, put in its place
    unmoved : c.result.node ≡ w.records j → s ≡ stored_after s j c.result.node 0 0
    unmoved u =
        let nodes : set s.nodes j c.result.node ≡ s.nodes = ap (set s.nodes j) (u ∙ sym (h.records j hj)) ∙ set-get_or s.nodes j no_record in
        sym (stored-still s j c.result.node ∙ ap (λ (x : List Record). record { n = s.n; nodes = x; issued = s.issued; end = s.end }) nodes)

    pub deliver-nothing : (tried : ℕ) → a.answer ≡ deliver_answer.Nothing tried → DeliverDone (outcome.Nothing tried) s q₁ l
    deliver-nothing tried t =
        let e₀ : bytes_issued (delivered c.result.answer) ≡ 0 = tells (deliver_answer.Nothing tried) t in
        let u = told (deliver_answer.Nothing tried) t in
        subst (λ (x : AfterStep). (outcome.Nothing tried ≡ x.outcome) × Holds n caps limit (k + 1) x.world s q₁ l)
        (sym (deliver-goes ∙ ap (after_delivered w j c) t)) (
          refl,
          stored [] 0 (frames-joined (take (bytes_issued (delivered c.result.answer)) c.out) ∙ ap (λ (x : ℕ). take x c.out) e₀)
              (ap (λ (x : ℕ). length (frames_in (take x c.out))) e₀ ∙ ap length (cut-nothing c.out)) (omega (arith, h.below))
              (omega (arith, h.end, begins-inside (frames w.log) l h.begins)) s l (unmoved u.2) (sym (put-nil l s.end)),
        )

    module _ {d : Delivered} (t : a.answer ≡ deliver_answer.Frame d) where
      facts : DeliveredFacts n frame_output c.out d
      facts =
          subst (λ (x : ℕ). DeliveredFacts x frame_output c.out d) (reached-sized n caps k w h.reached h.range (omega arith) j hj)
          (told (deliver_answer.Frame d) t)

      pub delivered-inside : d.bytes ≤ length out
      delivered-inside = subst (λ (x : List ℕ). d.bytes ≤ length x) (ap (λ (x : AfterDeliver). x.out) same) facts.wrote.inside

      pub delivered-few : d.extras ≤ n - 1
      delivered-few = facts.few

      pub delivered-room : s.end + length (take d.bytes out) ≤ length l
      unfolding log_size
      delivered-room = omega (arith, end-room n caps limit k w s q l h (omega arith), length-take-le d.bytes out delivered-inside, facts.most, h.room)

      pub deliver-frame : (issue : ℕ)
          → issue ≡ issue_from 1 (record { kind = d.kind; from = d.from; number = d.number }) j (frames w.log) → (s' : Stored) (l' : List ℕ)
          → s' ≡ stored_after s j a.node d.extras (length (take d.bytes out)) → l' ≡ write l s.end (take d.bytes out)
          → DeliverDone (outcome.Delivered issue d.tried d.extras) s' q₁ l'
      deliver-frame issue ei s' l' es el =
          let f = facts in
          let e₀ : bytes_issued (delivered c.result.answer) ≡ d.bytes = tells (deliver_answer.Frame d) t in
          subst (λ (x : AfterStep). (outcome.Delivered issue d.tried d.extras ≡ x.outcome) × Holds n caps limit (k + 1) x.world s' q₁ l')
          (sym (deliver-goes ∙ ap (after_delivered w j c) t)) (
            ap (λ (x : ℕ). outcome.Delivered x d.tried d.extras) ei,
            stored (take d.bytes out) d.extras
                (frames-joined (take (bytes_issued (delivered c.result.answer)) c.out)
                ∙ ap₂ (λ (x : ℕ) (y : List ℕ). take x y) e₀ (ap (λ (x : AfterDeliver). x.out) same))
                (ap (λ (x : ℕ). length (frames_in (take x c.out))) e₀ ∙ wrote-frames f.wrote ∙ f.many)
                (omega (arith, f.few, h.least, goes.left)) delivered-room s' l'
                (es ∙ ap (λ (x : AfterDeliver). stored_after s j x.result.node d.extras (length (take d.bytes out))) (sym same)) el,
          )

-- what a delivery writes fits the log, and its frames can be counted
pub record DeliveryFits (s : Stored) (d : Delivered) (out l : List ℕ) : Type 0 where
  pub inside : d.bytes ≤ length out
  pub counted : s.issued + d.extras < 1000000
  pub room : s.end + length (take d.bytes out) ≤ length l

pub delivery-fits : {limit : ℕ} {s : Stored} {q l : List ℕ} → (limit < 1000000) × Standing limit s q l → (j : ℕ) {t : Bool}
    → t ≡ (leb s.n j || ltb (limit - s.issued) s.n) → t ≡ false → {a : Delivery} {p out : List ℕ} (body : List ℕ)
    → after_deliver a p out body ≡ deliver_call (get_or s.nodes j no_record) (take (width j) (drop (queue_size * j) q)) frame_output body_output
    → length p ≡ length (take (width j) (drop (queue_size * j) q))
    → {d : Delivered} → a.answer ≡ deliver_answer.Frame d → DeliveryFits s d out l
delivery-fits {limit} {s} {q} {l} r j {t} et on {a} {p} {out} body e long {d} b =
    let x = r.1 in
    let go : Goes x.holds j et = goes_on_lem x.holds j et on in
    let few : d.extras ≤ x.n - 1 = delivered-few x.n x.caps limit x.k x.world s q l x.holds x.more j et on a p out body e long b in
    record {
      inside = delivered-inside x.n x.caps limit x.k x.world s q l x.holds x.more j et on a p out body e long b;
      counted = omega (arith, few, r.0, x.holds.issued, x.holds.least, go.left);
      room = delivered-room x.n x.caps limit x.k x.world s q l x.holds x.more j et on a p out body e long b;
    }
