-- What the host's calls say, from what the node's say: an image that meets no 20 has a record that meets no 2. Assumes nothing.
use Prim.Native.Nat.{ℕ}
use mathlib.Core.Bool.{Bool, ◌||◌, cond, false, not, or-false, or-true, true}
use mathlib.Core.List.{List}
use mathlib.Core.Path.{◌∙◌, ◌≡◌, ap, refl}
use native.Mathlib.Omega.{arith}
use lib.Dec.{eqb, ltb}
use lib.ListN.{length}
use Rattle.wire.specs.Limits.{max_body}
use Rattle.rules.specs.Rules.{in_range}
use Rattle.holdback.specs.Slots.{queue_size}
use Rattle.node.specs.Answers.{AfterDeliver, AfterOffer, AfterSend, deliver_number, offer_number, send_number, SetUp}
use Rattle.node.specs.Calls.{deliver_call, offer_call, send_call}
use Rattle.node.specs.Record.{broken_record}
use Rattle.node.specs.SetUp.{fresh_record, set_up}
use Rattle.node.specs.Sizes.{out_size}
use Rattle.node.specs.DeliverAnswer.{DeliverAnswer}
use Rattle.node.specs.DeliverAnswer as deliver_answer
use Rattle.node.specs.OfferAnswer.{OfferAnswer}
use Rattle.node.specs.OfferAnswer as offer_answer
use Rattle.node.specs.SendAnswer.{SendAnswer}
use Rattle.node.specs.SendAnswer as send_answer
use Rattle.node.specs.SetUpAnswer as set_up_answer
use Rattle.host.specs.Exports.{DeliverLeft, OfferLeft, SendLeft, SetUpLeft, answer_size, deliver_told, offer_told}
use Rattle.host.specs.Exports.{exported_deliver, exported_offer, exported_send, exported_set_up, send_told, set_up_left, set_up_told}
use Rattle.host.proofs.Refused.{deliver-leaves, offer-leaves, send-leaves, set_up-leaves}
use Rattle.image.proofs.Reading.{good-image}
use Rattle.image.specs.Image.{bad_image, image, image_size, record_in}
use Rattle.refusals.proofs.First.{by_number, turned}
use Rattle.refusals.specs.CallChecks.{deliver_rest, host_deliver_checks, host_offer_checks, host_send_checks, host_set_up_checks, offer_rest, send_rest}
use Rattle.refusals.specs.Checks.{first_met}
use Rattle.refusals.specs.Demand1.{DeliverSays, HostDeliverSays, HostOfferSays, HostSendSays, HostSetUpSays, OfferSays, SendSays}

-- ---- 20 for 2

-- a call that looks at 20 and at the answer's length before the node's 2 and 3 has 20 for 2, and the answer's length in 3
status_of : {C : Type 0} (status : C → ℕ) (bad short broken t₃ : Bool) (rest : ℕ) {x y z : C} → (bad ≡ false → broken ≡ false)
    → status x ≡ 20 → status y ≡ 3 → status z ≡ cond broken 2 (cond t₃ 3 rest)
    → status (cond bad x (cond short y z)) ≡ cond bad 20 (cond (t₃ || short) 3 rest)
status_of status true short broken t₃ rest h p q e = p
status_of status false true broken t₃ rest h p q e = q ∙ rw (or-true t₃)
status_of status false false broken t₃ rest h p q e = e ∙ rw (h refl, or-false t₃)

-- ---- set-up
module _ (i : List ℕ) (me n cap : ℕ) where
  -- the call by its two checks
  abbrev set_up_by : Bool → Bool → SetUpLeft
  set_up_by far other = cond far (set_up_left 1 i) (cond other (set_up_left 20 i) (set_up_left 0 (image (fresh_record me n cap))))

  set_up-by : exported_set_up i me n cap ≡ set_up_by (not (in_range me n cap)) (not (eqb (length i) image_size))
  unfolding exported_set_up set_up
  set_up-by = go (in_range me n cap)
    where
      go : (b : Bool) → (let c : SetUp = cond b (record { answer = set_up_answer.Ready; node = fresh_record me n cap })
          (record { answer = set_up_answer.Refused 1; node = fresh_record 0 0 0 }) in
          set_up_told i c.node c.answer) ≡ set_up_by (not b) (not (eqb (length i) image_size))
      go true = turned (eqb (length i) image_size) (set_up_left 0 (image (fresh_record me n cap))) (set_up_left 20 i)
      go false = refl

  set_up-status : (far other : Bool) → (set_up_by far other).status ≡ cond far 1 (cond other 20 0)
  set_up-status true other = refl
  set_up-status false true = refl
  set_up-status false false = refl

  pub host_set_up_says : HostSetUpSays i me n cap (exported_set_up i me n cap)
  host_set_up_says =
      let far = not (in_range me n cap) in
      let other = not (eqb (length i) image_size) in
      record {
        numbers = refl;
        numbered =
            by_number (host_set_up_checks i me n cap) (exported_set_up i me n cap).status (omega arith)
            (ap (λ (c : SetUpLeft). c.status) set_up-by ∙ set_up-status far other);
        same = set_up-leaves i me n cap;
      }

-- ---- send
module _ (i : List ℕ) (to class : ℕ) (body out answer : List ℕ) where
  send-number : (c : AfterSend) (a : SendAnswer) → (send_told i answer c a).status ≡ send_number a
  send-number c (send_answer.Refused k) = refl
  send-number c (send_answer.Sent bytes extras) = refl

  pub host_send_says : SendSays (record_in i) to class body out (send_call (record_in i) to class body out)
      → HostSendSays i to class body out answer (exported_send i to class body out answer)
  unfolding exported_send
  host_send_says says =
      let r = record_in i in
      let c = send_call r to class body out in
      let short = ltb (length answer) answer_size in
      record {
        numbers = refl;
        numbered =
            by_number (host_send_checks i to class body out answer) (exported_send i to class body out answer).status (omega arith)
            (status_of (λ (l : SendLeft). l.status) (bad_image i) short (broken_record r) (ltb (length out) out_size) (first_met (send_rest r to class body))
            (λ g. (good-image i g).rules) refl refl (send-number c c.result.answer ∙ says.answers.numbered.first));
        same = send-leaves i to class body out answer;
      }

-- ---- offer
module _ (i s q answer : List ℕ) where
  offer-number : (c : AfterOffer) (a : OfferAnswer) → (offer_told i answer c a).status ≡ offer_number a
  offer-number c (offer_answer.Refused k) = refl
  offer-number c (offer_answer.Held count ready) = refl

  pub host_offer_says : OfferSays (record_in i) s q (offer_call (record_in i) s q) → HostOfferSays i s q answer (exported_offer i s q answer)
  unfolding exported_offer
  host_offer_says says =
      let r = record_in i in
      let c = offer_call r s q in
      let short = ltb (length answer) answer_size in
      record {
        numbers = refl;
        numbered =
            by_number (host_offer_checks i s q answer) (exported_offer i s q answer).status (omega arith)
            (status_of (λ (l : OfferLeft). l.status) (bad_image i) short (broken_record r) (not (eqb (length q) queue_size)) (first_met (offer_rest r s q))
            (λ g. (good-image i g).rules) refl refl (offer-number c c.result.answer ∙ says.answers.numbered.first));
        same = offer-leaves i s q answer;
      }

-- ---- deliver
module _ (i q out body answer : List ℕ) where
  deliver-number : (c : AfterDeliver) (a : DeliverAnswer) → (deliver_told i answer c a).status ≡ deliver_number a
  deliver-number c (deliver_answer.Refused k) = refl
  deliver-number c (deliver_answer.Nothing tried) = refl
  deliver-number c (deliver_answer.Frame d) = refl

  pub host_deliver_says : DeliverSays (record_in i) q out body (deliver_call (record_in i) q out body)
      → HostDeliverSays i q out body answer (exported_deliver i q out body answer)
  unfolding exported_deliver
  host_deliver_says says =
      let r = record_in i in
      let c = deliver_call r q out body in
      let short = ltb (length answer) answer_size in
      let t₃ = ltb (length out) out_size || ltb (length body) max_body || not (eqb (length q) queue_size) in
      record {
        numbers = refl;
        numbered =
            by_number (host_deliver_checks i q out body answer) (exported_deliver i q out body answer).status (omega arith)
            (status_of (λ (l : DeliverLeft). l.status) (bad_image i) short (broken_record r) t₃ (first_met (deliver_rest r q))
            (λ g. (good-image i g).rules) refl refl (deliver-number c c.result.answer ∙ says.answers.numbered.first));
        same = deliver-leaves i q out body answer;
      }
