-- Demand 1, from each call by its refusal. Assumes nothing.
use Rattle.std.specs.Prelude.{Err, None, Option as Asks, Some}
use Prim.Native.Nat.{ℕ, ◌+◌, ◌<◌}
use mathlib.Core.Bool.{Bool, true, false, cond, not, ◌&&◌}
use mathlib.Core.List.{List, []}
use mathlib.Core.Option.{Option, none, some}
use mathlib.Core.Path.{◌≡◌, refl, sym, ap, ◌∙◌}
use native.Mathlib.Omega.{arith}
use native.Mathlib.Decide.{ℕ_discrete}
use borrow.Author.Tests.{ne_eqb}
use lib.Dec.{eqb}
use lib.ListN.{length, take}
use Rattle.frame.specs.Frame.{decode}
use Rattle.frame.specs.Header.{header}
use Rattle.frame.specs.Refusals.{frame_refusal, wrong_address, wrong_content, wrong_kind, wrong_trailer}
use Rattle.holdback.specs.WrongQueue.{wrong_queue}
use Rattle.holdback.specs.Slots.{queue_size}
use Rattle.node.proofs.Delivering.{concluded, deliver-by-refusal}
use Rattle.node.proofs.Offering.{offer-by-refusal}
use Rattle.node.proofs.Sending.{send-by-refusal}
use Rattle.node.specs.Answers.{AfterDeliver, AfterOffer, AfterSend, deliver_number, offer_number, send_number, set_up_number, SetUp}
use Rattle.node.specs.Calls.{accept_deliver, accept_offer, accept_send, deliver_call, offer_call, refuse_deliver, refuse_offer, refuse_send, send_call}
use Rattle.node.specs.CallRefusals.{deliver_refusal, hold_refusal, offer_refusal, record_refusal, send_refusal}
use Rattle.node.specs.Record.{node_at, broken_record, node_of}
use Rattle.node.specs.SetUp.{fresh_record, set_up}
use Rattle.image.specs.Image.{record_in}
use Rattle.protocol.specs.Answer.{Label, Outcome, delivery}
use Rattle.protocol.specs.Node.{at_limit}
use Rattle.protocol.specs.Offer.{holding}
use Rattle.protocol.specs.Send.{sending}
use Rattle.rules.specs.Rules.{in_range}
use Rattle.trail.specs.Cursor.{passing, wrong_window}
use Rattle.trail.specs.Sound.{extra_bit, unsound}
use Rattle.trail.specs.Step.{step_at, step_call, step_number}
use Rattle.trail.specs.Walk.{bad_end, last_frame, last_length, last_start, walk, walk_call, walk_number}
use Rattle.trail.specs.Windows.{largest}
use Rattle.trail.specs.Write.{AfterWrite, after_write, no_room_for, write_call, write_number}
use Rattle.trail.specs.declared.walk.Cursor.{Cursor}
use Rattle.trail.specs.StepAnswer.{StepAnswer}
use Rattle.trail.specs.StepAnswer as step_answer
use Rattle.trail.specs.WalkAnswer as walk_answer
use Rattle.trail.specs.WriteAnswer as write_answer
use Rattle.wire.proofs.Tests.{not-both}
use Rattle.wire.specs.Bytes.{put}
use Rattle.text.proofs.Print.{run_short}
use Rattle.text.specs.Output.{after_run, too_short}
use Rattle.text.specs.Print.{refusal_row}
use Rattle.request.proofs.Laws.{in_range_lem, other-refused}
use Rattle.request.specs.Refusal18.{out_of_range, refused18, wrong}
use Rattle.request.specs.Request.{request}
use Rattle.request.specs.declared.Load.{Load}
use Rattle.sweep.proofs.Outputs.{answered-refused, answered-table, not-refusal}
use Rattle.sweep.specs.Load as load
use Rattle.sweep.specs.Run.{output_size, run_call}
use Rattle.refusals.proofs.First.{by_first, first-lowest, turned}
use Rattle.refusals.proofs.Host.{host_deliver_says, host_offer_says, host_send_says, host_set_up_says}
use Rattle.refusals.specs.CallChecks.{deliver_checks, load_checks, offer_checks, send_checks, set_up_checks, step_checks, walk_checks, write_checks}
use Rattle.refusals.specs.Checks.{Answers, First, first_met}
use Rattle.refusals.specs.Demand1.{DeliverSays, Demand1, LoadSays, OfferSays, SendSays, SetUpSays, StepSays, WalkSays, WriteSays}
use Rattle.node.specs.declared.Node.{Node as Record}
use Rattle.node.specs.SetUpAnswer as set_up_answer
use Rattle.node.specs.SendAnswer as send_answer
use Rattle.node.specs.OfferAnswer as offer_answer
use Rattle.node.specs.DeliverAnswer as deliver_answer

-- a part of a call that is refused by k, or accepted where k is 0
part : {A C : Type 0} (f : C → A) (c : C) (k : ℕ) (x : C) (g : ℕ → C) → c ≡ cond (eqb k 0) x (g k) → f c ≡ cond (eqb k 0) (f x) (f (g k))
part {A} {C} f c k x g e = go (ℕ_discrete k 0)
  where
    go : Dec (k ≡ 0) → f c ≡ cond (eqb k 0) (f x) (f (g k))
    go (yes p) = ap f e ∙ rw p
    go (no h) = ap f e ∙ rw (ne_eqb k 0 h)

-- a call whose number is not 0 is refused
refused : {C : Type 0} (f : C → ℕ) (c : C) (k : ℕ) (x : C) (g : ℕ → C) → c ≡ cond (eqb k 0) x (g k) → f x ≡ 0 → ¬ (f c ≡ 0) → c ≡ g k
refused {C} f c k x g e z h = go (ℕ_discrete k 0)
  where
    go : Dec (k ≡ 0) → c ≡ g k
    go (yes p) = absurd (h (ap f (e ∙ rw p) ∙ z))
    go (no q) = e ∙ rw (ne_eqb k 0 q)

-- ---- set-up
ready-not : (k : ℕ) → ¬ (set_up_answer.Ready ≡ set_up_answer.Refused k)
ready-not k e = let z : ◌≡◌ {A = ℕ} 0 1 = cc in absurd (omega arith)

-- set-up by its check
abbrev refuse_set_up : ℕ → SetUp
refuse_set_up k = record { answer = set_up_answer.Refused k; node = fresh_record 0 0 0 }

abbrev accept_set_up : ℕ → ℕ → ℕ → SetUp
accept_set_up me n cap = record { answer = set_up_answer.Ready; node = fresh_record me n cap }

set_up-by : (me n cap : ℕ) → set_up me n cap
    ≡ cond (eqb (first_met (set_up_checks me n cap)) 0) (accept_set_up me n cap) (refuse_set_up (first_met (set_up_checks me n cap)))
unfolding set_up
set_up-by me n cap = go (in_range me n cap)
  where
    go : (b : Bool) → cond b (accept_set_up me n cap) (refuse_set_up 1) ≡ cond (eqb (cond (not b) 1 0) 0) (accept_set_up me n cap) (refuse_set_up (cond (not b) 1 0))
    go true = refl
    go false = refl

set_up_says : (me n cap : ℕ) → SetUpSays me n cap (set_up me n cap)
set_up_says me n cap =
    let l = set_up_checks me n cap in
    let c = set_up me n cap in
    record {
      numbers = refl;
      answers =
          by_first set_up_answer.Refused set_up_number l set_up_answer.Ready c.answer (omega arith)
          (part (λ (s : SetUp). s.answer) c (first_met l) (accept_set_up me n cap) refuse_set_up (set_up-by me n cap)) (λ k. refl) refl ready-not;
      all_zero =
          λ h. ap (λ (s : SetUp). s.node)
          (refused (λ (s : SetUp). set_up_number s.answer) c (first_met l) (accept_set_up me n cap) refuse_set_up (set_up-by me n cap) refl h);
    }

-- ---- send
sent-not : (bytes extras k : ℕ) → ¬ (send_answer.Sent bytes extras ≡ send_answer.Refused k)
sent-not bytes extras k e = let z : ◌≡◌ {A = ℕ} 0 1 = cc in absurd (omega arith)

send_by : (r : Record) (to class : ℕ) (body out : List ℕ)
    → send_call r to class body out ≡ cond (eqb (first_met (send_checks r to class body out)) 0) (accept_send r out (sending (node_of r []) to body))
    (refuse_send (first_met (send_checks r to class body out)) r out)
unfolding send_refusal
send_by r to class body out = send-by-refusal r to class body out

send_says : (r : Record) (to class : ℕ) (body out : List ℕ) → SendSays r to class body out (send_call r to class body out)
send_says r to class body out =
    let l = send_checks r to class body out in
    let c = send_call r to class body out in
    let x = accept_send r out (sending (node_of r []) to body) in
    let g : ℕ → AfterSend = λ k. refuse_send k r out in
    let left : ¬ (send_number c.result.answer ≡ 0) → c ≡ g (first_met l)
    = refused (λ (s : AfterSend). send_number s.result.answer) c (first_met l) x g (send_by r to class body out) refl in
    record {
      numbers = refl;
      rising = omega arith;
      answers =
          by_first send_answer.Refused send_number l x.result.answer c.result.answer (omega arith)
          (part (λ (s : AfterSend). s.result.answer) c (first_met l) x g (send_by r to class body out)) (λ k. refl) refl (sent-not _ _);
      same = λ h. (ap (λ (s : AfterSend). s.result.node) (left h), ap (λ (s : AfterSend). s.out) (left h));
    }

-- ---- offer
held-not : (count : ℕ) (ready : Bool) (k : ℕ) → ¬ (offer_answer.Held count ready ≡ offer_answer.Refused k)
held-not count ready k e = let z : ◌≡◌ {A = ℕ} 0 1 = cc in absurd (omega arith)

-- 8 to 11 one after the other
frame_checks : (t₈ t₉ t₁₀ t₁₁ : Bool) (x : ℕ) → let f : ℕ = cond t₈ 8 (cond t₉ 9 (cond t₁₀ 10 (cond t₁₁ 11 0))) in
    cond (not (eqb f 0)) f x ≡ cond t₈ 8 (cond t₉ 9 (cond t₁₀ 10 (cond t₁₁ 11 x)))
frame_checks true t₉ t₁₀ t₁₁ x = refl
frame_checks false true t₁₀ t₁₁ x = refl
frame_checks false false true t₁₁ x = refl
frame_checks false false false true x = refl
frame_checks false false false false x = refl

offer-first : (r : Record) (s q : List ℕ) → offer_refusal r s q ≡ first_met (offer_checks r s q)
unfolding offer_refusal record_refusal frame_refusal hold_refusal
offer-first r s q =
    ap (λ (k : ℕ). cond (broken_record r) 2 (cond (not (eqb (length q) queue_size)) 3 (cond (wrong_queue (node_of r []) r.held q) 4 k)))
    (frame_checks (wrong_trailer s) (wrong_kind (header s)) (wrong_address r.n (header s))
    (wrong_content r.n s) (hold_refusal (node_at r q) (decode s)))

offer-by : (r : Record) (s q : List ℕ)
    → offer_call r s q ≡ cond (eqb (first_met (offer_checks r s q)) 0) (accept_offer r s q (holding (node_at r q) (decode s)))
    (refuse_offer (first_met (offer_checks r s q)) r q)
offer-by r s q =
    offer-by-refusal r s q
    ∙ ap (λ (k : ℕ). cond (eqb k 0) (accept_offer r s q (holding (node_at r q) (decode s))) (refuse_offer k r q)) (offer-first r s q)

offer_says : (r : Record) (s q : List ℕ) → OfferSays r s q (offer_call r s q)
offer_says r s q =
    let l = offer_checks r s q in
    let c = offer_call r s q in
    let x = accept_offer r s q (holding (node_at r q) (decode s)) in
    let g : ℕ → AfterOffer = λ k. refuse_offer k r q in
    let left : ¬ (offer_number c.result.answer ≡ 0) → c ≡ g (first_met l)
    = refused (λ (a : AfterOffer). offer_number a.result.answer) c (first_met l) x g (offer-by r s q) refl in
    record {
      numbers = refl;
      rising = omega arith;
      answers =
          by_first offer_answer.Refused offer_number l x.result.answer c.result.answer (omega arith)
          (part (λ (a : AfterOffer). a.result.answer) c (first_met l) x g (offer-by r s q)) (λ k. refl) refl (held-not _ _);
      same = λ h. (ap (λ (a : AfterOffer). a.result.node) (left h), ap (λ (a : AfterOffer). a.queue) (left h));
    }

-- ---- deliver

-- a deliver that is accepted is no refusal
accepted-number : (r : Record) (q out body : List ℕ) (o : Outcome) (d : Option Label) → deliver_number (accept_deliver r q out body o d).result.answer ≡ 0
accepted-number r q out body o none = refl
accepted-number r q out body o (some a) = refl

accepted-not : (r : Record) (q out body : List ℕ) (o : Outcome) (d : Option Label) (k : ℕ)
    → ¬ ((accept_deliver r q out body o d).result.answer ≡ deliver_answer.Refused k)
accepted-not r q out body o none k e = let z : ◌≡◌ {A = ℕ} 0 1 = cc in absurd (omega arith)
accepted-not r q out body o (some a) k e = let z : ◌≡◌ {A = ℕ} 0 1 = cc in absurd (omega arith)

deliver-by : (r : Record) (q out body : List ℕ)
    → deliver_call r q out body
    ≡ cond (eqb (first_met (deliver_checks r q out body)) 0) (accept_deliver r q out body (concluded r q) (delivery (concluded r q).answer))
    (refuse_deliver (first_met (deliver_checks r q out body)) r q out body)
unfolding deliver_refusal record_refusal at_limit
deliver-by r q out body = deliver-by-refusal r q out body

deliver_says : (r : Record) (q out body : List ℕ) → DeliverSays r q out body (deliver_call r q out body)
deliver_says r q out body =
    let l = deliver_checks r q out body in
    let c = deliver_call r q out body in
    let o = concluded r q in
    let x = accept_deliver r q out body o (delivery o.answer) in
    let g : ℕ → AfterDeliver = λ k. refuse_deliver k r q out body in
    let z = accepted-number r q out body o (delivery o.answer) in
    let left : ¬ (deliver_number c.result.answer ≡ 0) → c ≡ g (first_met l)
    = refused (λ (a : AfterDeliver). deliver_number a.result.answer) c (first_met l) x g (deliver-by r q out body) z in
    record {
      numbers = refl;
      rising = omega arith;
      answers =
          by_first deliver_answer.Refused deliver_number l x.result.answer c.result.answer (omega arith)
          (part (λ (a : AfterDeliver). a.result.answer) c (first_met l) x g (deliver-by r q out body)) (λ k. refl) z
          (accepted-not r q out body o (delivery o.answer));
      same = λ h. (
        ap (λ (a : AfterDeliver). a.result.node) (left h),
        ap (λ (a : AfterDeliver). a.queue) (left h),
        ap (λ (a : AfterDeliver). a.out) (left h),
        ap (λ (a : AfterDeliver). a.body) (left h),
      );
    }

-- ---- the load
tabled-not : (n seed draws k : ℕ) → ¬ (load.tabled n seed draws ≡ load.refused k)
tabled-not n seed draws k e = let z : ◌≡◌ {A = ℕ} 0 1 = cc in absurd (omega arith)

-- what an input may ask for
abbrev Asked : Type 0
Asked = Asks Load

-- the table that a request is answered with where it is not refused
abbrev table_of : Asked → load.Answer
table_of (Some r) = load.tabled r.n r.seed r.draws
table_of None = load.tabled 0 0 0

table-not : (r : Asked) (k : ℕ) → ¬ (table_of r ≡ load.refused k)
table-not (Some r) k = tabled-not r.n r.seed r.draws k
table-not None k = tabled-not 0 0 0 k

table-number : (r : Asked) → load.load_number (table_of r) ≡ 0
table-number (Some r) = refl
table-number None = refl

answer-by : (b : Bool) (x : load.Answer) → cond b (load.refused 18) x ≡ cond (eqb (cond b 18 0) 0) x (load.refused (cond b 18 0))
answer-by true x = refl
answer-by false x = refl

load-by : (r : Asked) → load.answered r ≡ cond (eqb (cond (wrong r) 18 0) 0) (table_of r) (load.refused (cond (wrong r) 18 0))
unfolding load.answered wrong
load-by (Some r) = answer-by (out_of_range r.n r.seed r.draws) (load.tabled r.n r.seed r.draws)
load-by None = refl

module _ (s : List ℕ) where
  load-answers : Answers load.refused load.load_number (load_checks s) (load.answered (request s))
  unfolding refused18
  load-answers =
      by_first load.refused load.load_number (load_checks s) (table_of (request s)) (load.answered (request s)) (omega arith) (load-by (request s)) (λ k. refl)
      (table-number (request s)) (table-not (request s))

  -- where it is not refused, a table is printed
  never-printed : (r : Asked) → request s ≡ r → wrong (request s) ≡ false → ¬ (load.output s ≡ refusal_row 18)
  never-printed (Some r) e h p =
      let i = in_range_lem (request s) r e h in
      not-refusal r.n r.seed r.draws 18 i.two_nodes i.four_nodes (ap load.printed (sym (answered-table (request s) r e h)) ∙ p)
  never-printed None e h p = not-both (wrong (request s)) (other-refused (request s) e) h

  load-printed : load.output s ≡ refusal_row 18 → First (load_checks s) 18
  load-printed p = go (wrong (request s)) refl
    where
      go : (b : Bool) → wrong (request s) ≡ b → First (load_checks s) 18
      go true e = load-answers.refusal 18 (answered-refused (request s) e)
      go false e = absurd (never-printed (request s) refl e p)

  load_same : (out : List ℕ) → length out < output_size → run_call s out ≡ after_run (Err too_short) out
  unfolding run_call
  load_same out h = sym (run_short output_size (load.output s) out h)

  load_says : LoadSays s
  load_says =
      record {
        numbers = refl;
        answers = load-answers;
        printed = load-printed;
        prints = λ f. ap load.printed (load-answers.refuses 18 f);
        same = load_same;
      }

-- ---- the trail
written-not : (used k : ℕ) → ¬ (write_answer.Written used ≡ write_answer.Refused k)
written-not used k e = let z : ◌≡◌ {A = ℕ} 0 1 = cc in absurd (omega arith)

end-not : (most k : ℕ) → ¬ (step_answer.End most ≡ step_answer.Refused k)
end-not most k e = let z : ◌≡◌ {A = ℕ} 0 1 = cc in absurd (omega arith)

shown-not : (start size : ℕ) (next : Cursor) (k : ℕ) → ¬ (step_answer.Shown start size next ≡ step_answer.Refused k)
shown-not start size next k e = let z : ◌≡◌ {A = ℕ} 0 1 = cc in absurd (omega arith)

largest-not : (most k : ℕ) → ¬ (walk_answer.Largest most ≡ walk_answer.Refused k)
largest-not most k e = let z : ◌≡◌ {A = ℕ} 0 1 = cc in absurd (omega arith)

-- two checks, the first of them looked at first
by_two : {A : Type 0} (t u : Bool) (i j : ℕ) (x : A) (g : ℕ → A) → ¬ (i ≡ 0) → ¬ (j ≡ 0)
    → cond t (g i) (cond u (g j) x) ≡ cond (eqb (cond t i (cond u j 0)) 0) x (g (cond t i (cond u j 0)))
by_two true u i j x g p q = rw (ne_eqb i 0 p)
by_two false true i j x g p q = rw (ne_eqb j 0 q)
by_two false false i j x g p q = refl

write_says : (file : List ℕ) (used : ℕ) (frame : List ℕ) → WriteSays file used frame (write_call file used frame)
unfolding write_call
write_says file used frame =
    let l = write_checks file used frame in
    let c = write_call file used frame in
    let x = after_write (write_answer.Written (used + length frame)) (put file used frame) in
    let g : ℕ → AfterWrite = λ k. after_write (write_answer.Refused k) file in
    let by = by_two (unsound frame) (no_room_for file used frame) 19 3 x g (λ e. omega arith) (λ e. omega arith) in
    record {
      numbers = refl;
      answers =
          by_first write_answer.Refused write_number l x.answer c.answer (omega arith)
          (part (λ (a : AfterWrite). a.answer) c (first_met l) x g by) (λ k. refl) refl (written-not (used + length frame));
      same = λ h. ap (λ (a : AfterWrite). a.file) (refused (λ (a : AfterWrite). write_number a.answer) c (first_met l) x g by refl h);
    }

-- a step that is not refused: the start, or a frame
abbrev goes_on : Bool → ℕ → ℕ → ℕ → Cursor → StepAnswer
goes_on b most start size next = cond b (step_answer.End most) (step_answer.Shown start size next)

goes_number : (b : Bool) (most start size : ℕ) (next : Cursor) → step_number (goes_on b most start size next) ≡ 0
goes_number true most start size next = refl
goes_number false most start size next = refl

goes_not : (b : Bool) (most start size : ℕ) (next : Cursor) (k : ℕ) → ¬ (goes_on b most start size next ≡ step_answer.Refused k)
goes_not true most start size next k = end-not most k
goes_not false most start size next k = shown-not start size next k

-- what is left is looked at before its end is
left-first : (b d : Bool) (x y z : StepAnswer) → cond b x (cond d z y) ≡ cond (not b && d) z (cond b x y)
left-first true d x y z = refl
left-first false d x y z = refl

step_says : (file : List ℕ) (c : Cursor) → StepSays file c
unfolding step_call step_at
step_says file c =
    let s = take c.end file in
    let next = passing c (last_start s) (extra_bit (last_frame s)) in
    let x = goes_on (eqb (length s) 0) c.most (last_start s) (last_length s) next in
    record {
      numbers = refl;
      answers =
          by_first step_answer.Refused step_number (step_checks file c) x (step_call file c) (omega arith)
          (ap (cond (wrong_window c.w) (step_answer.Refused 19))
          (left-first (eqb (length s) 0) (bad_end s) (step_answer.End c.most) (step_answer.Shown (last_start s) (last_length s) next) (step_answer.Refused 19))
          ∙ by_two (wrong_window c.w) (not (eqb (length s) 0) && bad_end s) 19 19 x step_answer.Refused (λ e. omega arith) (λ e. omega arith)) (λ k. refl)
          (goes_number (eqb (length s) 0) c.most (last_start s) (last_length s) next)
          (goes_not (eqb (length s) 0) c.most (last_start s) (last_length s) next);
    }

walk_says : (file : List ℕ) (w : ℕ) → WalkSays file w
unfolding walk_call
walk_says file w =
    let t = eqb (length (walk file).left) 0 in
    let x = walk_answer.Largest (largest w (walk file).kinds) in
    record {
      numbers = refl;
      answers =
          by_first walk_answer.Refused walk_number (walk_checks file w) x (walk_call file w) (omega arith)
          (ap (cond (wrong_window w) (walk_answer.Refused 19)) (turned t x (walk_answer.Refused 19))
          ∙ by_two (wrong_window w) (not t) 19 19 x walk_answer.Refused (λ e. omega arith) (λ e. omega arith)) (λ k. refl) refl
          (largest-not (largest w (walk file).kinds));
    }

pub demand1 : Demand1
demand1 =
    record {
      set_up = set_up_says;
      send = send_says;
      offer = offer_says;
      deliver = deliver_says;
      host_set_up = host_set_up_says;
      host_send = λ i to class body out answer. host_send_says i to class body out answer (send_says (record_in i) to class body out);
      host_offer = λ i s q answer. host_offer_says i s q answer (offer_says (record_in i) s q);
      host_deliver = λ i q out body answer. host_deliver_says i q out body answer (deliver_says (record_in i) q out body);
      load = load_says;
      write = write_says;
      step = step_says;
      walk = walk_says;
      lowest = first-lowest;
    }
