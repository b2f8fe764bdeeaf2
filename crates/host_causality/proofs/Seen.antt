-- Demand 3 of the world of the node's calls holds of what the host sees. Assumes nothing.
use Prim.Native.Nat.{◌-◌, ◌<◌, ◌≤◌, ℕ}
use mathlib.Core.Bool.{true}
use mathlib.Core.List.{List, map}
use mathlib.Core.Logic.{◌⊎◌, inl, inr}
use mathlib.Core.Option.{some}
use mathlib.Core.Path.{◌∙◌, ◌≡◌, ap, ap₂, subst, sym}
use native.Mathlib.Decide.{dec_lt}
use native.Mathlib.Omega.{arith}
use lib.Dec.{eqb}
use lib.ListN.{get_elem?, length-replicate, replicate}
use Rattle.wire.proofs.Tests.{cond_yes, of_true}
use Rattle.wire.specs.Limits.{max_body, max_held}
use Rattle.matrix.specs.Array.{entry}
use Rattle.matrix.specs.Matrix.{count}
use Rattle.holdback.specs.Slots.{held_frames}
use Rattle.protocol.proofs.Lists.{at_map, map_at}
use Rattle.node.specs.Answers.{AfterDeliver, AfterOffer, offer_number, send_number}
use Rattle.node.specs.Calls.{deliver_call, offer_call, refuse_deliver, refuse_offer, send_call}
use Rattle.node.specs.Record.{broken_record}
use Rattle.node.specs.Sizes.{out_size}
use Rattle.node.specs.declared.Node.{Node as Record}
use Rattle.causality.specs.AcceptedOnce.{AcceptedOnceFor, Accepts}
use Rattle.causality.specs.Ceiling.{CeilingFor, StepIssues, extras, users_delivered, users_issued}
use Rattle.causality.specs.Demand3.{Delivered, Demand3For, DeliversNew, Earliest, Event, Held, HeldAgrees, Issue}
use Rattle.causality.specs.Demand3.{World, delivered, deliveries, delivery, destination, held_at}
use Rattle.causality.specs.Demand3.{offers_accepted, queued, refusal}
use Rattle.causality.specs.Rights.{RightsFor, SentBy}
use Rattle.causality.specs.ListRefusals.{Expected, ListRefusalsFor, OneOf, impossible}
use Rattle.image.proofs.Images.{image_laws}
use Rattle.image.specs.Image.{SoundRecord, record_in}
use Rattle.host_causality.proofs.Calls.{sound_record}
use Rattle.host_causality.proofs.Sees.{Sees, forget_event}
use Rattle.host_causality.proofs.Forgotten.{accepted-back, before_back, delivered-back, delivered-there, same-answers, same-expected, same-given}
use Rattle.host_causality.proofs.Forgotten.{same-extras, same-issued, same_received, same-refusal, same_sum, same_taken}
use Rattle.host_causality.proofs.Shown.{forget_answer}
use Rattle.host_causality.specs.HostDemand3.{HostWorld, seen}

-- ---- no call is accepted at a node that is not there

offer-refused_2 : (r : Record) (s q : List ℕ) → broken_record r ≡ true → offer_number (offer_call r s q).result.answer ≡ 2
unfolding offer_call
offer-refused_2 r s q b =
    ap (λ (c : AfterOffer). offer_number c.result.answer) (cond_yes (broken_record r) (refuse_offer 2 r q) _ (of_true (broken_record r) b))

deliver-refused_2 : (r : Record) (q out body : List ℕ) → broken_record r ≡ true → deliver_call r q out body ≡ refuse_deliver 2 r q out body
unfolding deliver_call
deliver-refused_2 r q out body b = cond_yes (broken_record r) (refuse_deliver 2 r q out body) _ (of_true (broken_record r) b)

-- ---- a world

module _ (n : ℕ) (h : HostWorld) (w : World) (m : Sees n h w) where
  offered-inside : (j : ℕ) (s : List ℕ) → offer_number (offer_call (w.records j) s (w.queues j)).result.answer ≡ 0 → j < n
  offered-inside j s e = go (dec_lt j n)
    where
      go : Dec (j < n) → j < n
      go (yes h) = h
      go (no h) = absurd (omega (arith, offer-refused_2 (w.records j) s (w.queues j) (m.none j (omega arith))))

  delivers-inside : (j : ℕ) → DeliversNew w j → j < n
  delivers-inside j d = go (dec_lt j n)
    where
      out : List ℕ
      out = replicate out_size 0

      body : List ℕ
      body = replicate max_body 0

      go : Dec (j < n) → j < n
      go (yes h) = h
      go (no h) =
          let e = d.answers out body (omega (arith, length-replicate {A = ℕ} out_size 0)) (omega (arith, length-replicate {A = ℕ} max_body 0)) in
          let f = ap (λ (c : AfterDeliver). delivery (delivered c.result.answer))
          (deliver-refused_2 (w.records j) (w.queues j) out body (m.none j (omega arith))) in
          let z : ◌≡◌ {A = ℕ} 0 1 = cc in
          absurd (omega arith)

  -- ---- what the host sees of it

  pub sound : (i : ℕ) → i < n → SoundRecord (w.records i)
  sound i k = sound_record (w.records i) (w.queues i) (m.nodes i k)

  same_record : (i : ℕ) → i < n → record_in (h.images i) ≡ w.records i
  same_record i k = ap record_in (m.images i k) ∙ image_laws.back (w.records i) (sound i k)

  abbrev pub v : World
  v = record { records = λ i. record_in (h.images i); queues = h.queues; log = w.log; history = map forget_event w.history }

  -- what holds of v holds of what the host sees, which is the same
  pub turn : (P : World → Type 0) → P v → P (seen h)
  turn P = subst P (λ z. record { records = λ i. record_in (h.images i); queues = h.queues; log = sym m.log z; history = sym m.history z })

  some-there : (s : List ℕ) → Delivered w s → Delivered v s
  some-there s d = (d.0, delivered-there w.history d.0 s d.1)

  some_back : (s : List ℕ) → Delivered v s → Delivered w s
  some_back s d = (d.0, delivered-back w.history d.0 s d.1)

  held-there : (p : ℕ) (s : List ℕ) → Held w p s → Held v p s
  held-there p s h =
      record {
        place = h.place;
        event = forget_event h.event;
        at = at_map forget_event w.history h.place h.event h.at;
        offered = h.offered;
        accepted = ap (λ (k : ℕ). eqb k 0) (same-refusal h.event.answer) ∙ h.accepted;
        undelivered = λ d. h.undelivered (some_back s d);
      }

  held_back : (p : ℕ) (s : List ℕ) → Held v p s → Held w p s
  held_back p s h =
      let x = map_at forget_event w.history h.place h.event h.at in
      record {
        place = h.place;
        event = x.0;
        at = x.1;
        offered = ap (λ (e : Event). e.step) x.2 ∙ h.offered;
        accepted = accepted-back x.0 h.event x.2 h.accepted;
        undelivered = λ d. h.undelivered (some-there s d);
      }

  held-count : (j : ℕ) → held_at v j ≡ held_at w j
  held-count j = ap₂ ◌-◌ (same-answers offers_accepted same_taken j w.history) (same-answers deliveries same-given j w.history)

  earliest_there : (p : ℕ) (g : Issue) → Earliest w p g → Earliest v p g
  earliest_there p g e =
      record { at = e.at; undelivered = λ d. e.undelivered (some_back g.frame d); earlier = λ q h l a. some-there h.frame (e.earlier q h l a) }

  earliest_back : (p : ℕ) (g : Issue) → Earliest v p g → Earliest w p g
  earliest_back p g e =
      record { at = e.at; undelivered = λ d. e.undelivered (some-there g.frame d); earlier = λ q h l a. some_back h.frame (e.earlier q h l a) }

  seen-queued : (j : ℕ) → j < n → queued v j ≡ queued w j
  seen-queued j h = ap₂ (λ (r : Record) (q : List ℕ). held_frames r.held q) (same_record j h) (m.queues j)

  module _ (caps : ℕ → ℕ) (d : Demand3For n caps w) where
    -- the two promises of a next call, with the node that they speak of
    pub accepts-there : (p : ℕ) (g : Issue) → Earliest v p g → ¬ Held v p g.frame → held_at v (destination g.frame) < max_held
        → (let j = destination g.frame in (j < n) × (offer_number (offer_call (w.records j) g.frame (w.queues j)).result.answer ≡ 0))
    accepts-there p g e away room =
        let j = destination g.frame in
        let a = d.accepts p g (earliest_back p g e) (λ h. away (held-there p g.frame h)) (subst (λ (k : ℕ). k < max_held) (held-count j) room) in
        (offered-inside j g.frame a, a)

    pub delivers-there : (p : ℕ) (g : Issue) → Earliest v p g → Held v p g.frame ⊎ (held_at v (destination g.frame) ≡ max_held)
        → (let j = destination g.frame in (j < n) × DeliversNew w j)
    delivers-there p g e c = let a = d.delivers p g (earliest_back p g e) (turn c) in (delivers-inside (destination g.frame) a, a)
      where
        turn : Held v p g.frame ⊎ (held_at v (destination g.frame) ≡ max_held) → Held w p g.frame ⊎ (held_at w (destination g.frame) ≡ max_held)
        turn (inl h) = inl (held_back p g.frame h)
        turn (inr h) = inr (sym (held-count (destination g.frame)) ∙ h)

    seen-new : (j : ℕ) → j < n → DeliversNew w j → DeliversNew v j
    seen-new j h x =
        record {
          place = x.place;
          issue = x.issue;
          at = x.at;
          here = x.here;
          new = λ y. x.new (some_back x.issue.frame y);
          answers =
              λ out body a b. ap₂ (λ (r : Record) (q : List ℕ). delivery (delivered (deliver_call r q out body).result.answer)) (same_record j h) (m.queues j)
              ∙ x.answers out body a b;
        }

    seen-agrees : (j : ℕ) → j < n → HeldAgrees v j
    seen-agrees j h =
        let a = d.agrees j h in
        let q = seen-queued j h in
        let there : (k : ℕ) (s : List ℕ) → get_elem? (queued v j) k ≡ some s → get_elem? (queued w j) k ≡ some s
        = λ k s e. ap (λ (l : List (List ℕ)). get_elem? l k) (sym q) ∙ e in
        record {
          number = ap (λ (r : Record). r.held) (same_record j h) ∙ a.number ∙ sym (held-count j);
          each = λ k s e. let x = a.each k s (there k s e) in (x.0, x.1, x.2, x.3, x.4, held-there x.0 s x.5);
          all =
              λ p g at to x. let y = a.all p g at to (held_back p g.frame x) in
              (y.0, ap (λ (l : List (List ℕ)). get_elem? l y.0) q ∙ y.1);
          apart = λ k l s x y. a.apart k l s (there k s x) (there l s y);
        }

    pub seen-demand3 : Demand3For n caps v
    seen-demand3 =
        record {
          causal =
              λ p q u g h a b x y same before at.
              let r = d.causal p q u g h a b x y same (before_back w.history w.log g.step h.step before)
              (delivered-back w.history u h.frame at) in
              (r.0, r.1, delivered-there w.history r.0 g.frame r.2);
          once =
              λ p t u g a x y. d.once p t u g a (delivered-back w.history t g.frame x) (delivered-back w.history u g.frame y);
          distinct = d.distinct;
          kept = λ i h. subst (λ (r : Record). count (entry r.m) ≤ caps i) (sym (same_record i h)) (d.kept i h);
          carried = d.carried;
          exists =
              λ p g a x. let r = d.exists p g a (λ y. x (some-there g.frame y)) in
              (r.0, r.1, earliest_there r.0 r.1 r.2);
          accepts =
              λ p g e away room. let a = accepts-there p g e away room in
              ap₂ (λ (r : Record) (q : List ℕ). offer_number (offer_call r g.frame q).result.answer) (same_record (destination g.frame) a.0)
              (m.queues (destination g.frame)) ∙ a.1;
          delivers = λ p g e c. let a = delivers-there p g e c in seen-new (destination g.frame) a.0 a.1;
          agrees = seen-agrees;
        }

  pub seen-refusals : ListRefusalsFor w → ListRefusalsFor v
  seen-refusals r =
      record {
        only =
            λ t f a. let x = map_at forget_event w.history t f a in
            subst (λ (e : Event). Expected e.answer) x.2 (same-expected x.0.answer (r.only t x.0 x.1));
        never =
            λ t f a y. let x = map_at forget_event w.history t f a in
            r.never t x.0 x.1
            (subst (λ (k : ℕ). OneOf k impossible) (ap (λ (e : Event). refusal e.answer) (sym x.2) ∙ same-refusal x.0.answer) y);
      }

  pub seen-once : AcceptedOnceFor w → AcceptedOnceFor v
  seen-once o t u p e f a b x y =
      let v = map_at forget_event w.history t e a in
      let z = map_at forget_event w.history u f b in
      o t u p v.0 z.0 v.1 z.1 (back v.0 e p v.2 x) (back z.0 f p z.2 y)
    where
      back : (e f : Event) (p : ℕ) → forget_event e ≡ f → Accepts f p → Accepts e p
      back e f p z a =
          record { node = a.node; offered = ap (λ (x : Event). x.step) z ∙ a.offered; accepted = accepted-back e f z a.accepted }

  -- an event's frames, and the sums of a history
  pub seen-ceiling : (caps : ℕ → ℕ) → CeilingFor n caps w → CeilingFor n caps v
  seen-ceiling caps c =
      record {
        extra_frames = c.extra_frames ∙ sym (same_sum extras same-extras w.history);
        user_frames = c.user_frames ∙ sym (same_sum users_issued same-issued w.history);
        ceiling = rw (same_sum extras same-extras w.history, same_sum users_issued same-issued w.history, same_sum users_delivered same_received w.history)
            c.ceiling;
        each = λ t f a. let x = map_at forget_event w.history t f a in
            subst (λ (e : Event). StepIssues n (caps e.node) t e.answer w.log) x.2 (forgotten t x.0 (c.each t x.0 x.1));
      }
    where
      forgotten : (t : ℕ) (e : Event) → StepIssues n (caps e.node) t e.answer w.log
          → StepIssues n (caps e.node) t (forget_answer e.answer) w.log
      forgotten t e s = record {
        most = rw (same-extras e.answer, same-issued e.answer, same_received e.answer) s.most;
        none = λ large. same-extras e.answer ∙ s.none large;
        reported = same-extras e.answer ∙ s.reported;
        users = same-issued e.answer ∙ s.users;
      }

  -- the send of a frame, there and back
  sent-there : (g : Issue) (class : ℕ) → SentBy w g class → SentBy v g class
  sent-there g class s =
      record {
        out = s.out;
        event = forget_event s.event;
        at = at_map forget_event w.history g.step s.event s.at;
        step = s.step;
        accepted = ap (λ (k : ℕ). eqb k 0) (same-refusal s.event.answer) ∙ s.accepted;
      }

  sent_back : (g : Issue) (class : ℕ) → SentBy v g class → SentBy w g class
  sent_back g class s =
      let x = map_at forget_event w.history g.step s.event s.at in
      record {
        out = s.out;
        event = x.0;
        at = x.1;
        step = ap (λ (e : Event). e.step) x.2 ∙ s.step;
        accepted = accepted-back x.0 s.event x.2 s.accepted;
      }

  pub seen-rights : RightsFor n w → RightsFor n v
  seen-rights r =
      record {
        kinds = r.kinds;
        sent = λ p g at u. let x = r.sent p g at u in (x.0, sent-there g x.0 x.1);
        right = λ p class g at u s. r.right p class g at u (sent_back g class s);
        motion = λ p class g at u s. r.motion p class g at u (sent_back g class s);
        accepts = λ i to class body out s may. same i to class body out s.node ∙ r.accepts i to class body out s may;
        refuses = λ i to class body out s bar. same i to class body out s.node ∙ r.refuses i to class body out s bar;
        bare = r.bare;
      }
    where
      same : (i to class : ℕ) (body out : List ℕ) → i < n
          → send_number (send_call (v.records i) to class body out).result.answer ≡ send_number (send_call (w.records i) to class body out).result.answer
      same i to class body out hi = ap (λ (x : Record). send_number (send_call x to class body out).result.answer) (same_record i hi)
