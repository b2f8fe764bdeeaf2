-- A list of exported calls and its list of the node's calls lead to worlds of which the host sees one in the other. Assumes nothing.
use Prim.Native.Nat.{◌<◌, ◌≤◌, ℕ}
use mathlib.Core.Bool.{Bool, cond, false, true}
use mathlib.Core.List.{List, [], ◌++◌, ◌∷◌, map, map-append}
use mathlib.Core.Option.{Option, none, some}
use mathlib.Core.Path.{◌∙◌, ◌≡◌, ap, ap₂, refl, subst, sym}
use native.Mathlib.Decide.{ℕ_discrete}
use native.Mathlib.Omega.{arith}
use lib.Dec.{T, ltb, ltb→lt}
use lib.ListN.{get_elem?, length, length-map, take}
use Rattle.protocol.proofs.Below.{update_other, update_same}
use Rattle.protocol.specs.Node.{update}
use Rattle.node.specs.Calls.{deliver_call, offer_call, send_call}
use Rattle.node.specs.Record.{broken_record}
use Rattle.node.specs.declared.Node.{Node as Record}
use Rattle.causality.specs.Demand3.{Answer, Event, Issue, Step, World, after_call, deliver_at, delivers, frames_in, issued_by, offer_at, offer_issue}
use Rattle.causality.specs.Demand3.{offered, offers, run, send_at, sends, sent, delivered, step}
use Rattle.host.specs.Exports.{answer_size, exported_deliver, exported_offer, exported_send}
use Rattle.image.specs.Image.{SoundRecord, image}
use Rattle.host_causality.proofs.Calls.{SoundNode, deliver_keeps, offer_keeps, send_keeps, sound_record}
use Rattle.host_causality.proofs.Shown.{Shows, deliver-shown, forget_answer, offer-shown, send-shown}
use Rattle.host_causality.proofs.Strays.{stray-leaves}
use Rattle.host_causality.specs.HostDemand3.{Call, EachAllowed, HostWorld, Stray, after_made, after_stray, deliver_made}
use Rattle.host_causality.specs.HostDemand3.{host_run, issue_made, made, made_step, offer_made, seen_event, send_made, steps_of, stray, stray_left}

abbrev pub forget_event : Event → Event
forget_event e = record { node = e.node; step = e.step; answer = forget_answer e.answer }

-- the host's world h and the world w of the node's calls
-- nodes: each node of the list is sound; none: there is no other
pub record Sees (n : ℕ) (h : HostWorld) (w : World) : Type 0 where
  pub nodes : (i : ℕ) → i < n → SoundNode (w.records i) (w.queues i)
  pub none : (i : ℕ) → n ≤ i → broken_record (w.records i) ≡ true
  pub images : (i : ℕ) → i < n → h.images i ≡ image (w.records i)
  pub queues : (i : ℕ) → h.queues i ≡ w.queues i
  pub log : h.log ≡ w.log
  pub history : map seen_event h.history ≡ map forget_event w.history

-- what holds of two values that are put at i, and of two others, holds of what stands at each place
put_both : {A B : Type 0} (P : A → B → Type 0) (u : ℕ → A) (v : ℕ → B) (i : ℕ) (x : A) (y : B) → P x y → (k : ℕ) → P (u k) (v k)
    → P (update u i x k) (update v i y k)
put_both P u v i x y p k q = go (ℕ_discrete k i)
  where
    go : Dec (k ≡ i) → P (update u i x k) (update v i y k)
    go (yes z) =
        subst (λ j. P (update u i x j) (update v i y j)) (sym z)
        (subst (λ a. P a (update v i y i)) (sym (update_same u i x)) (subst (P x) (sym (update_same v i y)) p))
    go (no z) = subst (λ a. P a (update v i y k)) (sym (update_other u i x k z)) (subst (P (u k)) (sym (update_other v i y k z)) q)

-- ---- a step

module _ (n : ℕ) (h : HostWorld) (w : World) (m : Sees n h w) where
  -- as many steps were made
  same_length : length h.history ≡ length w.history
  same_length = sym (length-map h.history seen_event) ∙ ap length m.history ∙ length-map w.history forget_event

  -- the node's call at node i and the exported one that shows it
  after : (i : ℕ) → i < n → (s : Step) (a : Answer) (r : Record) (q out : List ℕ) (k : ℕ) (x j b o : List ℕ)
      → SoundNode r q → Shows s a r k x b → j ≡ q → o ≡ out → Sees n (after_made h i s x j k b o) (after_call w i s r q a out)
  after i hi s a r q out k x j b o sound shows e f =
      record {
        nodes = λ l hl. put_both SoundNode w.records w.queues i r q sound l (m.nodes l hl);
        none = λ l hl. ap broken_record (update_other w.records i r l (λ z. omega arith)) ∙ m.none l hl;
        images = λ l hl. put_both (λ y z. y ≡ image z) h.images w.records i x r shows.image l (m.images l hl);
        queues = λ l. put_both (λ y z. y ≡ z) h.queues w.queues i j q e l (m.queues l);
        log = ap₂ ◌++◌ m.log (ap₂ (λ y z. map (issued_by y) (frames_in z)) same_length (ap₂ take shows.counts f));
        history =
            map-append seen_event h.history (record { node = i; step = s; status = k; answer = b } ∷ [])
            ∙ ap₂ (λ y z. y ++ (record { node = i; step = s; answer = z } ∷ [])) m.history shows.reads
            ∙ sym (map-append forget_event w.history (record { node = i; step = s; answer = a } ∷ []));
      }

  module _ (answer : List ℕ) (long : answer_size ≤ length answer) (i : ℕ) (hi : i < n) where
    abbrev r : Record
    r = w.records i

    abbrev sound : SoundRecord r
    sound = sound_record r (w.queues i) (m.nodes i hi)

    -- the world after each exported call, lent the image x and the queue y
    abbrev Sent : (to class : ℕ) (body out x : List ℕ) → Type 0
    Sent to class body out x =
        Sees n (send_made h i (sends i to class body out) (exported_send x to class body out answer)) (send_at w i (sends i to class body out) (send_call r to class body out))

    abbrev Offered : ℕ → Issue → (x y : List ℕ) → Type 0
    Offered p g x y =
        Sees n (offer_made h i (offers i p) (exported_offer x g.frame y answer)) (offer_at w i (offers i p) (offer_call r g.frame (w.queues i)))

    abbrev Given : (out body x y : List ℕ) → Type 0
    Given out body x y =
        Sees n (deliver_made h i (delivers i out body) (exported_deliver x y out body answer))
        (deliver_at w i (delivers i out body) (deliver_call r (w.queues i) out body))

    -- lent the node's own
    own : (P : List ℕ → List ℕ → Type 0) → P (image r) (w.queues i) → P (h.images i) (h.queues i)
    own P p = subst (λ (x : List ℕ). P x (h.queues i)) (sym (m.images i hi)) (subst (P (image r)) (sym (m.queues i)) p)

    send-sees : (to class : ℕ) (body out : List ℕ) → Sent to class body out (h.images i)
    send-sees to class body out =
        own (λ x _. Sent to class body out x)
        (let c = send_call r to class body out in
        let e = exported_send (image r) to class body out answer in
        let s = send-shown r sound answer long i to class body out in
        after i hi (sends i to class body out) (sent c.result.answer) c.result.node (w.queues i) c.out e.status e.image (h.queues i)
        e.answer e.out (send_keeps r (w.queues i) (m.nodes i hi) to class body out) s.0 (m.queues i) s.1)

    offer-sees : (p : ℕ) (g : Issue) → Offered p g (h.images i) (h.queues i)
    offer-sees p g =
        own (Offered p g)
        (let c = offer_call r g.frame (w.queues i) in
        let e = exported_offer (image r) g.frame (w.queues i) answer in
        let s = offer-shown r sound answer long i p g.frame (w.queues i) in
        after i hi (offers i p) (offered c.result.answer) c.result.node c.queue [] e.status e.image e.queue
        e.answer [] (offer_keeps r (w.queues i) (m.nodes i hi) g.frame) s.0 s.1 refl)

    deliver-sees : (out body : List ℕ) → Given out body (h.images i) (h.queues i)
    deliver-sees out body =
        own (Given out body)
        (let c = deliver_call r (w.queues i) out body in
        let e = exported_deliver (image r) (w.queues i) out body answer in
        let s = deliver-shown r sound answer long i (w.queues i) out body in
        after i hi (delivers i out body) (delivered c.result.answer) c.result.node c.queue c.out e.status e.image e.queue
        e.answer e.out (deliver_keeps r (w.queues i) (m.nodes i hi) out body) s.0 s.1 s.2)

  -- where a test decides over a step
  both : (t : Bool) (x : HostWorld) (y : World) → (T t → Sees n x y) → Sees n (cond t x h) (cond t y w)
  both true x y f = f tt
  both false x y f = m

  step_sees : (s : Step) (answer : List ℕ) → answer_size ≤ length answer → Sees n (made_step n h s answer) (step n w s)
  unfolding made_step step
  step_sees (sends i to class body out) answer long = both (ltb i n) _ _ (λ t. send-sees answer long i (ltb→lt i n t) to class body out)
  step_sees (offers i p) answer long =
      subst (λ (l : List Issue). Sees n (cond (ltb i n) (issue_made h i p answer (get_elem? l p)) h) (step n w (offers i p))) (sym m.log)
      (both (ltb i n) _ _ (λ t. go (ltb→lt i n t) (get_elem? w.log p)))
    where
      go : i < n → (o : Option Issue) → Sees n (issue_made h i p answer o) (offer_issue w i p o)
      go hi none = m
      go hi (some g) = offer-sees answer long i hi p g
  step_sees (delivers i out body) answer long = both (ltb i n) _ _ (λ t. deliver-sees answer long i (ltb→lt i n t) out body)

  -- ---- a stray call

  stray_sees : (s : Stray) → ¬ ((stray_left h s).status ≡ 0) → Sees n (after_stray h (stray_left h s)) w
  stray_sees s refused =
      let l = stray-leaves h s refused in
      record {
        nodes = m.nodes;
        none = m.none;
        images = λ i hi. l.same i ∙ m.images i hi;
        queues = λ i. l.still i ∙ m.queues i;
        log = m.log;
        history = m.history;
      }

-- ---- a list

pub run_sees : (n : ℕ) (calls : List Call) (h : HostWorld) (w : World) → Sees n h w → EachAllowed n h calls
    → Sees n (host_run n h calls) (run n w (steps_of calls))
run_sees n [] h w m a = m
run_sees n (made s answer ∷ l) h w m a = run_sees n l (made_step n h s answer) (step n w s) (step_sees n h w m s answer a.0) a.1
run_sees n (stray s ∷ l) h w m a = run_sees n l (after_stray h (stray_left h s)) w (stray_sees n h w m s a.0) a.1
