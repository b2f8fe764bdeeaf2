-- Demand 3 for a host holds: what it sees of its list of exported calls is a list of the node's calls, for which it is proved. Assumes nothing.
use Prim.Native.Nat.{◌<◌, ◌≤◌, ℕ}
use mathlib.Core.List.{List}
use mathlib.Core.Logic.{◌⊎◌}
use mathlib.Core.Path.{◌∙◌, ◌≡◌, ap, ap₂, subst, sym}
use lib.ListN.{get_elem?, length}
use Rattle.wire.specs.Limits.{max_held}
use Rattle.node.specs.Answers.{send_number}
use Rattle.node.specs.Calls.{deliver_call, send_call}
use Rattle.causality.proofs.Demand3.{accepted_once, ceiling, demand3, frame_sizes, list_refusals, rights_kept}
use Rattle.causality.specs.AcceptedOnce.{AcceptedOnceFor}
use Rattle.causality.specs.Ceiling.{CeilingFor}
use Rattle.causality.specs.FrameSizes.{FrameSizesFor}
use Rattle.causality.specs.Demand3.{DeliveredAt, DeliversNew, Demand3For, Earliest, Event, Held, Issue, World, destination, held_at, label, run, start}
use Rattle.causality.specs.ListRefusals.{ListRefusalsFor}
use Rattle.causality.specs.Rights.{RightsFor}
use Rattle.image.proofs.Images.{image_laws}
use Rattle.host.specs.Exports.{DeliverLeft, answer_size, exported_deliver, exported_offer, exported_send}
use Rattle.image.specs.Image.{SoundImage, image}
use Rattle.host_causality.proofs.Answers.{read-label}
use Rattle.host_causality.proofs.Forgotten.{delivered-back}
use Rattle.host_causality.proofs.Seen.{accepts-there, delivers-there, seen-ceiling, seen-demand3, seen-once, seen-refusals, seen-rights, sound, turn, v}
use Rattle.host_causality.proofs.Sees.{Sees, run_sees}
use Rattle.host_causality.proofs.Shown.{deliver-shown, offer-shown, send-shown}
use Rattle.host_causality.proofs.Starts.{start_sees}
use Rattle.host_causality.specs.HostDemand3.{HostDelivers, HostDemand3, HostDemand3For, HostWorld, host_run, host_start, label_in}
use Rattle.host_causality.specs.HostDemand3.{steps_of}

-- the host's world h, and the world w of the node's calls
module _ (n : ℕ) (caps : ℕ → ℕ) (h : HostWorld) (w : World) (m : Sees n h w) where
  images : (i : ℕ) → i < n → SoundImage (h.images i)
  images i hi = subst SoundImage (sym (m.images i hi)) (image_laws.written (w.records i) (sound n h w m i hi))

  -- a send returns the number that the node's send answers with
  send-status : (i to class : ℕ) (body out answer : List ℕ) → i < n → answer_size ≤ length answer
      → (exported_send (h.images i) to class body out answer).status ≡ send_number (send_call (w.records i) to class body out).result.answer
  send-status i to class body out answer hi long =
      ap (λ (x : List ℕ). (exported_send x to class body out answer).status) (m.images i hi)
      ∙ (send-shown (w.records i) (sound n h w m i hi) answer long i to class body out).0.status

  module _ (d : Demand3For n caps w) where
    abbrev Accepting : World → Type 0
    Accepting x =
        (p : ℕ) (g : Issue) → Earliest x p g → ¬ Held x p g.frame → held_at x (destination g.frame) < max_held
        → (answer : List ℕ) → answer_size ≤ length answer
        → (exported_offer (h.images (destination g.frame)) g.frame (h.queues (destination g.frame)) answer).status ≡ 0

    accepting : Accepting (v n h w m)
    accepting p g e away room answer long =
        let j = destination g.frame in
        let a = accepts-there n h w m caps d p g e away room in
        ap₂ (λ (i q : List ℕ). (exported_offer i g.frame q answer).status) (m.images j a.0) (m.queues j)
        ∙ (offer-shown (w.records j) (sound n h w m j a.0) answer long j p g.frame (w.queues j)).0.status ∙ a.1

    -- a deliver that the node answers with a frame shows the host that frame
    shown : (j : ℕ) → j < n → DeliversNew w j → HostDelivers h j
    shown j hj x =
        record {
          place = x.place;
          issue = x.issue;
          at = ap (λ (l : List Issue). get_elem? l x.place) m.log ∙ x.at;
          here = x.here;
          new =
              λ y. x.new (
                y.0,
                delivered-back w.history y.0 x.issue.frame
                    (subst (λ (l : List Event). DeliveredAt l y.0 x.issue.frame) m.history y.1),
              );
          answers =
              λ out body answer a b long.
              subst (λ (c : DeliverLeft). (c.status ≡ 0) × (label_in c.answer ≡ label x.issue.frame))
              (sym (ap₂ (λ (i q : List ℕ). exported_deliver i q out body answer) (m.images j hj) (m.queues j)))
              (let c = exported_deliver (image (w.records j)) (w.queues j) out body answer in
              let s = (deliver-shown (w.records j) (sound n h w m j hj) answer long j (w.queues j) out body).0 in
              read-label c.status c.answer (deliver_call (w.records j) (w.queues j) out body).result.answer (label x.issue.frame) s.status
              s.reads (x.answers out body a b));
        }

    abbrev Delivering : World → Type 0
    Delivering x =
        (p : ℕ) (g : Issue) → Earliest x p g → Held x p g.frame ⊎ (held_at x (destination g.frame) ≡ max_held) → HostDelivers h (destination g.frame)

    delivering : Delivering (v n h w m)
    delivering p g e c =
        let a = delivers-there n h w m caps d p g e c in
        shown (destination g.frame) a.0 a.1

    host-world : ListRefusalsFor w → AcceptedOnceFor w → RightsFor n w → CeilingFor n caps w → FrameSizesFor n caps w → HostDemand3For n caps h
    host-world r o k c s =
        record {
          demand3 = turn n h w m (Demand3For n caps) (seen-demand3 n h w m caps d);
          accepts = turn n h w m Accepting accepting;
          delivers = turn n h w m Delivering delivering;
          permits =
              λ i to class body out answer s long may. send-status i to class body out answer s.node long ∙ k.accepts i to class body out s may;
          forbids =
              λ i to class body out answer s long bar. send-status i to class body out answer s.node long ∙ k.refuses i to class body out s bar;
          images = images;
          refusals = turn n h w m ListRefusalsFor (seen-refusals n h w m r);
          accepted_once = turn n h w m AcceptedOnceFor (seen-once n h w m o);
          rights = turn n h w m (RightsFor n) (seen-rights n h w m k);
          ceiling = turn n h w m (CeilingFor n caps) (seen-ceiling n h w m caps c);
          sizes = turn n h w m (FrameSizesFor n caps) (record { user = s.user; extra = s.extra });
        }

pub host_demand3 : HostDemand3
host_demand3 n caps inside lent calls k =
    let l = steps_of calls in
    host-world n caps (host_run n (host_start lent n caps) calls) (run n (start n caps) l)
    (run_sees n calls (host_start lent n caps) (start n caps) (start_sees n caps lent k.set_ups) k.each)
    (demand3 n caps inside l k.bodies k.few) (list_refusals n caps inside l k.bodies k.few) (accepted_once n caps inside l k.bodies k.few)
    (rights_kept n caps inside l k.bodies k.few) (ceiling n caps inside l k.bodies k.few) (frame_sizes n caps inside l k.bodies k.few)
