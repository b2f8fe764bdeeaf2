-- What a call hands back, the next call takes. Assumes nothing.
use Prim.Native.Nat.{◌<◌, ℕ}
use mathlib.Core.Bool.{false}
use mathlib.Core.List.{List, [], ◌++◌, ◌∷◌, map, map-append}
use mathlib.Core.Path.{◌∙◌, ◌≡◌, ap, refl, subst, sym}
use native.Mathlib.Omega.{arith}
use lib.ListN.{length, length-map, replicate}
use Rattle.arrival.proofs.Arrived.{arrives}
use Rattle.arrival.specs.View.{arrival_refusal}
use Rattle.frame.specs.Frame.{decode}
use Rattle.holdback.proofs.Held.{FrameKept}
use Rattle.holdback.proofs.Passing.{queue-right}
use Rattle.holdback.proofs.Slots.{zeros-laid}
use Rattle.holdback.specs.WrongQueue.{wrong_queue}
use Rattle.holdback.specs.Slots.{laid, queue_size, zeros}
use Rattle.matrix.proofs.Array.{vector_list}
use Rattle.matrix.proofs.Cleared.{rules-back}
use Rattle.matrix.proofs.Columns.{MatrixRules}
use Rattle.matrix.specs.Array.{entry, flat, vector}
use Rattle.matrix.specs.Matrix.{clear}
use Rattle.matrix.specs.Message.{Message, number}
use Rattle.node.proofs.Cases.{deliver-cases, offer-cases, send-cases}
use Rattle.node.proofs.Delivering.{deliver-ready}
use Rattle.node.proofs.Offering.{Offerable, offerable}
use Rattle.node.proofs.Sending.{Sendable, sendable}
use Rattle.node.specs.Answers.{AfterDeliver, AfterOffer, AfterSend, set_up_number, SetUp}
use Rattle.node.specs.Calls.{deliver_call, offer_call, send_call}
use Rattle.node.specs.Record.{node_at, broken_record, node_of}
use Rattle.node.specs.SetUp.{fresh_record, set_up}
use Rattle.node.specs.declared.Node.{Node as Record}
use Rattle.node.specs.SetUpAnswer.{Refused, Ready}
use Rattle.protocol.proofs.Lists.{at_none, each_snoc, length-snoc}
use Rattle.protocol.proofs.Origins.{Apart, apart_snoc}
use Rattle.protocol.proofs.Runs.{count-zero}
use Rattle.protocol.specs.Node.{Node}
use Rattle.protocol.specs.Trim.{trim_for}
use Rattle.rules.proofs.Facts.{Ranged, ranged}
use Rattle.rules.proofs.Kept.{rules-kept}
use Rattle.rules.specs.Rules.{in_range}
use Rattle.soundness.proofs.Deliveries.{delivered}
use Rattle.soundness.proofs.Matrices.{keeps_array, send_keeps}
use Rattle.soundness.proofs.States.{Follows, apart, as_many, bare, each-kept, facts, follows, frames}
use Rattle.soundness.proofs.States.{laid_out, same-matrix, size, still-new, with}
use Rattle.soundness.specs.HandedBack.{HandedBack, SoundState}
use Rattle.wire.proofs.Tests.{cond_elim, is_true}

-- ---- set-up

-- the matrix of an array of zeros is zero everywhere, and so is the vector
zero-rules : (n me : ℕ) → MatrixRules n me (λ x y. 0)
zero-rules n me = record { rows = λ x y h. refl; columns = λ x y h. refl; diagonal = λ x. refl; own = λ x. refl }

zero-matrix : entry (replicate 144 0) ≡ (λ x y. 0)
unfolding flat
zero-matrix = rules-back 2 0 (λ x y. 0) (omega arith) (zero-rules 2 0)

zero-vector : (x : ℕ) → x < 12 → vector (replicate 12 0) x ≡ 0
zero-vector x h = vector_list (λ _. 0) x h

-- such a record keeps every rule
fresh_kept : (me n cap : ℕ) → Ranged me n cap → broken_record (fresh_record me n cap) ≡ false
unfolding broken_record
fresh_kept me n cap range =
    rules-kept me n cap (entry (replicate 144 0)) (vector (replicate 12 0)) 0
    (record {
      range = range;
      rules = rw zero-matrix (zero-rules n me);
      few = rw zero-matrix (omega (arith, count-zero));
      own = zero-vector me (omega (arith, range.below, range.at_most12));
      limit = λ x y. rw zero-matrix (omega arith);
      vector_limit = λ x h. omega (arith, zero-vector x h);
      vector_zero = λ x h _. zero-vector x h;
      room = omega arith;
    })

-- zeros are a queue of no frames
empty_right : (d : Node) → wrong_queue d 0 (zeros queue_size) ≡ false
empty_right d =
    subst (λ (q : List ℕ). wrong_queue d 0 q ≡ false) (sym zeros-laid)
    (queue-right d [] (omega arith) (λ h s a. absurd (at_none h s a)) (λ h k a b x. absurd (at_none h a x)))

fresh : (me n cap : ℕ) → set_up_number (set_up me n cap).answer ≡ 0 → SoundState (set_up me n cap).node (zeros queue_size)
unfolding set_up
fresh me n cap e =
    cond_elim (λ (x : SetUp). set_up_number x.answer ≡ 0 → SoundState x.node (zeros queue_size)) (in_range me n cap)
    (record { answer = Ready; node = fresh_record me n cap }) (record { answer = Refused 1; node = fresh_record 0 0 0 })
    (λ t _. record { not2 = fresh_kept me n cap (ranged me n cap (is_true (in_range me n cap) t)); not4 = empty_right (node_of (fresh_record me n cap) []) })
    (λ _ z. absurd (omega arith)) e

-- ---- send, offer, deliver

module _ (r : Record) (q : List ℕ) (s : SoundState r q) where
  -- a send that is not refused
  sent : (to class : ℕ) (body : List ℕ) (out : ℕ) → Sendable r to class body out
      → SoundState (with r (flat (trim_for 12 r.me r.n r.cap (clear r.me to (entry r.m))).matrix) r.deliv r.held) q
  sent to class body out k =
      let u = facts r q s in
      let m : List ℕ = flat (trim_for 12 r.me r.n r.cap (clear r.me to (entry r.m))).matrix in
      let f : Follows r m r.deliv (frames r q s)
      = record {
        matrix =
            keeps_array r.n r.me r.cap (entry r.m) _ u.range.at_most12
            (send_keeps r.n r.me r.cap u.range (entry r.m) u.rules u.few u.limit k.below to k.destination k.other);
        own = u.own;
        limit = u.vector_limit;
        zero = u.vector_zero;
        frames = each-kept r q s;
        new = still-new r q s;
        apart = apart r q s;
        room = omega (arith, as_many r q s, u.room);
      } in
      subst (λ (x : List ℕ). SoundState (with r m r.deliv r.held) x) (sym (laid_out r q s))
      (subst (λ (h : ℕ). SoundState (with r m r.deliv h) (laid (frames r q s))) (as_many r q s) (follows r m r.deliv (frames r q s) s.not2 f))

  sends : (to class : ℕ) (body out : List ℕ) → SoundState (send_call r to class body out).result.node q
  sends to class body out =
      send-cases (λ (c : AfterSend). SoundState c.result.node q) r to class body out (λ k h. s)
      (λ z. sent to class body (length out) (sendable r to class body (length out) z))

  -- 12 to 14 do not look at the queue
  arrives-bare : (g : Message) → arrival_refusal (node_at r q) g ≡ 0 → arrival_refusal (bare r) g ≡ 0
  unfolding arrival_refusal
  arrives-bare g e = e

  -- an offer that is not refused
  held : (x : List ℕ) → Offerable r x q
      → SoundState (with r r.m r.deliv (length (map decode (frames r q s) ++ (decode x ∷ [])))) (laid (frames r q s ++ (x ∷ [])))
  held x k =
      let u = facts r q s in
      let l : List (List ℕ) = frames r q s in
      let more : map decode (l ++ (x ∷ [])) ≡ map decode l ++ (decode x ∷ []) = map-append decode l (x ∷ []) in
      let here : arrival_refusal (bare r) (decode x) ≡ 0 = arrives-bare (decode x) k.hold.arrives in
      let many : length (l ++ (x ∷ [])) ≡ length (map decode l ++ (decode x ∷ [])) = sym (length-map (l ++ (x ∷ [])) decode) ∙ ap length more in
      let f : Follows r r.m r.deliv (l ++ (x ∷ []))
      = record {
        matrix = same-matrix r q s;
        own = u.own;
        limit = u.vector_limit;
        zero = u.vector_zero;
        frames = each_snoc (FrameKept (bare r)) l x (each-kept r q s) (record { passes = k.frame; arrives = here });
        new = each_snoc (λ t. vector r.deliv (decode t).from < number (decode t)) l x (still-new r q s) (arrives (bare r) (decode x) here).new;
        apart = subst Apart (sym more) (apart_snoc (map decode l) (decode x) (apart r q s) k.hold.new);
        room = omega (arith, length-snoc l x, as_many r q s, k.holdable.room);
      } in
      subst (λ (h : ℕ). SoundState (with r r.m r.deliv h) (laid (l ++ (x ∷ [])))) many (follows r r.m r.deliv (l ++ (x ∷ [])) s.not2 f)

  offers : (x : List ℕ) → (let c : AfterOffer = offer_call r x q in SoundState c.result.node c.queue)
  offers x = offer-cases (λ (c : AfterOffer). SoundState c.result.node c.queue) r x q (λ k h. s) (λ z. held x (offerable r x q z))

  delivers : (out body : List ℕ) → (let c : AfterDeliver = deliver_call r q out body in SoundState c.result.node c.queue)
  delivers out body =
      deliver-cases (λ (c : AfterDeliver). SoundState c.result.node c.queue) r q out body (λ k h. s)
      (λ z. delivered r q s (deliver-ready r q (length out) (length body) z).free out body)

pub handed_back : HandedBack
handed_back = record { fresh = fresh; sends = sends; offers = offers; delivers = delivers; size = size }
