-- Each step on bytes is matched by one step on messages, so a list of steps keeps two worlds matched from the start on. Assumes nothing.
use Prim.Native.Nat.{◌<◌, ◌≤◌, ℕ}
use mathlib.Core.Bool.{Bool, ◌||◌, cond, false, not, true≢false}
use mathlib.Core.List.{List, [], map}
use mathlib.Core.Logic.{inl, inr}
use mathlib.Core.Path.{◌∙◌, ◌≡◌, ap, refl, subst, sym}
use native.Mathlib.Omega.{arith}
use lib.Dec.{T, ltb, nltb→le}
use lib.ListN.{length}
use Rattle.wire.specs.Limits.{max_body}
use Rattle.causality.proofs.Delivers.{deliver-agrees, deliver-short}
use Rattle.causality.proofs.Matches.{Agrees, Matches, SameSend, SameStep, matches_after}
use Rattle.causality.proofs.Offers.{offer-agrees}
use Rattle.causality.proofs.Refused.{SaysNo, own-refused, refused-agrees}
use Rattle.causality.proofs.Sends.{barred, send-agrees, send-barred}
use Rattle.causality.specs.Demand3.{Answer, Step, World, after_call, deliver_at, delivered, delivers, offer_at, offered, offers, send_at, sends, sent}
use Rattle.frame.specs.Frame.{encode}
use Rattle.holdback.specs.Slots.{laid}
use Rattle.node.specs.Answers.{AfterDeliver, AfterOffer, AfterSend}
use Rattle.node.specs.Calls.{deliver_call, offer_call, send_call}
use Rattle.node.specs.Sizes.{out_size}
use Rattle.causality.proofs.Records.{record_of}
use Rattle.protocol.proofs.Bounds.{below-limit}
use Rattle.protocol.proofs.Good.{Good}
use Rattle.protocol.proofs.Grown.{node-eq, node_at}
use Rattle.protocol.specs.Offer.{offer}
use Rattle.protocol.specs.Send.{send}
use Rattle.rights.specs.Ours.{ours}
use Rattle.rights.specs.Rights.{lacks_right}
use Rattle.wire.proofs.Tests.{is_false, or-not}
use Rattle.wire.specs.Bytes.{AllBytes}
use Rattle.protocol.specs.World as messages
use Rattle.protocol.specs.Answer as protocol
use Rattle.protocol.specs.Node.{Node as MessageNode}
use Rattle.node.specs.declared.Node.{Node as Record}
use Rattle.node.specs.SendAnswer as send_answer
use Rattle.node.specs.DeliverAnswer as deliver_answer
use Rattle.protocol.specs.Deliver.{deliver}

-- whether a deliver is lent too little
abbrev pub lent_less : List ℕ → List ℕ → Bool
lent_less out body = ltb (length out) out_size || ltb (length body) max_body

-- the step on messages: a call that is lent too little, or a send by a class without the right, is refused, as a send to itself is
abbrev pub forget : Step → messages.Step
forget (sends i to class body out) = cond (barred class body out) (messages.sends i i []) (messages.sends i to body)
forget (offers i p) = messages.offers i p
forget (delivers i out body) = cond (lent_less out body) (messages.sends i i []) (messages.delivers i)

-- sends and delivers offer nothing
send-send : (i to k j class : ℕ) (body text out : List ℕ) → SameStep (messages.sends i to body) (sends k j class text out)
send-send i to k j class body text out = record {
  there = λ a p e. let z : ◌≡◌ {A = ℕ} 0 1 = cc in absurd (omega arith);
  back = λ a p e. let z : ◌≡◌ {A = ℕ} 0 1 = cc in absurd (omega arith);
}

send-deliver : (i to k : ℕ) (body out text : List ℕ) → SameStep (messages.sends i to body) (delivers k out text)
send-deliver i to k body out text = record {
  there = λ a p e. let z : ◌≡◌ {A = ℕ} 0 1 = cc in absurd (omega arith);
  back = λ a p e. let z : ◌≡◌ {A = ℕ} 0 1 = cc in absurd (omega arith);
}

deliver-deliver : (i k : ℕ) (out text : List ℕ) → SameStep (messages.delivers i) (delivers k out text)
deliver-deliver i k out text = record {
  there = λ a p e. let z : ◌≡◌ {A = ℕ} 0 1 = cc in absurd (omega arith);
  back = λ a p e. let z : ◌≡◌ {A = ℕ} 0 1 = cc in absurd (omega arith);
}

offer-offer : (i p : ℕ) → SameStep (messages.offers i p) (offers i p)
offer-offer i p = record {
  there = λ a k e. let x : i ≡ a = cc in let y : p ≡ k = cc in rw (x, y);
  back = λ a k e. let x : i ≡ a = cc in let y : p ≡ k = cc in rw (x, y);
}

-- an accepted send is the call's, whose class has the right; other steps send nothing
right-send : (i to class : ℕ) (body out : List ℕ) (a : protocol.Answer) → lacks_right ours class body ≡ false
    → SameSend (messages.sends i to body) a (sends i to class body out)
right-send i to class body out a may k j text e _ =
    let x : i ≡ k = cc in
    let y : to ≡ j = cc in
    let z : body ≡ text = cc in
    record { class = class; out = out; same = rw (x, y, z) refl; allowed = subst (λ (v : List ℕ). lacks_right ours class v ≡ false) z may }

offer-sends-nothing : (i p : ℕ) (a : protocol.Answer) (t : Step) → SameSend (messages.offers i p) a t
offer-sends-nothing i p a t k j text e _ = let z : ◌≡◌ {A = ℕ} 0 1 = cc in absurd (omega arith)

deliver-sends-nothing : (i : ℕ) (a : protocol.Answer) (t : Step) → SameSend (messages.delivers i) a t
deliver-sends-nothing i a t k j text e _ = let z : ◌≡◌ {A = ℕ} 0 1 = cc in absurd (omega arith)

-- a step at node i
module _ (n : ℕ) (caps : ℕ → ℕ) (w : messages.World) (b : World) (g : Good n caps w) (few : length w.history < 1000000000)
    (m : Matches n w b) (i : ℕ) (hi : i < n) where
  -- the node
  abbrev d : MessageNode
  d = node_at n caps w i

  same-node : w.nodes i ≡ d
  same-node = node-eq n caps w g i hi

  same_record : b.records i ≡ record_of d
  same_record = m.records i hi ∙ ap record_of same-node

  same_queue : b.queues i ≡ laid (map encode (w.nodes i).held)
  same_queue = m.queues i hi

  -- a step on messages and a call that agree
  matched : (s : messages.Step) (t : Step) → SameStep s t
      → (f : MessageNode → protocol.Outcome) → SameSend s (f d).answer t → (r : Record) (q : List ℕ) (a : Answer) (out : List ℕ) → Agrees (f d) r q a out
      → Matches n (messages.after_step w i s (f (w.nodes i))) (after_call b i t r q a out)
  matched s t same f sends-same r q a out h =
      subst (λ (z : MessageNode). Matches n (messages.after_step w i s (f z)) (after_call b i t r q a out)) (sym same-node)
      (matches_after n w b m i s t same (f d) sends-same r q a out h)

  -- a refused call agrees with a send to itself
  own-agrees : (a : Answer) (out : List ℕ) → SaysNo a → Agrees (send d i []) (record_of d) (laid (map encode (w.nodes i).held)) a out
  own-agrees a out s =
      subst (λ (o : protocol.Outcome). Agrees o (record_of d) (laid (map encode (w.nodes i).held)) a out)
      (sym (own-refused d (below-limit n caps w g few i))) (refused-agrees d 6 a out s)

  -- and sends nothing
  own-sends-nothing : (t : Step) → SameSend (messages.sends i i []) (send d i []).answer t
  own-sends-nothing t k j text e ok =
      absurd (true≢false (sym ok ∙ ap (λ (o : protocol.Outcome). protocol.accepted o.answer) (own-refused d (below-limit n caps w g few i))))

  -- a send
  module _ (to class : ℕ) (body out : List ℕ) where
    -- what the step on messages s and the call leave
    abbrev Sent : messages.Step → protocol.Outcome → Type 0
    Sent s o = Matches n (messages.after_step w i s o) (send_at b i (sends i to class body out) (send_call (b.records i) to class body out))

    -- the call with any record and queue
    abbrev SentWith : protocol.Outcome → Record → List ℕ → Type 0
    SentWith o r q = let c : AfterSend = send_call r to class body out in Agrees o c.result.node q (sent c.result.answer) c.out

    sent-with : (o : protocol.Outcome) → SentWith o (record_of d) (laid (map encode (w.nodes i).held)) → SentWith o (b.records i) (b.queues i)
    sent-with o h = subst (λ (r : Record). SentWith o r (b.queues i)) (sym same_record) (subst (λ (q : List ℕ). SentWith o (record_of d) q) (sym same_queue) h)

    pub send-matches : AllBytes body → T (not (barred class body out)) → Sent (messages.sends i to body) (send (w.nodes i) to body)
    send-matches bytes h =
        let c : AfterSend = send_call (b.records i) to class body out in
        let x = or-not (ltb (length out) out_size) (lacks_right ours class body) h in
        let may : lacks_right ours class body ≡ false = is_false (lacks_right ours class body) x.1 in
        matched (messages.sends i to body) (sends i to class body out) (send-send i to i to class body body out) (λ z. send z to body)
        (right-send i to class body out (send d to body).answer may) c.result.node (b.queues i) (sent c.result.answer) c.out
        (sent-with (send d to body) (send-agrees n caps w g few m.bodies i hi to class body out bytes (nltb→le (length out) out_size x.0) may))

    pub send-matches-barred : T (barred class body out) → Sent (messages.sends i i []) (send (w.nodes i) i [])
    send-matches-barred h =
        let c : AfterSend = send_call (b.records i) to class body out in
        let x = send-barred n caps w g few m.bodies i hi to class body out h in
        matched (messages.sends i i []) (sends i to class body out) (send-send i i i to class [] body out) (λ z. send z i []) (own-sends-nothing (sends i to class body out))
        c.result.node (b.queues i) (sent c.result.answer) c.out
        (sent-with (send d i [])
        (subst (λ (y : AfterSend). Agrees (send d i []) y.result.node (laid (map encode (w.nodes i).held)) (sent y.result.answer) y.out)
        (sym x.same) (own-agrees (sent (send_answer.Refused x.number)) out x.says)))

  -- an offer of issue p
  module _ (p : ℕ) (f : messages.Issue) (at : messages.IssueAt w p f) where
    -- the call with any record and queue
    abbrev pub OfferedWith : Record → List ℕ → Type 0
    OfferedWith r q =
        let c : AfterOffer = offer_call r (encode f.message) q in
        Agrees (offer d f.message) c.result.node c.queue (offered c.result.answer) []

    pub offered-here : OfferedWith (b.records i) (b.queues i)
    offered-here =
        subst (λ (r : Record). OfferedWith r (b.queues i)) (sym same_record)
        (subst (λ (q : List ℕ). OfferedWith (record_of d) q) (sym same_queue) (offer-agrees n caps w g few m.bodies i hi p f at))

    pub offer-matches : Matches n (messages.after_step w i (messages.offers i p) (offer (w.nodes i) f.message))
        (offer_at b i (offers i p) (offer_call (b.records i) (encode f.message) (b.queues i)))
    offer-matches =
        let c : AfterOffer = offer_call (b.records i) (encode f.message) (b.queues i) in
        matched (messages.offers i p) (offers i p) (offer-offer i p) (λ z. offer z f.message)
        (offer-sends-nothing i p (offer d f.message).answer (offers i p)) c.result.node c.queue
        (offered c.result.answer) [] offered-here

  -- a deliver
  module _ (out body : List ℕ) where
    -- what the step on messages s and the call leave
    abbrev Given : messages.Step → protocol.Outcome → Type 0
    Given s o = Matches n (messages.after_step w i s o) (deliver_at b i (delivers i out body) (deliver_call (b.records i) (b.queues i) out body))

    -- the call with any record and queue
    abbrev pub GivenWith : protocol.Outcome → Record → List ℕ → Type 0
    GivenWith o r q = let c : AfterDeliver = deliver_call r q out body in Agrees o c.result.node c.queue (delivered c.result.answer) c.out

    given-with : (o : protocol.Outcome) → GivenWith o (record_of d) (laid (map encode (w.nodes i).held)) → GivenWith o (b.records i) (b.queues i)
    given-with o h =
        subst (λ (r : Record). GivenWith o r (b.queues i)) (sym same_record) (subst (λ (q : List ℕ). GivenWith o (record_of d) q) (sym same_queue) h)

    pub given-here : out_size ≤ length out → max_body ≤ length body → GivenWith (deliver d) (b.records i) (b.queues i)
    given-here h k = given-with (deliver d) (deliver-agrees n caps w g few m.bodies i hi out body h k)

    pub deliver-matches : out_size ≤ length out → max_body ≤ length body → Given (messages.delivers i) (deliver (w.nodes i))
    deliver-matches h k =
        let c : AfterDeliver = deliver_call (b.records i) (b.queues i) out body in
        matched (messages.delivers i) (delivers i out body) (deliver-deliver i i out body) deliver
        (deliver-sends-nothing i (deliver d).answer (delivers i out body)) c.result.node c.queue
        (delivered c.result.answer) c.out (given-here h k)

    pub deliver-matches-short : T (lent_less out body) → Given (messages.sends i i []) (send (w.nodes i) i [])
    deliver-matches-short h =
        let c : AfterDeliver = deliver_call (b.records i) (b.queues i) out body in
        matched (messages.sends i i []) (delivers i out body) (send-deliver i i i [] out body) (λ z. send z i []) (own-sends-nothing (delivers i out body)) c.result.node c.queue
        (delivered c.result.answer) c.out
        (given-with (send d i [])
        (subst (λ (x : AfterDeliver). Agrees (send d i []) x.result.node x.queue (delivered x.result.answer) x.out)
        (sym (deliver-short n caps w g few m.bodies i hi out body h))
        (own-agrees (delivered (deliver_answer.Refused 3)) out
        (record { refuses = refl; nothing = refl; holds = refl; gives = refl; counts = refl; extras = refl; users = refl; expected = inr (inl refl) }))))
