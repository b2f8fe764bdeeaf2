-- A deliver on record and bytes leaves what the deliver on messages leaves; with too short an output it is refused. Assumes nothing.
use Prim.Native.Nat.{◌-◌, ◌<◌, ◌≤◌, suc, ℕ}
use mathlib.Core.Bool.{Bool, ◌||◌, cond, not}
use mathlib.Core.List.{List, [], ◌∷◌, map}
use mathlib.Core.Logic.{◌⊎◌, inl, inr}
use mathlib.Core.Option.{some}
use mathlib.Core.Path.{◌∙◌, ◌≡◌, ap, ap₂, refl, subst, sym}
use native.Mathlib.Omega.{arith}
use lib.Dec.{T, eqb, ltb}
use lib.ListN.{get_elem?, length}
use Rattle.wire.specs.Limits.{max_body}
use Rattle.causality.proofs.Frames.{cut-nothing, issued-frames}
use Rattle.protocol.proofs.Trim.{trim-bare}
use Rattle.causality.proofs.Matches.{Agrees}
use Rattle.causality.proofs.Offers.{queue-passes, whole_back}
use Rattle.causality.proofs.Queues.{Bodies, frames-back, queue-length}
use Rattle.causality.proofs.Records.{record_kept, record_of}
use Rattle.causality.specs.Demand3.{delivered}
use Rattle.frame.specs.Frame.{encode}
use Rattle.frame.specs.Frames.{frames_of}
use Rattle.holdback.specs.WrongQueue.{wrong_queue}
use Rattle.holdback.specs.Slots.{held_messages, laid, queue_size, without}
use Rattle.matrix.specs.Matrix.{Matrix, merge}
use Rattle.matrix.specs.Message.{Kind, Message, extra, user}
use Rattle.node.specs.Answers.{AfterDeliver}
use Rattle.node.specs.Calls.{accept_deliver, deliver_call, refuse_deliver, refusal as refusal_of}
use Rattle.node.specs.Sizes.{out_size}
use Rattle.node.specs.Record.{broken_record, node_of}
use Rattle.protocol.proofs.Bounds.{below-limit, entry_bound}
use Rattle.protocol.proofs.Good.{Good, state_of}
use Rattle.protocol.proofs.Grown.{node_at}
use Rattle.protocol.proofs.Lists.{at_none}
use Rattle.protocol.proofs.Searching.{search-found}
use Rattle.protocol.specs.Node.{at_limit, Node as MessageNode}
use Rattle.protocol.specs.Offer.{deliverable}
use Rattle.trim.proofs.Outputs.{delivery-bytes}
use Rattle.wire.proofs.Bytes.{small_bytes}
use Rattle.wire.proofs.Tests.{T_not-not, cond_no, cond_yes, decide, either_T, eq→eqb, le→nltb, not-or}
use Rattle.wire.specs.Bytes.{AllBytes}
use Rattle.protocol.specs.Deliver.{Search, absent, found, past, search, conclude, deliver, learn}
use Rattle.protocol.specs.World as messages
use Rattle.protocol.specs.Answer as protocol
use Rattle.node.specs.declared.Node.{Node as Record}

-- what a search leaves, as frames: those without the place of the one found
search-left : (p : Message → Bool) (l : List Message) (k : ℕ) (m : Message) (others : List Message) → search p l ≡ found k m others
    → (h : ℕ) × (k ≡ suc h) × (map encode others ≡ without h (map encode l))
unfolding without
search-left p [] k m others e = let z : ◌≡◌ {A = ℕ} 0 1 = cc in absurd (omega arith)
search-left p (a ∷ l) k m others e = go (decide (p a)) (search p l) refl (λ k m others e. search-left p l k m others e)
  where
    go : T (p a) ⊎ T (not (p a)) → (r : Search) → search p l ≡ r
        → ((k : ℕ) (m : Message) (others : List Message) → search p l ≡ found k m others
        → (h : ℕ) × (k ≡ suc h) × (map encode others ≡ without h (map encode l)))
        → (h : ℕ) × (k ≡ suc h) × (map encode others ≡ without h (encode a ∷ map encode l))
    go (inl t) r q ih =
        let e' : found 1 a l ≡ found k m others = sym (cond_yes (p a) (found 1 a l) (past a (search p l)) t) ∙ e in
        let b : l ≡ others = cc in
        let c : 1 ≡ k = cc in
        (0, sym c, ap (map encode) (sym b))
    go (inr t) absent q ih =
        let e' : past a (search p l) ≡ found k m others = sym (cond_no (p a) (found 1 a l) (past a (search p l)) t) ∙ e in
        let z : ◌≡◌ {A = ℕ} 0 1 = cc in absurd (omega arith)
    go (inr t) (found k₁ m₁ l₁) q ih =
        let e' : past a (search p l) ≡ found k m others = sym (cond_no (p a) (found 1 a l) (past a (search p l)) t) ∙ e in
        let e'' : found (suc k₁) m₁ (a ∷ l₁) ≡ found k m others = ap (past a) (sym q) ∙ e' in
        let b : a ∷ l₁ ≡ others = cc in
        let c : suc k₁ ≡ k = cc in
        let x = ih k₁ m₁ l₁ q in
        (suc x.0, sym c ∙ ap suc x.1, ap (map encode) (sym b) ∙ ap (λ (y : List (List ℕ)). encode a ∷ y) x.2)

-- what a delivery issues has no body
learn-bare : (k : Kind) (d : MessageNode) (e : Matrix) (p : ℕ) (f : Message) → get_elem? (learn k d e).extras p ≡ some f → f.body ≡ []
learn-bare user d e p f a = trim-bare 12 d.me d.n d.cap (merge d.me d.matrix e) p f a
learn-bare extra d e p f a = absurd (at_none p f a)

module _ (n : ℕ) (caps : ℕ → ℕ) (w : messages.World) (g : Good n caps w) (few : length w.history < 1000000000) (bodies : Bodies w) (i : ℕ) (hi : i < n) where
  -- the node
  abbrev d : MessageNode
  d = node_at n caps w i

  -- its record
  abbrev r : Record
  r = record_of d

  -- its queue
  abbrev q : List ℕ
  q = laid (map encode (w.nodes i).held)

  -- what a deliver leaves
  abbrev Left : protocol.Outcome → AfterDeliver → Type 0
  Left o c = Agrees o c.result.node c.queue (delivered c.result.answer) c.out

  -- the last step of the call
  abbrev settle : List ℕ → List ℕ → protocol.Outcome → AfterDeliver
  settle out body o =
      cond (protocol.accepted o.answer) (accept_deliver r q out body o (protocol.delivery o.answer)) (refuse_deliver (refusal_of o.answer) r q out body)

  -- what the delivery of a held message issues has room in 2,048 bytes
  room : (h : ℕ) (m : Message) → get_elem? (w.nodes i).held h ≡ some m → length (frames_of (learn m.kind d m.entries).extras) ≤ 846
  room h m a =
      let v = g.node i hi in
      let o = v.queue.from h m a in
      let s = g.sound o.issue o.g o.logged in
      let here = ap (λ (x : Message). x.to) o.message ∙ v.queue.to h m a in
      subst (λ (x : Message). length (frames_of (learn x.kind d x.entries).extras) ≤ 846) o.message
      (delivery-bytes d hi (g.range i hi).at_most12 (g.range i hi).cap_from v.rules v.few o.g.message.from o.g.message.entries s.from
      (λ z. s.apart (z ∙ sym here)) s.rules (λ y _. entry_bound (state_of w) g.invariant o.issue o.g o.logged i y) o.g.message.kind)

  settled : (out body : List ℕ) → out_size ≤ length out → (s : Search) → search (deliverable d) (w.nodes i).held ≡ s
      → Left (conclude d s) (settle out body (conclude d s))
  settled out body h absent e = record {
    node = refl;
    queue = refl;
    answer = record { acceptance = refl; names = refl; taken = refl; given = refl; extras = refl; users = refl; expected = inl refl };
    frames = cut-nothing out;
    bodies = λ p f a. absurd (at_none p f a);
  }
  settled out body h (found k m others) e =
      let x = search-left (deliverable d) (w.nodes i).held k m others e in
      let y : k - 1 ≡ x.0 = omega (arith, x.1) in
      let z = search-found (deliverable d) (w.nodes i).held k m others e in
      record {
        node = refl;
        queue = ap₂ (λ (z : ℕ) (l : List (List ℕ)). laid (without z l)) y (frames-back n caps w g few bodies i hi) ∙ ap laid (sym x.2);
        answer = record { acceptance = refl; names = refl; taken = refl; given = refl; extras = refl; users = refl; expected = inl refl };
        frames = issued-frames out (learn m.kind d m.entries).extras (omega (arith, room z.0 m z.2.at));
        bodies = λ p f a. subst AllBytes (sym (learn-bare m.kind d m.entries p f a)) (small_bytes [] tt);
      }

  -- check 3 is met, or not
  abbrev short : List ℕ → List ℕ → Bool
  short out body = ltb (length out) out_size || ltb (length body) max_body || not (eqb (length q) queue_size)

  -- a deliver that is lent outputs of at least 2,048 and 64 bytes
  pub deliver-agrees : (out body : List ℕ) → out_size ≤ length out → max_body ≤ length body → Left (deliver d) (deliver_call r q out body)
  unfolding deliver_call deliver
  deliver-agrees out body h k =
      let o : protocol.Outcome = deliver (node_of r (held_messages (length (w.nodes i).held) q)) in
      let t₄ : AfterDeliver = cond (wrong_queue (node_of r []) (length (w.nodes i).held) q) (refuse_deliver 4 r q out body) (settle out body o) in
      let last : protocol.Outcome = conclude d (search (deliverable d) (w.nodes i).held) in
      let e : deliver d ≡ last = cond_no (at_limit d) (protocol.refuse 5 d) last (below-limit n caps w g few i) in
      subst (Left (deliver d))
      (sym (cond_no (broken_record r) (refuse_deliver 2 r q out body) (cond (short out body) (refuse_deliver 3 r q out body) t₄) (record_kept n caps w g few i hi)
      ∙ cond_no (short out body) (refuse_deliver 3 r q out body) t₄ long
      ∙ cond_no (wrong_queue (node_of r []) (length (w.nodes i).held) q) (refuse_deliver 4 r q out body) (settle out body o)
      (queue-passes n caps w g few bodies i hi)
      ∙ ap (λ (z : MessageNode). settle out body (deliver z)) (whole_back n caps w g few bodies i hi)))
      (subst (λ (o : protocol.Outcome). Left o (settle out body o)) (sym e) (settled out body h (search (deliverable d) (w.nodes i).held) refl))
    where
      long : T (not (short out body))
      long =
          not-or (ltb (length out) out_size || ltb (length body) max_body) (not (eqb (length q) queue_size))
          (not-or (ltb (length out) out_size) (ltb (length body) max_body) (le→nltb (length out) out_size h) (le→nltb (length body) max_body k))
          (T_not-not (eqb (length q) queue_size) (eq→eqb (length q) queue_size (queue-length n caps w g few bodies i hi)))

  -- one that is lent less
  pub deliver-short : (out body : List ℕ) → T (ltb (length out) out_size || ltb (length body) max_body) → deliver_call r q out body ≡ refuse_deliver 3 r q out body
  unfolding deliver_call
  deliver-short out body h =
      let o : protocol.Outcome = deliver (node_of r (held_messages (length (w.nodes i).held) q)) in
      let t₄ : AfterDeliver = cond (wrong_queue (node_of r []) (length (w.nodes i).held) q) (refuse_deliver 4 r q out body) (settle out body o) in
      cond_no (broken_record r) (refuse_deliver 2 r q out body) (cond (short out body) (refuse_deliver 3 r q out body) t₄) (record_kept n caps w g few i hi)
      ∙ cond_yes (short out body) (refuse_deliver 3 r q out body) t₄
      (either_T (ltb (length out) out_size || ltb (length body) max_body) (not (eqb (length q) queue_size)) (inl h))
