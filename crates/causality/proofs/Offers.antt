-- An offer of an issued frame, on record and bytes, leaves what the offer of its message leaves. Assumes nothing.
use Prim.Native.Nat.{◌<◌, ℕ}
use mathlib.Core.Bool.{cond, not}
use mathlib.Core.List.{List, [], ◌++◌, ◌∷◌, map, map-append}
use mathlib.Core.Logic.{inl, inr}
use mathlib.Core.Path.{◌∙◌, ◌≡◌, ap, ap₂, refl, subst, sym}
use lib.Dec.{T, T_not, eqb}
use lib.ListN.{length}
use Rattle.causality.proofs.Frames.{cut-nothing}
use Rattle.causality.proofs.Matches.{Agrees}
use Rattle.causality.proofs.Queues.{Bodies, frame-passes, frames-back, messages-back, queue-here, queue-length, sound-issue}
use Rattle.causality.proofs.Records.{node-back, record_kept, record_of}
use Rattle.causality.proofs.Refused.{SaysNo, refused-agrees}
use Rattle.causality.specs.Demand3.{offered}
use Rattle.causality.specs.ListRefusals.{Expected}
use Rattle.frame.proofs.Written.{decode-encode}
use Rattle.frame.specs.Frame.{decode, encode}
use Rattle.frame.specs.Refusals.{frame_refusal}
use Rattle.holdback.specs.WrongQueue.{wrong_queue}
use Rattle.holdback.specs.Slots.{held_messages, laid, queue_size}
use Rattle.matrix.specs.Message.{Message}
use Rattle.node.specs.Answers.{AfterOffer}
use Rattle.node.specs.Calls.{accept_offer, offer_call, refuse_offer, refusal as refusal_of}
use Rattle.node.specs.Record.{broken_record, node_of}
use Rattle.protocol.proofs.Bounds.{claims_little}
use Rattle.protocol.proofs.Good.{Good}
use Rattle.protocol.proofs.Grown.{node_at}
use Rattle.protocol.proofs.Lists.{at_none}
use Rattle.protocol.proofs.Offering.{offer_checks_lem}
use Rattle.protocol.specs.Offer.{claims_too_much, holding, offer}
use Rattle.wire.proofs.Tests.{cond_no, eq→eqb, is_false, T_not-not}
use Rattle.protocol.specs.World as messages
use Rattle.protocol.specs.Answer as protocol
use Rattle.protocol.specs.Node.{Node as MessageNode}
use Rattle.node.specs.declared.Node.{Node as Record}
use Rattle.node.specs.OfferAnswer as answer

-- an offer of m at d is refused, or it is not
data Case (d : MessageNode) (m : Message) : Type 0 where
  refuses : (k : ℕ) → T (not (eqb k 0)) → Expected (offered (answer.Refused k)) → offer d m ≡ protocol.refuse k d → Case d m
  accepts : offer d m ≡ holding d m → Case d m

-- one that claims no more than stands in row me
case : (d : MessageNode) (m : Message) → T (not (claims_too_much d m)) → Case d m
case d m c =
    offer_checks_lem d m (λ (o : protocol.Outcome). offer d m ≡ o → Case d m) (λ _ e. refuses 12 tt (inr (inl refl)) e)
    (λ t _. absurd (T_not (claims_too_much d m) c t)) (λ _ e. refuses 14 tt (inr (inr (inl refl))) e) (λ _ e. refuses 15 tt (inr (inr (inr (inl refl)))) e)
    (λ _ e. refuses 16 tt (inr (inr (inr (inr (inl refl))))) e) (λ _ _ _ _ e. accepts e) refl

module _ (n : ℕ) (caps : ℕ → ℕ) (w : messages.World) (g : Good n caps w) (few : length w.history < 1000000000) (bodies : Bodies w) (i : ℕ) (hi : i < n) where
  -- the node
  abbrev d : MessageNode
  d = node_at n caps w i

  -- its record
  abbrev r : Record
  r = record_of d

  -- its queue
  abbrev q : List ℕ
  q = laid (map encode (w.nodes i).held)

  -- the node is read back from record and queue
  pub whole_back : node_of r (held_messages (length (w.nodes i).held) q) ≡ d
  whole_back =
      node-back n caps w g few i hi (held_messages (length (w.nodes i).held) q)
      ∙ ap (λ (l : List Message). record {
        me = i;
        n = n;
        cap = caps i;
        matrix = (w.nodes i).matrix;
        deliv = (w.nodes i).deliv;
        held = l;
      }) (messages-back n caps w g few bodies i hi)

  -- check 4 is not met
  pub queue-passes : T (not (wrong_queue (node_of r []) (length (w.nodes i).held) q))
  queue-passes =
      subst (λ (z : MessageNode). T (not (wrong_queue z (length (w.nodes i).held) q)))
      (sym (node-back n caps w g few i hi [])) (queue-here n caps w g few bodies i hi)

  -- what an offer leaves
  abbrev Left : protocol.Outcome → AfterOffer → Type 0
  Left o c = Agrees o c.result.node c.queue (offered c.result.answer) []

  -- the last step of the call
  abbrev settle : List ℕ → protocol.Outcome → AfterOffer
  settle s o = cond (protocol.accepted o.answer) (accept_offer r s q o) (refuse_offer (refusal_of o.answer) r q)

  says_no : (k : ℕ) → T (not (eqb k 0)) → Expected (offered (answer.Refused k)) → SaysNo (offered (answer.Refused k))
  says_no k t x = record { refuses = is_false (eqb k 0) t; nothing = refl; holds = refl; gives = refl; counts = refl; extras = refl; users = refl; expected = x }

  settled : (m : Message) → Case d m → Left (offer d m) (settle (encode m) (offer d m))
  settled m (refuses k t x e) =
      subst (λ (o : protocol.Outcome). Left o (settle (encode m) o)) (sym e) (refused-agrees d k (offered (answer.Refused k)) [] (says_no k t x))
  settled m (accepts e) =
      subst (λ (o : protocol.Outcome). Left o (settle (encode m) o)) (sym e)
      (record {
        node = refl;
        queue =
            ap (λ (l : List (List ℕ)). laid (l ++ (encode m ∷ []))) (frames-back n caps w g few bodies i hi)
            ∙ ap laid (sym (map-append encode (w.nodes i).held (m ∷ [])));
        answer = record { acceptance = refl; names = refl; taken = refl; given = refl; extras = refl; users = refl; expected = inl refl };
        frames = cut-nothing [];
        bodies = λ p f a. absurd (at_none p f a);
      })

  -- an offer of issue p
  pub offer-agrees : (p : ℕ) (f : messages.Issue) → messages.IssueAt w p f → Left (offer d f.message) (offer_call r (encode f.message) q)
  unfolding offer_call
  offer-agrees p f at =
      let s : List ℕ = encode f.message in
      let o : protocol.Outcome = offer (node_of r (held_messages (length (w.nodes i).held) q)) (decode s) in
      let t₈ : AfterOffer = cond (not (eqb (frame_refusal n s) 0)) (refuse_offer (frame_refusal n s) r q) (settle s o) in
      let t₄ : AfterOffer = cond (wrong_queue (node_of r []) (length (w.nodes i).held) q) (refuse_offer 4 r q) t₈ in
      subst (Left (offer d f.message))
      (sym (cond_no (broken_record r) (refuse_offer 2 r q) (cond (not (eqb (length q) queue_size)) (refuse_offer 3 r q) t₄) (record_kept n caps w g few i hi)
      ∙ cond_no (not (eqb (length q) queue_size)) (refuse_offer 3 r q) t₄
      (T_not-not (eqb (length q) queue_size) (eq→eqb (length q) queue_size (queue-length n caps w g few bodies i hi)))
      ∙ cond_no (wrong_queue (node_of r []) (length (w.nodes i).held) q) (refuse_offer 4 r q) t₈ queue-passes
      ∙ cond_no (not (eqb (frame_refusal n s) 0)) (refuse_offer (frame_refusal n s) r q) (settle s o)
      (T_not-not (eqb (frame_refusal n s) 0) (eq→eqb (frame_refusal n s) 0 (frame-passes n caps w g few bodies p f at)))
      ∙ ap₂ (λ (z : MessageNode) (m : Message). settle s (offer z m)) whole_back (decode-encode f.message (sound-issue n caps w g few bodies p f at))))
      (settled f.message (case d f.message (claims_little n caps w g p f at i)))
