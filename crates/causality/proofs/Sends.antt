-- A send on record and bytes leaves what the send on messages leaves; with too short an output, or by a class without the right, it is refused. Assumes nothing.
use Prim.Native.Nat.{◌<◌, ◌≤◌, suc, zero, ℕ}
use mathlib.Core.Bool.{Bool, ◌||◌, cond, false, not}
use mathlib.Core.List.{List, [], ◌∷◌, map}
use mathlib.Core.Logic.{◌≢◌, ◌⊎◌, inl, inr}
use mathlib.Core.Option.{some}
use mathlib.Core.Path.{◌∙◌, ◌≡◌, ap, refl, subst, sym}
use native.Mathlib.Omega.{arith}
use lib.Dec.{T, T_not, eqb, ltb, ltb→lt, nltb→le}
use lib.ListN.{get_elem?, length}
use Rattle.causality.proofs.Frames.{issued-frames}
use Rattle.causality.proofs.Matches.{Agrees}
use Rattle.causality.proofs.Queues.{Bodies}
use Rattle.causality.proofs.Records.{node-back, record_kept, record_of}
use Rattle.causality.proofs.Refused.{SaysNo, refused-agrees}
use Rattle.causality.specs.Demand3.{sent}
use Rattle.causality.specs.ListRefusals.{Expected}
use Rattle.frame.specs.Frame.{encode}
use Rattle.holdback.specs.Slots.{laid}
use Rattle.matrix.specs.Matrix.{clear}
use Rattle.matrix.specs.Message.{Message}
use Rattle.node.specs.Answers.{AfterSend}
use Rattle.node.specs.Calls.{accept_send, permit_send, refuse_send, send_call, refusal as refusal_of}
use Rattle.node.specs.Sizes.{out_size}
use Rattle.node.specs.Record.{broken_record, node_of}
use Rattle.protocol.proofs.Bounds.{below-limit}
use Rattle.protocol.proofs.Good.{Good}
use Rattle.protocol.proofs.Grown.{node_at}
use Rattle.protocol.proofs.Trim.{trim-bare}
use Rattle.protocol.specs.Node.{at_limit, Node as MessageNode}
use Rattle.protocol.specs.Send.{long_body, send, sending, sent_matrix, sent_message}
use Rattle.rights.specs.Ours.{ours}
use Rattle.rights.specs.Rights.{lacks_right}
use Rattle.wire.proofs.Bytes.{small_bytes}
use Rattle.trim.proofs.Outputs.{send-bytes}
use Rattle.wire.proofs.Tests.{cond_no, cond_yes, decide, is_false, le→nltb, neqb→ne, not-not, or-T, or-not}
use Rattle.wire.specs.Bytes.{AllBytes}
use Rattle.wire.specs.Limits.{max_body}
use Rattle.protocol.specs.World as messages
use Rattle.protocol.specs.Answer as protocol
use Rattle.node.specs.declared.Node.{Node as Record}
use Rattle.node.specs.SendAnswer as answer

-- a send that the node refuses whatever the protocol says of it: it is lent too little, or its class lacks the right to its body
abbrev pub barred : (class : ℕ) (body out : List ℕ) → Bool
barred class body out = ltb (length out) out_size || lacks_right ours class body

module _ (n : ℕ) (caps : ℕ → ℕ) (w : messages.World) (g : Good n caps w) (few : length w.history < 1000000000) (bodies : Bodies w) (i : ℕ) (hi : i < n) where
  -- the node, with any messages held
  abbrev with-held : List Message → MessageNode
  with-held l = record { me = i; n = n; cap = caps i; matrix = (w.nodes i).matrix; deliv = (w.nodes i).deliv; held = l }

  -- the node
  abbrev d : MessageNode
  d = node_at n caps w i

  -- its record
  abbrev r : Record
  r = record_of d

  -- its queue
  abbrev q : List ℕ
  q = laid (map encode (w.nodes i).held)

  -- check 5 is not met, whatever is held
  pub free : (l : List Message) → T (not (at_limit (with-held l)))
  unfolding at_limit
  free l = below-limit n caps w g few i

  -- a send is refused, or it is not, whatever is held
  data Case (to : ℕ) (body : List ℕ) : Type 0 where
    refuses : (k : ℕ) → T (not (eqb k 0)) → Expected (sent (answer.Refused k))
        → ((l : List Message) → send (with-held l) to body ≡ protocol.refuse k (with-held l)) → Case to body
    accepts : to < n → to ≢ i → length body ≤ max_body → ((l : List Message) → send (with-held l) to body ≡ sending (with-held l) to body) → Case to body

  case : (to : ℕ) (body : List ℕ) → Case to body
  unfolding send
  case to body = go (decide (eqb to i || not (ltb to n))) (decide (long_body body))
    where
      last : List Message → protocol.Outcome
      last l = cond (long_body body) (protocol.refuse 7 (with-held l)) (sending (with-held l) to body)

      rest : List Message → protocol.Outcome
      rest l = cond (eqb to i || not (ltb to n)) (protocol.refuse 6 (with-held l)) (last l)

      go : T (eqb to i || not (ltb to n)) ⊎ T (not (eqb to i || not (ltb to n))) → T (long_body body) ⊎ T (not (long_body body)) → Case to body
      go (inl a) b =
          refuses 6 tt (inr (inr (inl refl))) (λ l. cond_no (at_limit (with-held l)) (protocol.refuse 5 (with-held l)) (rest l) (free l)
          ∙ cond_yes (eqb to i || not (ltb to n)) (protocol.refuse 6 (with-held l)) (last l) a)
      go (inr a) (inl b) =
          refuses 7 tt (inr (inr (inr (inl refl)))) (λ l. cond_no (at_limit (with-held l)) (protocol.refuse 5 (with-held l)) (rest l) (free l)
          ∙ cond_no (eqb to i || not (ltb to n)) (protocol.refuse 6 (with-held l)) (last l) a
          ∙ cond_yes (long_body body) (protocol.refuse 7 (with-held l)) (sending (with-held l) to body) b)
      go (inr a) (inr b) =
          let t = or-not (eqb to i) (not (ltb to n)) a in
          accepts (ltb→lt to n (not-not (ltb to n) t.1)) (neqb→ne to i t.0) (nltb→le max_body (length body) b) (λ l. cond_no (at_limit (with-held l)) (protocol.refuse 5 (with-held l)) (rest l) (free l)
          ∙ cond_no (eqb to i || not (ltb to n)) (protocol.refuse 6 (with-held l)) (last l) a
          ∙ cond_no (long_body body) (protocol.refuse 7 (with-held l)) (sending (with-held l) to body) b)

  -- what a send leaves
  abbrev Left : protocol.Outcome → AfterSend → Type 0
  Left o c = Agrees o c.result.node q (sent c.result.answer) c.out

  says_no : (k : ℕ) → T (not (eqb k 0)) → Expected (sent (answer.Refused k)) → SaysNo (sent (answer.Refused k))
  says_no k t x = record { refuses = is_false (eqb k 0) t; nothing = refl; holds = refl; gives = refl; counts = refl; extras = refl; users = refl; expected = x }

  -- a send to `to`, by a class
  module _ (to class : ℕ) (body out : List ℕ) where
    -- what the call leaves, by what the protocol's send leaves
    abbrev settle : protocol.Outcome → AfterSend
    settle o = cond (protocol.accepted o.answer) (permit_send r class body out o) (refuse_send (refusal_of o.answer) r out)

    abbrev behind : AfterSend
    behind = cond (ltb (length out) out_size) (refuse_send 3 r out) (settle (send (node_of r []) to body))

    -- a call that is lent an output of at least 2,048 bytes, and one that is lent less
    made : out_size ≤ length out → send_call r to class body out ≡ settle (send (with-held []) to body)
    unfolding send_call
    made h =
        cond_no (broken_record r) (refuse_send 2 r out) behind (record_kept n caps w g few i hi)
        ∙ cond_no (ltb (length out) out_size) (refuse_send 3 r out) (settle (send (node_of r []) to body)) (le→nltb (length out) out_size h)
        ∙ ap (λ (e : MessageNode). settle (send e to body)) (node-back n caps w g few i hi [])

    short : T (ltb (length out) out_size) → send_call r to class body out ≡ refuse_send 3 r out
    unfolding send_call
    short h =
        cond_no (broken_record r) (refuse_send 2 r out) behind (record_kept n caps w g few i hi)
        ∙ cond_yes (ltb (length out) out_size) (refuse_send 3 r out) (settle (send (node_of r []) to body)) h

    -- where the class has the right to the body, the call leaves what the protocol's send leaves
    settled : AllBytes body → out_size ≤ length out → lacks_right ours class body ≡ false → Case to body → Left (send d to body) (settle (send (with-held []) to body))
    settled bytes long may (refuses k t x e) =
        subst (λ (o : protocol.Outcome). Left o (settle (send (with-held []) to body))) (sym (e (w.nodes i).held))
        (subst (λ (o : protocol.Outcome). Left (protocol.refuse k d) (settle o)) (sym (e []))
        (refused-agrees d k (sent (answer.Refused k)) out (says_no k t x)))
    settled bytes long may (accepts below other fits e) =
        subst (λ (o : protocol.Outcome). Left o (settle (send (with-held []) to body))) (sym (e (w.nodes i).held))
        (subst (Left (sending d to body)) (sym (ap settle (e []) ∙ permitted))
        (record {
          node = refl;
          queue = refl;
          answer = record { acceptance = refl; names = refl; taken = refl; given = refl; extras = refl; users = refl; expected = inl refl };
          frames = issued-frames out issues (omega (
            arith,
            send-bytes d hi (g.range i hi).at_most12 (g.range i hi).cap_from (g.node i hi).rules (g.node i hi).few to body below other fits,
          ));
          bodies = all-bytes;
        }))
      where
        permitted : permit_send r class body out (sending (with-held []) to body) ≡ accept_send r out (sending (with-held []) to body)
        permitted = ap (λ (t : Bool). cond t (refuse_send 21 r out) (accept_send r out (sending (with-held []) to body))) may

        extras : List Message
        extras = (sent_matrix d to).extras

        issues : List Message
        issues = sent_message d to body ∷ (sent_matrix d to).extras

        all-bytes : (p : ℕ) (m : Message) → get_elem? (sent_message d to body ∷ (sent_matrix d to).extras) p ≡ some m → AllBytes m.body
        all-bytes zero m a = let z : sent_message d to body ≡ m = cc in subst (λ (x : Message). AllBytes x.body) z bytes
        all-bytes (suc p) m a =
            subst (λ (x : List ℕ). AllBytes x) (sym (trim-bare 12 i n (caps i) (clear i to (w.nodes i).matrix) p m a)) (small_bytes [] tt)

    pub send-agrees : AllBytes body → out_size ≤ length out → lacks_right ours class body ≡ false → Left (send d to body) (send_call r to class body out)
    send-agrees bytes h may = subst (Left (send d to body)) (sym (made h)) (settled bytes h may (case to body))

    -- the call is refused
    pub record NotSent (c : AfterSend) : Type 0 where
      pub number : ℕ
      pub says : SaysNo (sent (answer.Refused number))
      pub same : c ≡ refuse_send number r out

    -- where the class lacks the right, it is: with 21, unless an earlier check is met
    lacking : T (lacks_right ours class body) → Case to body → NotSent (settle (send (with-held []) to body))
    lacking l (refuses k t x e) = record { number = k; says = says_no k t x; same = ap settle (e []) }
    lacking l (accepts below other fits e) = record {
      number = 21;
      says = says_no 21 tt (inr (inr (inr (inr (inl refl)))));
      same = ap settle (e []) ∙ cond_yes (lacks_right ours class body) (refuse_send 21 r out) (accept_send r out (sending (with-held []) to body)) l;
    }

    pub send-barred : T (barred class body out) → NotSent (send_call r to class body out)
    send-barred t = go (decide (ltb (length out) out_size))
      where
        go : T (ltb (length out) out_size) ⊎ T (not (ltb (length out) out_size)) → NotSent (send_call r to class body out)
        go (inl s) = record { number = 3; says = says_no 3 tt (inr (inl refl)); same = short s }
        go (inr s) =
            subst NotSent (sym (made (nltb→le (length out) out_size s)))
            (lacking (right (or-T (ltb (length out) out_size) (lacks_right ours class body) t)) (case to body))
          where
            right : T (ltb (length out) out_size) ⊎ T (lacks_right ours class body) → T (lacks_right ours class body)
            right (inl x) = absurd (T_not (ltb (length out) out_size) s x)
            right (inr x) = x
