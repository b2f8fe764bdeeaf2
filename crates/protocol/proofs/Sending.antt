-- A send keeps a world good.
use Prim.Native.Nat.{ℕ, zero, suc, ◌≤◌, ◌<◌}
use mathlib.Core.Bool.{not, cond}
use mathlib.Core.List.{List, [], ◌∷◌, ◌++◌, append_assoc, map}
use mathlib.Core.Logic.{inl, ◌≢◌}
use mathlib.Core.Path.{◌≡◌, refl, sym, subst, ◌∙◌}
use native.Mathlib.Decide.{ℕ_discrete}
use native.Mathlib.Omega.{arith}
use lib.Dec.{ltb→lt, ltb, eqb, nltb→le}
use lib.ListN.{length}
use Rattle.matrix.proofs.Columns.{MatrixRules, clear-rules, clear-one}
use Rattle.matrix.proofs.Matrix.{clear-mine, clear-gone, clear_keep}
use Rattle.matrix.specs.Matrix.{Matrix, column_count, clear}
use Rattle.matrix.specs.Message.{Message, user_message, InRange}
use Rattle.protocol.proofs.Below.{update_same, update_other, answers-here}
use Rattle.protocol.proofs.Good.{state_of, SoundIssue, AllSound, SoundNode, Good, invariant_cong}
use Rattle.protocol.proofs.Grown.{grown, queue-grow, good-grown, keeps_all, refuse-good, node_at, node-eq}
use Rattle.protocol.proofs.Issuing.{Issuing, UserStep, issue-invariant}
use Rattle.protocol.proofs.Lists.{at_last, length-snoc}
use Rattle.protocol.proofs.Quiet.{after_quiet, quiet_invariant}
use Rattle.protocol.proofs.Rounds.{put_matrix, put_matrix-same, put_matrix-other, extra-user, rounds-invariant, rounds-sound}
use Rattle.protocol.proofs.State.{Invariant}
use Rattle.protocol.proofs.Trim.{Rounds, trim-rounds, trim-ends, rounds-rules, rounds-row}
use Rattle.protocol.specs.Answer.{sent, Outcome, refuse}
use Rattle.protocol.specs.Demand3.{offers_accepted, deliveries}
use Rattle.protocol.specs.Node.{Node, at_limit, update}
use Rattle.protocol.specs.Send.{bad_destination, long_body, sending, send}
use Rattle.protocol.specs.Trim.{Trimmed, trim_for}
use Rattle.protocol.specs.World.{sends, Event, World, issued_by, after_step}
use Rattle.wire.proofs.Tests.{not-not, cond_elim, neqb→ne, or-not}
use Rattle.wire.specs.Limits.{max_nodes, max_body}

-- a send by its checks: what holds of each refusal, and of a send that meets none of them, holds of its outcome
pub send_checks_lem : (d : Node) (to : ℕ) (body : List ℕ) (P : Outcome → Type 0) → P (refuse 5 d) → P (refuse 6 d) → P (refuse 7 d)
    → (to < d.n → to ≢ d.me → length body ≤ max_body → P (sending d to body)) → P (send d to body)
unfolding send
send_checks_lem d to body P r₅ r₆ r₇ goes =
    cond_elim P (at_limit d) (refuse 5 d) (cond (bad_destination d to) (refuse 6 d) rest) (λ _. r₅)
    (λ _. cond_elim P (bad_destination d to) (refuse 6 d) rest (λ _. r₆)
    (λ a. cond_elim P (long_body body) (refuse 7 d) (sending d to body) (λ _. r₇)
    (λ b. let h = or-not (eqb to d.me) (not (ltb to d.n)) a in
    goes (ltb→lt to d.n (not-not (ltb to d.n) h.1)) (neqb→ne to d.me h.0) (nltb→le max_body (length body) b))))
  where
    rest : Outcome
    rest = cond (long_body body) (refuse 7 d) (sending d to body)

-- a send that is not refused, of node i to node j
module _ (n : ℕ) (caps : ℕ → ℕ) (w : World) (g : Good n caps w) (i : ℕ) (hi : i < n) (j : ℕ) (hj : j < n) (ne : j ≢ i)
    (body : List ℕ) (short : length body ≤ max_body) where
  -- the matrix of the sender
  abbrev m : Matrix
  m = (w.nodes i).matrix

  -- the place of the step in the history
  abbrev t : ℕ
  t = length w.history

  -- the user message
  abbrev f : Message
  f = user_message i j n (caps i) m body

  -- what trim makes of the cleared matrix
  abbrev r : Trimmed
  r = trim_for max_nodes i n (caps i) (clear i j m)

  -- the node afterwards
  abbrev d : Node
  d = record { me = i; n = n; cap = caps i; matrix = r.matrix; deliv = (w.nodes i).deliv; held = (w.nodes i).held }

  -- the event
  abbrev e : Event
  e = record { node = i; step = sends i j body; answer = sent (f ∷ r.extras) }

  -- the node keeps its rules
  ok : SoundNode n (caps i) w.log w.history i (w.nodes i)
  ok = g.node i hi

  -- n and its cap are in range
  range : InRange n (caps i)
  range = g.range i hi

  -- the cleared matrix keeps the rules
  rules₁ : MatrixRules n i (clear i j m)
  rules₁ = clear-rules n i j m ok.rules hi hj ne

  -- trim is a run of rounds
  rounds : Rounds n (caps i) i (clear i j m) r.extras r.matrix
  rounds = trim-rounds max_nodes n i (caps i) (clear i j m) hi range.cap_from rules₁

  -- all matrices before the send
  abbrev M₀ : ℕ → Matrix
  M₀ = λ k. (w.nodes k).matrix

  -- the matrices after the user message
  abbrev M₁ : ℕ → Matrix
  M₁ = put_matrix M₀ i (clear i j m)

  -- the user message is issued
  user-issuing : Issuing M₀ M₁ (issued_by t f)
  user-issuing = record {
    apart = λ q. ne (sym q);
    column = λ x. refl;
    part = λ x y. inl refl;
    whole = λ u x y. refl;
    raised = put_matrix-same M₀ i (clear i j m) i j ∙ clear-mine i j m;
    cleared = λ x h. put_matrix-same M₀ i (clear i j m) x j ∙ clear-gone i j m x h;
    same = λ x y h. put_matrix-same M₀ i (clear i j m) x y ∙ clear_keep i j m x y h;
    others = λ k x y h. put_matrix-other M₀ i (clear i j m) k x y h;
  }

  -- by the last step
  user-step : UserStep (after_quiet (state_of w) e) (issued_by t f)
  user-step =
      record {
        last = λ u. sym (length-snoc w.history e);
        event = λ u. (e, at_last w.history e, refl, refl);
        free = λ u p h a b. g.invariant.early p h a b;
      }

  -- the step is told, then the user message is issued, then the extras
  send-invariant : Invariant (state_of (grown w i d (f ∷ r.extras) e))
  send-invariant =
      invariant_cong (w.log ++ (issued_by t f ∷ []) ++ map (issued_by t) r.extras) (w.log ++ map (issued_by t) (f ∷ r.extras)) (w.history ++ (e ∷ []))
      (put_matrix M₁ i r.matrix) (λ k. (update w.nodes i d k).matrix) (λ k. (w.nodes k).deliv) (λ k. (update w.nodes i d k).deliv)
      (append_assoc w.log (issued_by t f ∷ []) (map (issued_by t) r.extras)) (λ k x y. same k x y (ℕ_discrete k i)) (λ k x. same-deliv k x (ℕ_discrete k i))
      (rounds-invariant n (caps i) i t (clear i j m) r.extras r.matrix rounds (w.log ++ (issued_by t f ∷ []))
      (w.history ++ (e ∷ [])) M₁ (λ k. (w.nodes k).deliv)
      (λ x y. put_matrix-same M₀ i (clear i j m) x y)
      (issue-invariant (after_quiet (state_of w) e) (quiet_invariant (state_of w) g.invariant e refl) M₁ (issued_by t f) user-issuing user-step))
    where
      same : (k x y : ℕ) → Dec (k ≡ i) → put_matrix M₁ i r.matrix k x y ≡ (update w.nodes i d k).matrix x y
      same k x y (yes q) = rw (q, update_same w.nodes i d) (put_matrix-same M₁ i r.matrix x y)
      same k x y (no q) = rw (update_other w.nodes i d k q) (put_matrix-other M₁ i r.matrix k x y q ∙ put_matrix-other M₀ i (clear i j m) k x y q)

      same-deliv : (k x : ℕ) → Dec (k ≡ i) → (w.nodes k).deliv x ≡ (update w.nodes i d k).deliv x
      same-deliv k x (yes q) = rw (q, update_same w.nodes i d)
      same-deliv k x (no q) = rw (update_other w.nodes i d k q)

  -- row i grows by one at most
  row' : (y : ℕ) → r.matrix i y ≤ suc t
  row' y = go (rounds-row n (caps i) i (clear i j m) r.extras r.matrix hi range.at_most12 rounds y) (ℕ_discrete y j)
    where
      go : (r.matrix i y ≤ suc (clear i j m i y)) × (column_count (clear i j m) y ≤ 1 → r.matrix i y ≡ clear i j m i y) → Dec (y ≡ j) → r.matrix i y ≤ suc t
      go h (yes q) =
          let c : r.matrix i y ≡ clear i j m i y = h.1 (rw q (omega (arith, clear-one i j m (omega (arith, range.at_most12))))) in
          let c' : clear i j m i y ≡ suc (m i j) = rw q (clear-mine i j m) in
          omega (arith, ok.row j)
      go h (no q) = omega (arith, h.0, clear_keep i j m i y q, ok.row y)

  -- the node keeps its rules
  send-node : SoundNode n (caps i) (w.log ++ map (issued_by t) (f ∷ r.extras)) (w.history ++ (e ∷ [])) i d
  send-node = record {
    me = refl;
    sized = refl;
    capped = refl;
    rules = rounds-rules n (caps i) i (clear i j m) r.extras r.matrix hi rules₁ rounds;
    few = trim-ends n i (caps i) (clear i j m) hi range.at_most12 range.cap_from rules₁;
    row = λ y. omega (arith, row' y, length-snoc w.history e);
    queue = queue-grow w.log (map (issued_by t) (f ∷ r.extras)) w.history e i (w.nodes i).deliv (w.nodes i).held ok.queue;
    number = omega (arith, ok.number, answers-here offers_accepted i w.history e refl, answers-here deliveries i w.history e refl);
  }

  -- all that is issued is sound
  send-sound : AllSound n caps (f ∷ r.extras)
  send-sound zero h q =
      let z : f ≡ h = cc in
      subst (λ (k : Message). SoundIssue n caps k) z
      (record {
        from = hi;
        to = hj;
        apart = λ q. ne (sym q);
        sized = refl;
        capped = refl;
        rules = ok.rules;
        few = ok.few;
        short = short;
        lone = λ u. absurd (extra-user (sym u));
        bare = λ u. absurd (extra-user (sym u));
      })
  send-sound (suc p) h q = rounds-sound n caps i (clear i j m) r.extras r.matrix hi range.cap_from rounds p h q

  -- a send that is not refused
  pub sending-good : Good n caps (after_step w i (sends i j body) (sending (node_at n caps w i) j body))
  sending-good =
      good-grown n caps w g i d (f ∷ r.extras) e refl send-invariant send-node send-sound
      (keeps_all w i d e (λ k p q t. let z : ◌≡◌ {A = ℕ} 0 1 = cc in omega arith) refl refl)

-- any send
pub send-good : (n : ℕ) (caps : ℕ → ℕ) (w : World) → Good n caps w → (i j : ℕ) (body : List ℕ) → i < n
    → Good n caps (after_step w i (sends i j body) (send (w.nodes i) j body))
send-good n caps w g i j body hi =
    send_checks_lem d j body P (refuse-good n caps w g i hi (sends i j body) 5) (refuse-good n caps w g i hi (sends i j body) 6)
    (refuse-good n caps w g i hi (sends i j body) 7) go
  where
    d : Node
    d = w.nodes i

    P : Outcome → Type 0
    P r = Good n caps (after_step w i (sends i j body) r)

    go : j < d.n → j ≢ d.me → length body ≤ max_body → P (sending d j body)
    go below other s =
        let hj : j < n = rw (g.node i hi).sized at below in
        let ne : j ≢ i = λ q. other (q ∙ sym (g.node i hi).me) in
        subst (λ (z : Node). P (sending z j body)) (sym (node-eq n caps w g i hi)) (sending-good n caps w g i hi j hj ne body s)
