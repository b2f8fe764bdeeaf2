-- The record of a node in a good world: it keeps the record rules, and the protocol's node is read back from it. Assumes nothing.
use Prim.Native.Nat.{◌<◌, ◌≤◌, suc, zero, ℕ}
use mathlib.Core.Bool.{false, not}
use mathlib.Core.List.{List, []}
use mathlib.Core.Path.{◌∙◌, ◌≡◌, fun_ext, refl, subst, sym}
use native.Mathlib.Decide.{dec_lt}
use native.Mathlib.Omega.{arith}
use lib.Dec.{T}
use lib.ListN.{get_or-eq_default, get_or, length}
use Rattle.matrix.proofs.Array.{length_list, vector_list}
use Rattle.matrix.proofs.Cleared.{rules-back}
use Rattle.matrix.specs.Array.{entry, flat, list_from, vector}
use Rattle.matrix.specs.Matrix.{Matrix}
use Rattle.matrix.specs.Message.{InRange, Message}
use Rattle.node.specs.Record.{broken_record, node_of}
use Rattle.rules.proofs.Facts.{Ranged, Unbroken}
use Rattle.rules.proofs.Kept.{rules-kept}
use Rattle.rules.specs.Rules.{broken_rules}
use Rattle.protocol.proofs.Bounds.{matrix_bound, row_below}
use Rattle.protocol.proofs.Good.{Good, SoundNode, state_of}
use Rattle.protocol.proofs.Grown.{node_at}
use Rattle.wire.proofs.Tests.{of_false}
use Rattle.protocol.specs.World as messages
use Rattle.protocol.specs.Node.{Node as MessageNode}
use Rattle.node.specs.declared.Node.{Node as Record}

-- the record of a protocol's node
abbrev pub record_of : MessageNode → Record
record_of d = record { me = d.me; n = d.n; cap = d.cap; m = flat d.matrix; deliv = list_from 0 12 d.deliv; held = length d.held }

-- n, me and cap are in range
pub in_range_lem : (me n cap : ℕ) → me < n → InRange n cap → Ranged me n cap
in_range_lem me n cap h r = record { at_least2 = r.at_least2; at_most12 = r.at_most12; below = h; cap_from = r.cap_from; cap_to = r.cap_to }

-- node i of a good world
module _ (n : ℕ) (caps : ℕ → ℕ) (w : messages.World) (g : Good n caps w) (few : length w.history < 1000000000) (i : ℕ) (hi : i < n) where
  -- the node keeps its rules
  sound-node : SoundNode n (caps i) w.log w.history i (w.nodes i)
  sound-node = g.node i hi

  pub range : InRange n (caps i)
  range = g.range i hi

  -- the matrix is read back from its array
  pub matrix-back : entry (flat (w.nodes i).matrix) ≡ (w.nodes i).matrix
  matrix-back = rules-back n i (w.nodes i).matrix range.at_most12 sound-node.rules

  -- the vector is zero from n on, and at me
  deliv-from : (x : ℕ) → n ≤ x → (w.nodes i).deliv x ≡ 0
  deliv-from x h = omega (arith, g.invariant.deliv_bound i x, out ((w.nodes x).matrix x i) refl)
    where
      out : (k : ℕ) → (w.nodes x).matrix x i ≡ k → (w.nodes x).matrix x i ≡ 0
      out zero e = e
      out (suc k) e = let s = g.invariant.kept x x i k e in absurd (omega (arith, (g.sound s.place s.issue s.at).from, s.from))

  deliv-own : (w.nodes i).deliv i ≡ 0
  deliv-own = omega (arith, g.invariant.deliv_bound i i, g.invariant.own i i)

  -- it is read back from its array
  pub vector-back : vector (list_from 0 12 (w.nodes i).deliv) ≡ (w.nodes i).deliv
  vector-back = fun_ext (λ x. go x (dec_lt x 12))
    where
      go : (x : ℕ) → Dec (x < 12) → get_or (list_from 0 12 (w.nodes i).deliv) x 0 ≡ (w.nodes i).deliv x
      go x (yes h) = vector_list (w.nodes i).deliv x h
      go x (no h) =
          get_or-eq_default (list_from 0 12 (w.nodes i).deliv) 0 {n = x} (omega (arith, length_list 0 12 (w.nodes i).deliv))
          ∙ sym (deliv-from x (omega (arith, range.at_most12)))

  -- the node without its queue
  abbrev pub alone : MessageNode
  alone = record { me = i; n = n; cap = caps i; matrix = (w.nodes i).matrix; deliv = (w.nodes i).deliv; held = [] }

  -- the node of its record and any queue
  pub node-back : (l : List Message)
      → node_of (record_of (node_at n caps w i)) l ≡ record { me = i; n = n; cap = caps i; matrix = (w.nodes i).matrix; deliv = (w.nodes i).deliv; held = l }
  node-back l = λ z. record { me = i; n = n; cap = caps i; matrix = matrix-back z; deliv = vector-back z; held = l }

  -- check 2 is not met
  pub record_kept : T (not (broken_record (record_of (node_at n caps w i))))
  unfolding broken_record
  record_kept =
      of_false (broken_rules i n (caps i) (entry (flat M)) (vector (list_from 0 12 D)) k)
      (subst (λ (v : ℕ → ℕ). broken_rules i n (caps i) (entry (flat M)) v k ≡ false) (sym vector-back)
      (subst (λ (m : Matrix). broken_rules i n (caps i) m D k ≡ false) (sym matrix-back) (rules-kept i n (caps i) M D k kept)))
    where
      M : Matrix
      M = (w.nodes i).matrix

      D : ℕ → ℕ
      D = (w.nodes i).deliv

      k : ℕ
      k = length (w.nodes i).held

      kept : Unbroken i n (caps i) (w.nodes i).matrix (w.nodes i).deliv (length (w.nodes i).held)
      kept = record {
        range = in_range_lem i n (caps i) hi range;
        rules = sound-node.rules;
        few = sound-node.few;
        own = deliv-own;
        limit = λ x y. omega (arith, matrix_bound (state_of w) g.invariant i x y, row_below n caps w g few x y);
        vector_limit = λ x _. omega (arith, g.invariant.deliv_bound i x, row_below n caps w g few x i);
        vector_zero = λ x _ h. deliv-from x h;
        room = sound-node.queue.room;
      }
