-- A sound record and queue, and what a call must show of what it leaves so that it is sound again. Assumes nothing.
use Prim.Native.Nat.{◌<◌, ◌≤◌, ℕ}
use mathlib.Core.Bool.{false}
use mathlib.Core.List.{List, [], map}
use mathlib.Core.Path.{◌∙◌, ◌≡◌, ap}
use native.Mathlib.Omega.{arith}
use lib.ListN.{length}
use Rattle.arrival.proofs.Arrived.{arrives, arrives_back}
use Rattle.frame.specs.Frame.{decode}
use Rattle.holdback.proofs.Held.{FrameKept, QueueKept, queue-kept}
use Rattle.holdback.proofs.Passing.{EachFrame, alike_none, queue-right, refused_none}
use Rattle.holdback.proofs.Slots.{held-fit, length-held, length-slots}
use Rattle.holdback.specs.Slots.{held_frames, held_messages, laid, queue_size}
use Rattle.matrix.specs.Array.{entry, vector}
use Rattle.matrix.specs.Message.{number}
use Rattle.node.specs.Record.{broken_record, node_of}
use Rattle.node.specs.declared.Node.{Node as Record}
use Rattle.protocol.proofs.Origins.{Apart}
use Rattle.protocol.specs.Node.{Node}
use Rattle.rules.proofs.Facts.{Unbroken, unbroken}
use Rattle.rules.proofs.Kept.{rules-kept}
use Rattle.soundness.proofs.Matrices.{Keeps}
use Rattle.soundness.specs.HandedBack.{SoundState}
use Rattle.wire.specs.Limits.{max_count, max_held}

module _ (r : Record) where
  -- the protocol's node without its queue
  abbrev pub bare : Node
  bare = node_of r []

  -- what the record rules tell
  pub record_facts : broken_record r ≡ false → Unbroken r.me r.n r.cap (entry r.m) (vector r.deliv) r.held
  unfolding broken_record
  record_facts e = unbroken r.me r.n r.cap r.m (vector r.deliv) r.held e

  -- the record with another matrix, vector and number of held frames
  abbrev pub with : List ℕ → List ℕ → ℕ → Record
  with m v k = record { me = r.me; n = r.n; cap = r.cap; m = m; deliv = v; held = k }

  -- what the matrix m, the vector v and the frames l must keep so that they follow a sound record
  -- frames: each meets none of 8 to 14 at the record before the call; new: none of them is counted as delivered by v
  pub record Follows (m v : List ℕ) (l : List (List ℕ)) : Type 0 where
    pub matrix : Keeps r.n r.me r.cap (entry r.m) (entry m)
    pub own : vector v r.me ≡ 0
    pub limit : (x : ℕ) → x < 12 → vector v x ≤ max_count
    pub zero : (x : ℕ) → x < 12 → r.n ≤ x → vector v x ≡ 0
    pub frames : EachFrame (FrameKept bare) l
    pub new : EachFrame (λ s. vector v (decode s).from < number (decode s)) l
    pub apart : Apart (map decode l)
    pub room : length l ≤ max_held

  module _ (m v : List ℕ) (l : List (List ℕ)) (sound : broken_record r ≡ false) (f : Follows m v l) where
    record-again : broken_record (with m v (length l)) ≡ false
    unfolding broken_record
    record-again =
        rules-kept r.me r.n r.cap (entry m) (vector v) (length l)
        (record {
          range = (record_facts sound).range;
          rules = f.matrix.rules;
          few = f.matrix.few;
          own = f.own;
          limit = f.matrix.limit;
          vector_limit = f.limit;
          vector_zero = f.zero;
          room = f.room;
        })

    frame-again : EachFrame (FrameKept (node_of (with m v (length l)) [])) l
    frame-again h s a =
        let k = arrives bare (decode s) (f.frames h s a).arrives in
        record {
          passes = (f.frames h s a).passes;
          arrives = arrives_back (node_of (with m v (length l)) []) (decode s) (record {
            here = k.here;
            claims = λ y q. omega (arith, k.claims y q, f.matrix.grows y);
            new = f.new h s a;
          });
        }

    pub follows : SoundState (with m v (length l)) (laid l)
    follows = record { not2 = record-again; not4 = queue-right (node_of (with m v (length l)) []) l f.room frame-again f.apart }

-- a sound record and queue
module _ (r : Record) (q : List ℕ) (s : SoundState r q) where
  abbrev pub frames : List (List ℕ)
  frames = held_frames r.held q

  kept : QueueKept (bare r) r.held q
  kept = queue-kept (bare r) r.held q s.not4

  pub facts : Unbroken r.me r.n r.cap (entry r.m) (vector r.deliv) r.held
  facts = record_facts r s.not2

  -- the queue is its frames laid out, as many as the record says
  pub laid_out : q ≡ laid frames
  laid_out = kept.queue

  pub as_many : length frames ≡ r.held
  as_many = length-held r.held q

  pub size : length q ≡ queue_size
  size = ap length laid_out ∙ length-slots max_held frames (held-fit r.held q)

  -- each of them meets none of 8 to 14, and no two agree in from and number
  pub each-kept : EachFrame (FrameKept (bare r)) frames
  each-kept = refused_none (bare r) frames kept.refused

  pub apart : Apart (held_messages r.held q)
  apart = alike_none (held_messages r.held q) kept.apart

  -- the record's own matrix follows itself
  pub same-matrix : Keeps r.n r.me r.cap (entry r.m) (entry r.m)
  same-matrix = record { rules = facts.rules; few = facts.few; limit = facts.limit; grows = λ y. omega arith }

  -- with the vector as it was, no held frame is counted as delivered
  pub still-new : EachFrame (λ x. vector r.deliv (decode x).from < number (decode x)) frames
  still-new h x a = (arrives (bare r) (decode x) (each-kept h x a).arrives).new
