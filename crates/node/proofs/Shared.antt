-- The checks on record and queue that offer and deliver share, and the first of several checks that is met. Assumes nothing.
use Prim.Native.Nat.{ℕ, ◌<◌}
use mathlib.Core.Bool.{Bool, ◌||◌, cond, false, not, true}
use mathlib.Core.List.{List, []}
use mathlib.Core.Path.{◌∙◌, ◌≡◌, ap, refl}
use native.Mathlib.Omega.{arith}
use borrow.Author.Tests.{eq-eqb}
use lib.Dec.{eqb, eqb→eq}
use lib.ListN.{length}
use Rattle.std.proofs.Common.{Err, IsErrAnd, Ok, Result}
use Rattle.refusal.specs.declared.Refusal.{Refusal}
use Rattle.arrival.proofs.Arrived.{Arrives, arrives}
use Rattle.frame.proofs.Carried.{Carried, carried}
use Rattle.frame.specs.Frame.{decode}
use Rattle.holdback.proofs.Held.{held_kept, queue-kept}
use Rattle.holdback.specs.WrongQueue.{wrong_queue}
use Rattle.holdback.specs.CheckedQueue.{CheckedQueue}
use Rattle.holdback.specs.Places.{frame_at}
use Rattle.holdback.specs.Slots.{held_frames, laid, queue_size}
use Rattle.matrix.specs.Array.{entry, vector}
use Rattle.node.specs.CallRefusals.{record_refusal}
use Rattle.node.specs.Record.{broken_record, node_of}
use Rattle.rules.proofs.Facts.{Unbroken, unbroken}
use Rattle.wire.proofs.Tests.{is_false, not-not, or-not, skipped}
use Rattle.node.specs.declared.Node.{Node as Record}

-- a refusal that `?` passes on is the same one
pub passed_on : {A : Type 0} (a : Result A Refusal) (why : Refusal) → IsErrAnd a (λ w. w ≡ why) → a ≡ Err why
passed_on (Ok x) why h = absurd h
passed_on (Err w) why h = ap Err h

-- the first of three checks with these numbers that is met, and x where none is
abbrev pub first_of : (i j k : ℕ) (a b c : Bool) → ℕ → ℕ
first_of i j k a b c x = cond a i (cond b j (cond c k x))

pub first-met : (i j k x : ℕ) (a b c : Bool) → (first_of i j k a b c 0 ≡ 0 → ⊥) → first_of i j k a b c 0 ≡ first_of i j k a b c x
first-met i j k x true b c h = refl
first-met i j k x false true c h = refl
first-met i j k x false false true h = refl
first-met i j k x false false false h = absurd (h refl)

pub first-none : (i j k x : ℕ) (a b c : Bool) → (i ≡ 0 → ⊥) → (j ≡ 0 → ⊥) → (k ≡ 0 → ⊥) → first_of i j k a b c 0 ≡ 0 → first_of i j k a b c x ≡ x
first-none i j k x true b c p q r e = absurd (p e)
first-none i j k x false true c p q r e = absurd (q e)
first-none i j k x false false true p q r e = absurd (r e)
first-none i j k x false false false p q r e = refl

module _ (r : Record) (q : List ℕ) (short : Bool) where
  -- what passing them tells
  pub record RecordPassed : Type 0 where
    pub sound : Unbroken r.me r.n r.cap (entry r.m) (vector r.deliv) r.held
    pub keeps : broken_record r ≡ false
    pub long : short ≡ false
    pub size : length q ≡ queue_size
    pub queue : wrong_queue (node_of r []) r.held q ≡ false

  pub record_passed : (k : ℕ) → record_refusal r q short k ≡ 0 → RecordPassed
  unfolding record_refusal broken_record
  record_passed k e =
      let p = skipped (broken_record r) 2 _ (omega arith) e in
      let s = skipped (short || not (eqb (length q) queue_size)) 3 _ (omega arith) p.1 in
      let t = skipped (wrong_queue (node_of r []) r.held q) 4 k (omega arith) s.1 in
      let l = or-not short (not (eqb (length q) queue_size)) s.0 in
      record {
        sound = unbroken r.me r.n r.cap r.m (vector r.deliv) r.held (is_false (broken_record r) p.0);
        keeps = is_false (broken_record r) p.0;
        long = is_false short l.0;
        size = eqb→eq (length q) queue_size (not-not (eqb (length q) queue_size) l.1);
        queue = is_false (wrong_queue (node_of r []) r.held q) t.0;
      }

  -- one that is met is given whatever comes behind, and where none is, that is
  pub record_met : (k x : ℕ) → k ≡ record_refusal r q short 0 → (k ≡ 0 → ⊥) → k ≡ record_refusal r q short x
  unfolding record_refusal
  record_met k x e h =
      e ∙ first-met 2 3 4 x (broken_record r) (short || not (eqb (length q) queue_size)) (wrong_queue (node_of r []) r.held q) (λ z. h (e ∙ z))

  pub record_past : (x : ℕ) → RecordPassed → record_refusal r q short x ≡ x
  unfolding record_refusal
  record_past x p = rw (p.keeps, p.long, eq-eqb (length q) queue_size p.size, p.queue)

  -- the queue of a record that passed them
  pub checked-queue : RecordPassed → CheckedQueue r.held q
  checked-queue p = record { node = node_of r []; few = p.sound.range.at_most12; most = p.sound.room; size = p.size; passes = p.queue }

  -- each held message meets none of 12 to 14
  pub held-arrives : RecordPassed → (i : ℕ) → i < r.held → Arrives (node_of r []) (decode (frame_at q i))
  held-arrives p i h =
      let d = node_of r [] in
      arrives d (decode (frame_at q i)) (held_kept d r.held q (queue-kept d r.held q p.queue).refused i h).arrives

  pub queue-laid : RecordPassed → q ≡ laid (held_frames r.held q)
  queue-laid p = (queue-kept (node_of r []) r.held q p.queue).queue

  -- the messages in it, whose n is the record's
  pub held_carried : RecordPassed → (i : ℕ) → i < r.held → Carried r.n (decode (frame_at q i))
  held_carried p i h =
      let d = node_of r [] in
      carried r.n (frame_at q i) (held_kept d r.held q (queue-kept d r.held q p.queue).refused i h).passes
