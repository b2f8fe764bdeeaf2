-- A deliver that is not refused leaves a sound record and queue. Assumes nothing.
use Prim.Native.Nat.{◌-◌, ◌<◌, ◌≤◌, suc, ℕ}
use mathlib.Core.Bool.{not}
use mathlib.Core.List.{List, map}
use mathlib.Core.Option.{some}
use mathlib.Core.Path.{◌∙◌, ◌≡◌, subst, sym}
use native.Mathlib.Decide.{ℕ_discrete}
use native.Mathlib.Omega.{arith}
use lib.Dec.{T}
use lib.ListN.{get_elem?, length, length-map}
use Rattle.arrival.proofs.Arrived.{Arrives, arrives}
use Rattle.frame.proofs.Carried.{Carried, carried}
use Rattle.frame.specs.Frame.{decode}
use Rattle.holdback.proofs.Held.{FrameKept, held_kept, queue-kept}
use Rattle.holdback.proofs.Passing.{EachFrame, without_at}
use Rattle.holdback.proofs.Queues.{found-held, length_without}
use Rattle.holdback.proofs.Searched.{found_none}
use Rattle.holdback.specs.Places.{frame_at, place_of}
use Rattle.holdback.specs.Slots.{held_messages, laid, without}
use Rattle.matrix.proofs.Array.{vector_list}
use Rattle.matrix.specs.Array.{entry, flat, list_from, vector}
use Rattle.matrix.specs.Message.{Message, number}
use Rattle.node.proofs.Delivering.{searched}
use Rattle.node.specs.Answers.{AfterDeliver}
use Rattle.node.specs.Calls.{accept_deliver}
use Rattle.node.specs.Record.{node_at}
use Rattle.node.specs.declared.Node.{Node as Record}
use Rattle.protocol.proofs.Below.{count_up-other, count_up-same}
use Rattle.protocol.proofs.Lists.{at_map, map_at}
use Rattle.protocol.proofs.Offering.{deliverable-le}
use Rattle.protocol.proofs.Origins.{above_removed, apart_removed}
use Rattle.protocol.proofs.Searching.{Removed, search-found, skip}
use Rattle.protocol.specs.Answer.{delivery}
use Rattle.protocol.specs.Deliver.{Search, conclude, count_up, found, learn}
use Rattle.protocol.specs.Node.{at_limit}
use Rattle.protocol.specs.Offer.{deliverable}
use Rattle.rules.proofs.Facts.{limit-row, limit-vector}
use Rattle.soundness.proofs.Matrices.{keeps_array, learn-keeps}
use Rattle.soundness.proofs.States.{Follows, apart, as_many, bare, each-kept, facts, follows, frames, still-new, with}
use Rattle.soundness.specs.HandedBack.{SoundState}
use Rattle.wire.specs.Limits.{max_count}

module _ (r : Record) (q : List ℕ) (s : SoundState r q) (free : T (not (at_limit (node_at r q)))) where
  -- the frame at place j is found: it is deliverable, and the others are those of the other frames
  module _ (j : ℕ) (inside : j < r.held)
      (e : searched r q ≡ found (suc j) (decode (frame_at q j)) (map decode (without j (frames r q s)))) where
    abbrev g : Message
    g = decode (frame_at q j)

    abbrev others : List (List ℕ)
    others = without j (frames r q s)

    -- the search
    hit : (h : ℕ) × T (deliverable (node_at r q) g) × Removed (held_messages r.held q) h g (map decode others) × (suc j ≡ suc h)
    hit = search-found (deliverable (node_at r q)) (held_messages r.held q) (suc j) g (map decode others) e

    removed : Removed (held_messages r.held q) j g (map decode others)
    removed = let z : hit.0 ≡ j = omega (arith, hit.3) in subst (λ (h : ℕ). Removed (held_messages r.held q) h g (map decode others)) z hit.2

    -- the frame found meets none of 8 to 14
    kept : FrameKept (bare r) (frame_at q j)
    kept = held_kept (bare r) r.held q (queue-kept (bare r) r.held q s.not4).refused j inside

    taken : Arrives (bare r) g
    taken = arrives (bare r) g kept.arrives

    entries : Carried r.n g
    entries = carried r.n (frame_at q j) kept.passes

    sender : g.from < 12
    sender = omega (arith, entries.from, (facts r q s).range.at_most12)

    -- its number is the next one
    next : number g ≡ suc (vector r.deliv g.from)
    next =
        let most : g.entries g.from r.me ≤ vector r.deliv g.from = deliverable-le (node_at r q) g hit.1 g.from sender in
        let most' : g.entries g.from g.to ≤ vector r.deliv g.from
        = subst (λ (y : ℕ). g.entries g.from y ≤ vector r.deliv g.from) (sym taken.here) most in
        omega (arith, taken.new)

    -- the vector and the matrix afterwards
    abbrev v : List ℕ
    v = list_from 0 12 (count_up g.from (vector r.deliv))

    abbrev m : List ℕ
    m = flat (learn g.kind (node_at r q) g.entries).matrix

    -- the count of the sender goes up by one, and those of the others stay
    counts : (x : ℕ) → x < 12 → vector v x ≡ count_up g.from (vector r.deliv) x
    counts x h = vector_list (count_up g.from (vector r.deliv)) x h

    stays : (x : ℕ) → x < 12 → (x ≡ g.from → ⊥) → vector v x ≡ vector r.deliv x
    stays x h z = counts x h ∙ count_up-other g.from (vector r.deliv) x z

    most : (x : ℕ) → x < 12 → Dec (x ≡ g.from) → vector v x ≤ max_count
    most x h (yes z) =
        rw z (omega (
          arith,
          counts g.from sender,
          count_up-same g.from (vector r.deliv),
          limit-vector (node_at r q) free g.from sender ((facts r q s).vector_limit g.from sender),
        ))
    most x h (no z) = omega (arith, stays x h z, (facts r q s).vector_limit x h)

    -- the other frames, which are not delivered
    left : EachFrame (FrameKept (bare r)) others
    left h x a = each-kept r q s (skip j h) x (without_at j (frames r q s) h x a)

    above : (h : ℕ) (a : Message) → get_elem? (held_messages r.held q) h ≡ some a → vector r.deliv a.from < number a
    above h a e =
        let x = map_at decode (frames r q s) h a e in
        subst (λ (z : Message). vector r.deliv z.from < number z) x.2 (still-new r q s h x.0 x.1)

    still : EachFrame (λ x. vector v (decode x).from < number (decode x)) others
    still h x a =
        omega (
          arith,
          counts (decode x).from (omega (arith, (carried r.n x (left h x a).passes).from, (facts r q s).range.at_most12)),
          above_removed (held_messages r.held q) j g (map decode others) removed (apart r q s) (vector r.deliv) next above h
              (decode x) (at_map decode others h x a),
        )

    after : Follows r m v others
    after = record {
      matrix =
          keeps_array r.n r.me r.cap (entry r.m) _ (facts r q s).range.at_most12
          (learn-keeps r.n r.me r.cap (facts r q s).range (entry r.m) (facts r q s).rules (facts r q s).few (facts r q s).limit
          (limit-row (node_at r q) free (facts r q s).limit)
          g.entries g.from entries.rules entries.limit taken.claims g.kind (vector r.deliv) (held_messages r.held q));
      own =
          stays r.me (omega (arith, (facts r q s).range.below, (facts r q s).range.at_most12))
          (λ z. entries.apart (sym z ∙ sym taken.here)) ∙ (facts r q s).own;
      limit = λ x h. most x h (ℕ_discrete x g.from);
      zero = λ x h k. stays x h (λ z. omega (arith, entries.from)) ∙ (facts r q s).vector_zero x h k;
      frames = left;
      new = still;
      apart = apart_removed (held_messages r.held q) j g (map decode others) removed (apart r q s);
      room = omega (arith, length_without j (frames r q s) (omega (arith, as_many r q s)), as_many r q s, (facts r q s).room);
    }

    pub found-follows : SoundState (with r m v (length (map decode others))) (laid others)
    found-follows = subst (λ (k : ℕ). SoundState (with r m v k) (laid others)) (sym (length-map others decode)) (follows r m v others s.not2 after)

  -- what the search led to
  module _ (out body : List ℕ) where
    abbrev Left : Search → Type 0
    Left f =
        let c : AfterDeliver = accept_deliver r q out body (conclude (node_at r q) f) (delivery (conclude (node_at r q) f).answer) in
        SoundState c.result.node c.queue

    pub delivered : Left (searched r q)
    delivered = go (ℕ_discrete (place_of (searched r q)) 0)
      where
        go : Dec (place_of (searched r q) ≡ 0) → Left (searched r q)
        go (yes p) = subst Left (sym (found_none (deliverable (node_at r q)) (held_messages r.held q) p)) s
        go (no p) =
            let j : ℕ = place_of (searched r q) - 1 in
            let x = found-held (deliverable (node_at r q)) r.held q j (omega arith) in
            let z : suc j - 1 ≡ j = omega arith in
            subst Left (sym x.1)
            (subst (λ (k : ℕ). SoundState (with r (m j x.0 x.1) (v j x.0 x.1) (length (map decode (without j (frames r q s)))))
            (laid (without k (frames r q s)))) (sym z) (found-follows j x.0 x.1))
