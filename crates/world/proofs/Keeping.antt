-- A world stays stored over a call. Assumes nothing.
use Prim.Native.Nat.{ℕ, zero, suc, ◌+◌, ◌*◌, ◌≤◌, ◌<◌}
use mathlib.Core.List.{List, [], ◌∷◌, ◌++◌, map, map-append, append_assoc}
use mathlib.Core.Logic.{◌≢◌}
use mathlib.Core.Option.{some}
use mathlib.Core.Path.{◌≡◌, refl, sym, ap, ◌∙◌, subst}
use native.Mathlib.Decide.{ℕ_discrete}
use native.Mathlib.Nat.{add-zero}
use native.Mathlib.Omega.{arith}
use lib.ListN.{length, get_or, set, take, drop, get_elem?, length-set, length-append, length-map}
use lib.Seq.{get_or-set_same, get_or-set_other, take_at}
use Rattle.wire.proofs.Bytes.{length-put, put-eq}
use Rattle.wire.specs.Bytes.{put}
use Rattle.wire.specs.Limits.{max_frame}
use Rattle.arrival.specs.CheckedFrame.{CheckedFrame}
use Rattle.protocol.proofs.Below.{update_other, update_same}
use Rattle.protocol.specs.Node.{update}
use Rattle.node.specs.declared.Node.{Node as Record}
use Rattle.causality.specs.Demand3.{Answer, Issue, Step, World, after_call, issued_by, issued_frames}
use Rattle.world.proofs.Logs.{joined_append, joined-one, joined-none}
use Rattle.world.proofs.Reach.{IssuedFacts, issued-facts, reached-later}
use Rattle.world.specs.declared.World.{World as Stored}
use Rattle.world.specs.Steps.{frames}
use Rattle.world.specs.Stored.{Holds, joined, no_record, queue_at, stored_after}
use Rattle.world.specs.Reached.{Reached}

-- the issue at a place of the log
pub issue-at : (l : List Issue) (p : ℕ) → p < length l → (g : Issue) × (get_elem? l p ≡ some g) × (get_or (frames l) p [] ≡ g.frame)
issue-at [] p h = absurd (omega arith)
issue-at (g ∷ l) zero h = (g, refl, refl)
issue-at (g ∷ l) (suc p) h = issue-at l p (omega arith)

-- frames of at most 802 bytes
joined-most : (f : List (List ℕ)) → ((k : ℕ) → k < length f → length (get_or f k []) ≤ max_frame) → length (joined f) ≤ max_frame * length f
joined-most [] h = rw joined-none (omega arith)
joined-most (s ∷ f) h = omega (arith, ap length (joined-one s f), length-append s (joined f), h 0 (omega arith), joined-most f (λ k l. h (suc k) (omega arith)))

-- the frames of a log that has grown
frames-grown : (l : List Issue) (t : ℕ) (f : List (List ℕ)) → frames (l ++ map (issued_by t) f) ≡ frames l ++ f
frames-grown l t f = map-append (λ (g : Issue). g.frame) l (map (issued_by t) f) ∙ ap (λ (x : List (List ℕ)). frames l ++ x) (same f)
  where
    same : (f : List (List ℕ)) → frames (map (issued_by t) f) ≡ f
    same [] = refl
    same (s ∷ f) = ap (λ (x : List (List ℕ)). s ∷ x) (same f)

-- the frames of a reached world, sound
module _ (n : ℕ) (caps : ℕ → ℕ) (limit k : ℕ) (w : World) (s : Stored) (q l : List ℕ) (h : Holds n caps limit k w s q l) (short : k < 1000000000) where
  pub issue-facts : (p : ℕ) → p < length w.log → IssuedFacts n caps k w h.reached (get_or (frames w.log) p [])
  issue-facts p a =
      let x = issue-at w.log p a in
      subst (IssuedFacts n caps k w h.reached) (sym x.2) (issued-facts n caps k w h.reached h.range short p x.0 x.1)

  -- the bytes issued so far leave room for what a call writes
  pub end-room : s.end ≤ max_frame * length w.log
  end-room =
      omega (
        arith,
        h.end,
        joined-most (frames w.log) (λ p a. (issue-facts p (omega (arith, length-map w.log (λ (g : Issue). g.frame)))).most),
        length-map w.log (λ (g : Issue). g.frame),
      )

-- nothing is done
pub holds_later : (n : ℕ) (caps : ℕ → ℕ) (limit k : ℕ) (w : World) (s : Stored) (q l : List ℕ) → Holds n caps limit k w s q l → Holds n caps limit (k + 1) w s q l
holds_later n caps limit k w s q l h = record {
  range = h.range;
  least = h.least;
  few = h.few;
  reached = reached-later n caps k w h.reached;
  nodes = h.nodes;
  array = h.array;
  records = h.records;
  size = h.size;
  queues = h.queues;
  issued = h.issued;
  below = h.below;
  room = h.room;
  begins = h.begins;
  end = h.end;
}

-- a call at node i that issues nothing
pub stored-still : (s : Stored) (i : ℕ) (r : Record) → stored_after s i r 0 0 ≡ record { n = s.n; nodes = set s.nodes i r; issued = s.issued; end = s.end }
stored-still s i r =
    let issued : s.issued + 0 ≡ s.issued = add-zero s.issued in
    let end : s.end + 0 ≡ s.end = add-zero s.end in
    λ z. record { n = s.n; nodes = set s.nodes i r; issued = issued z; end = end z }

-- a call at node i
module _ (n : ℕ) (caps : ℕ → ℕ) (limit k : ℕ) (w : World) (s : Stored) (q l : List ℕ) (h : Holds n caps limit k w s q l) (short : k + 1 < 1000000000)
    (i : ℕ) (hi : i < n) (t : Step) (r : Record) (qi : List ℕ) (a : Answer) (out : List ℕ) (q' bytes : List ℕ) (count : ℕ)
    (reached : Reached n caps (k + 1) (after_call w i t r qi a out))
    (size : length q' ≡ length q) (here : queue_at q' i ≡ qi) (others : (x : ℕ) → x < n → x ≢ i → queue_at q' x ≡ queue_at q x)
    (written : joined (issued_frames a out) ≡ bytes) (many : length (issued_frames a out) ≡ count)
    (below : length w.log + count ≤ limit) (fits : s.end + length bytes ≤ length l) where
  abbrev v : World
  v = after_call w i t r qi a out

  abbrev f : List (List ℕ)
  f = issued_frames a out

  new-frames : frames v.log ≡ frames w.log ++ f
  new-frames = frames-grown w.log (length w.history) f

  new-joined : joined (frames v.log) ≡ joined (frames w.log) ++ bytes
  new-joined = ap joined new-frames ∙ joined_append (frames w.log) f ∙ ap (λ (x : List ℕ). joined (frames w.log) ++ x) written

  new-length : length v.log ≡ length w.log + count
  new-length = omega (arith, length-append w.log (map (issued_by (length w.history)) f), length-map f (issued_by (length w.history)), many)

  new-end : s.end + length bytes ≡ length (joined (frames v.log))
  new-end = omega (arith, h.end, ap length new-joined, length-append (joined (frames w.log)) bytes)

  new-bytes : take (length (joined (frames v.log))) (put l s.end bytes) ≡ joined (frames v.log)
  new-bytes =
      ap (λ (x : List ℕ). take (length (joined (frames v.log))) x) (put-eq l s.end bytes fits)
      ∙ ap (λ (x : List ℕ). take (length (joined (frames v.log))) (x ++ (bytes ++ drop (s.end + length bytes) l)))
      (ap (λ (x : ℕ). take x l) h.end ∙ h.begins.bytes)
      ∙ ap (take (length (joined (frames v.log)))) (sym (append_assoc (joined (frames w.log)) bytes (drop (s.end + length bytes) l))
      ∙ ap (λ (x : List ℕ). x ++ drop (s.end + length bytes) l) (sym new-joined))
      ∙ take_at (joined (frames v.log)) (drop (s.end + length bytes) l) (length (joined (frames v.log))) refl

  new-sound : (p : ℕ) → p < length (frames v.log) → CheckedFrame (get_or (frames v.log) p [])
  new-sound p a =
      let x = issue-at v.log p (omega (arith, length-map v.log (λ (g : Issue). g.frame))) in
      subst CheckedFrame (sym x.2) (issued-facts n caps (k + 1) v reached h.range short p x.0 x.1).sound

  new-records : (x : ℕ) → x < n → get_or (set s.nodes i r) x no_record ≡ v.records x
  new-records x hx = go (ℕ_discrete x i)
    where
      go : Dec (x ≡ i) → get_or (set s.nodes i r) x no_record ≡ update w.records i r x
      go (yes e) = rw e (get_or-set_same s.nodes i r no_record (omega (arith, h.array, h.few)) ∙ sym (update_same w.records i r))
      go (no e) = get_or-set_other s.nodes i x r no_record e ∙ h.records x hx ∙ sym (update_other w.records i r x e)

  new-queues : (x : ℕ) → x < n → queue_at q' x ≡ v.queues x
  new-queues x hx = go (ℕ_discrete x i)
    where
      go : Dec (x ≡ i) → queue_at q' x ≡ update w.queues i qi x
      go (yes e) = rw e (here ∙ sym (update_same w.queues i qi))
      go (no e) = others x hx e ∙ h.queues x hx ∙ sym (update_other w.queues i qi x e)

  pub holds_after : (s' : Stored) (l' : List ℕ) → s' ≡ stored_after s i r count (length bytes) → l' ≡ put l s.end bytes → Holds n caps limit (k + 1) v s' q' l'
  holds_after s' l' es el =
      rw (es, el)
      record {
        range = h.range;
        least = h.least;
        few = h.few;
        reached = reached;
        nodes = h.nodes;
        array = length-set s.nodes i r ∙ h.array;
        records = new-records;
        size = size ∙ h.size;
        queues = new-queues;
        issued = omega (arith, h.issued, new-length);
        below = omega (arith, new-length);
        room = length-put l s.end bytes ∙ h.room;
        begins = record { sound = new-sound; bytes = new-bytes };
        end = new-end;
      }
