-- Issued messages and their frames in a good world, and the queue of a node laid out in bytes: it is read back, and check 4 is not met. Assumes nothing.
use Prim.Native.Nat.{◌<◌, ◌≤◌, suc, ℕ}
use mathlib.Core.Bool.{false, not}
use mathlib.Core.List.{List, [], ◌∷◌, map}
use mathlib.Core.Option.{some}
use mathlib.Core.Path.{◌∙◌, ◌≡◌, ap, ap₂, refl, subst, sym}
use native.Mathlib.Omega.{arith}
use lib.Dec.{T}
use lib.ListN.{get_elem?, length, length-map}
use Rattle.arrival.proofs.Arrived.{arrives_back}
use Rattle.arrival.specs.View.{arrival_refusal}
use Rattle.causality.proofs.Records.{alone}
use Rattle.frame.proofs.Written.{decode-encode, encode-sound}
use Rattle.frame.specs.Frame.{decode, encode}
use Rattle.frame.specs.Refusals.{frame_refusal}
use Rattle.holdback.proofs.Held.{FrameKept}
use Rattle.holdback.proofs.Passing.{EachFrame, framed_all, queue-right}
use Rattle.holdback.proofs.Slots.{EachFramed, framed_fits, held-slots, length-slots}
use Rattle.holdback.specs.WrongQueue.{wrong_queue}
use Rattle.holdback.specs.Slots.{held_frames, held_messages, laid, queue_size}
use Rattle.matrix.specs.Message.{Message, Sound}
use Rattle.protocol.proofs.Bounds.{entry_bound, issue-sound}
use Rattle.protocol.proofs.Good.{Good, Origin, state_of}
use Rattle.protocol.proofs.Lists.{map_at}
use Rattle.protocol.proofs.Origins.{Apart}
use Rattle.wire.proofs.Tests.{of_false}
use Rattle.wire.specs.Bytes.{AllBytes}
use Rattle.protocol.specs.World as messages
use Rattle.protocol.specs.Node.{Node as MessageNode}

-- messages of a list, place by place
abbrev pub EachAt : (Message → Type 0) → List Message → Type 0
EachAt P l = (h : ℕ) (m : Message) → get_elem? l h ≡ some m → P m

-- sound messages are read back from their frames
decode-all : (l : List Message) → EachAt Sound l → map decode (map encode l) ≡ l
decode-all [] f = refl
decode-all (m ∷ l) f = ap₂ (λ (x : Message) (y : List Message). x ∷ y) (decode-encode m (f 0 m refl)) (decode-all l (λ h k a. f (suc h) k a))

-- the messages of the log have bodies of bytes
abbrev pub Bodies : messages.World → Type 0
Bodies w = (p : ℕ) (f : messages.Issue) → messages.IssueAt w p f → AllBytes f.message.body

-- issued messages
module _ (n : ℕ) (caps : ℕ → ℕ) (w : messages.World) (g : Good n caps w) (few : length w.history < 1000000000) (bodies : Bodies w) where
  pub sound-issue : (p : ℕ) (f : messages.Issue) → messages.IssueAt w p f → Sound f.message
  sound-issue p f at = issue-sound n caps w g few p f at (bodies p f at)

  -- 8 to 11 are not met
  pub frame-passes : (p : ℕ) (f : messages.Issue) → messages.IssueAt w p f → frame_refusal n (encode f.message) ≡ 0
  frame-passes p f at =
      let s = g.sound p f at in
      subst (λ (k : ℕ). frame_refusal k (encode f.message) ≡ 0) s.sized (encode-sound f.message (sound-issue p f at)).passes

  -- node i
  module _ (i : ℕ) (hi : i < n) where
    -- the messages held
    abbrev pub held_here : List Message
    held_here = (w.nodes i).held

    -- the queue as bytes
    abbrev pub queue_here : List ℕ
    queue_here = laid (map encode held_here)

    -- a held message was issued
    origin : (h : ℕ) (m : Message) → get_elem? held_here h ≡ some m → Origin w.log w.history m
    origin h m a = (g.node i hi).queue.from h m a

    pub held-sound : EachAt Sound held_here
    held-sound h m a = let o = origin h m a in subst Sound o.message (sound-issue o.issue o.g o.logged)

    held-passes : (h : ℕ) (m : Message) → get_elem? held_here h ≡ some m → frame_refusal n (encode m) ≡ 0
    held-passes h m a =
        let o = origin h m a in
        subst (λ (z : Message). frame_refusal n (encode z) ≡ 0) o.message (frame-passes o.issue o.g o.logged)

    -- 12 to 14 are not met
    held-arrives : (h : ℕ) (m : Message) → get_elem? held_here h ≡ some m → arrival_refusal (alone n caps w g few i hi) m ≡ 0
    held-arrives h m a =
        let o = origin h m a in
        arrives_back (alone n caps w g few i hi) m
        record {
          here = (g.node i hi).queue.to h m a;
          claims =
              λ y _. subst (λ (z : Message). z.entries i y ≤ (w.nodes i).matrix i y) o.message
              (entry_bound (state_of w) g.invariant o.issue o.g o.logged i y);
          new = (g.node i hi).queue.above h m a;
        }

    -- a held frame would meet none of 8 to 14
    frames-kept : EachFrame (FrameKept (alone n caps w g few i hi)) (map encode held_here)
    frames-kept h s a =
        let x = map_at encode held_here h s a in
        let d : MessageNode = alone n caps w g few i hi in
        subst (FrameKept d) x.2 (record {
          passes = held-passes h x.0 x.1;
          arrives = ap (arrival_refusal d) (decode-encode x.0 (held-sound h x.0 x.1)) ∙ held-arrives h x.0 x.1;
        })

    framed : EachFramed (map encode held_here)
    framed = framed_all (alone n caps w g few i hi) (map encode held_here) frames-kept

    room : length (map encode held_here) ≤ 16
    room = omega (arith, length-map held_here encode, (g.node i hi).queue.room)

    -- the queue is read back
    pub frames-back : held_frames (length held_here) queue_here ≡ map encode held_here
    frames-back = ap (λ (k : ℕ). held_frames k queue_here) (sym (length-map held_here encode)) ∙ held-slots 16 (map encode held_here) room framed

    pub messages-back : held_messages (length held_here) queue_here ≡ held_here
    messages-back = ap (map decode) frames-back ∙ decode-all held_here held-sound

    pub queue-length : length queue_here ≡ queue_size
    queue-length = length-slots 16 (map encode held_here) (framed_fits (map encode held_here) framed)

    -- check 4 is not met
    pub queue-here : T (not (wrong_queue (alone n caps w g few i hi) (length held_here) queue_here))
    queue-here =
        let d : MessageNode = alone n caps w g few i hi in
        of_false (wrong_queue d (length held_here) queue_here)
        (subst (λ (k : ℕ). wrong_queue d k queue_here ≡ false) (length-map held_here encode)
        (queue-right d (map encode held_here) room frames-kept (subst Apart (sym (decode-all held_here held-sound)) (g.node i hi).queue.distinct)))
