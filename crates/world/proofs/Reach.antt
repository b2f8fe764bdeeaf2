-- Worlds that a list of steps leads to: one step more, and what is known of their records and of the frames issued. Assumes nothing.
use Prim.Native.Nat.{ℕ, ◌+◌, ◌≤◌, ◌<◌}
use mathlib.Core.List.{List, [], ◌∷◌, ◌++◌, map}
use mathlib.Core.Option.{some}
use mathlib.Core.Path.{◌≡◌, refl, sym, ap, ◌∙◌, subst}
use native.Mathlib.Omega.{arith}
use lib.Dec.{ltb, lt→ltb}
use lib.ListN.{length, get_elem?, length-append, length-map}
use Rattle.wire.proofs.Tests.{cond_yes}
use Rattle.wire.proofs.Bytes.{small_bytes}
use Rattle.wire.specs.Limits.{max_frame}
use Rattle.matrix.specs.Message.{EachInRange, Sound}
use Rattle.frame.proofs.Written.{encode-most, encode-sound}
use Rattle.arrival.specs.CheckedFrame.{CheckedFrame}
use Rattle.protocol.proofs.Good.{Good}
use Rattle.protocol.proofs.Lists.{map_at}
use Rattle.protocol.proofs.Runs.{run-good, run_length, start-good}
use Rattle.protocol.specs.World as messages
use Rattle.node.specs.Calls.{send_call, offer_call, deliver_call}
use Rattle.node.specs.declared.Node.{Node as Record}
use Rattle.causality.proofs.Matches.{Matches, encode_issue}
use Rattle.causality.proofs.Queues.{sound-issue}
use Rattle.causality.proofs.Reading.{to-encode}
use Rattle.causality.proofs.Runs.{run_matches, start_matches}
use Rattle.causality.proofs.Steps.{forget}
use Rattle.causality.specs.Demand3.{BodiesOfBytes, Issue, Step, World, run, start, step, sends, offers, delivers}
use Rattle.causality.specs.Demand3.{send_at, offer_at, deliver_at, offer_issue, destination}
use Rattle.world.specs.Reached.{Reached}

-- one step more at the end of a list
run_more : (n : ℕ) (w : World) (l : List Step) (s : Step) → run n w (l ++ (s ∷ [])) ≡ step n (run n w l) s
run_more n w [] s = refl
run_more n w (t ∷ l) s = run_more n (step n w t) l s

bodies-more : (l : List Step) (s : Step) → BodiesOfBytes l → BodiesOfBytes (s ∷ []) → BodiesOfBytes (l ++ (s ∷ []))
bodies-more [] s b h = h
bodies-more (sends i to class body out ∷ l) s b h = (b.0, bodies-more l s b.1 h)
bodies-more (offers i p ∷ l) s b h = bodies-more l s b h
bodies-more (delivers i out body ∷ l) s b h = bodies-more l s b h

module _ (n : ℕ) (caps : ℕ → ℕ) (k : ℕ) (w : World) (r : Reached n caps k w) where
  pub reached-later : Reached n caps (k + 1) w
  reached-later = record { steps = r.steps; bytes = r.bytes; few = omega (arith, r.few); same = r.same }

  reached-step : (s : Step) → BodiesOfBytes (s ∷ []) → Reached n caps (k + 1) (step n w s)
  reached-step s h = record {
    steps = r.steps ++ (s ∷ []);
    bytes = bodies-more r.steps s r.bytes h;
    few = omega (arith, r.few, length-append r.steps (s ∷ []));
    same = ap (λ (x : World). step n x s) r.same ∙ sym (run_more n (start n caps) r.steps s);
  }

  pub reached-send : (i to class : ℕ) (out : List ℕ) → i < n
      → Reached n caps (k + 1) (send_at w i (sends i to class [] out) (send_call (w.records i) to class [] out))
  unfolding step
  reached-send i to class out h =
      subst (Reached n caps (k + 1)) (cond_yes (ltb i n) _ w (lt→ltb _ _ h)) (reached-step (sends i to class [] out) (small_bytes [] tt, tt))

  pub reached-offer : (j p : ℕ) (g : Issue) → j < n → get_elem? w.log p ≡ some g
      → Reached n caps (k + 1) (offer_at w j (offers j p) (offer_call (w.records j) g.frame (w.queues j)))
  unfolding step
  reached-offer j p g h e =
      subst (Reached n caps (k + 1)) (cond_yes (ltb j n) _ w (lt→ltb _ _ h) ∙ ap (offer_issue w j p) e) (reached-step (offers j p) tt)

  pub reached-deliver : (j : ℕ) (out body : List ℕ) → j < n
      → Reached n caps (k + 1) (deliver_at w j (delivers j out body) (deliver_call (w.records j) (w.queues j) out body))
  unfolding step
  reached-deliver j out body h = subst (Reached n caps (k + 1)) (cond_yes (ltb j n) _ w (lt→ltb _ _ h)) (reached-step (delivers j out body) tt)

  -- the issued frames are sound, go to a node of the list, and have at most 802 bytes
  pub record IssuedFacts (s : List ℕ) : Type 0 where
    pub sound : CheckedFrame s
    pub to : destination s < n
    pub most : length s ≤ max_frame

  module _ (inside : EachInRange n caps) (short : k < 1000000000) where
    abbrev v : messages.World
    v = messages.run n (messages.start n caps) (map forget r.steps)

    abbrev b : World
    b = run n (start n caps) r.steps

    good : Good n caps v
    good = run-good n caps (messages.start n caps) (map forget r.steps) (start-good n caps inside)

    few : length v.history < 1000000000
    few = omega (arith, run_length n (messages.start n caps) (map forget r.steps), length-map r.steps forget, r.few)

    m : Matches n v b
    m =
        run_matches n caps r.steps r.bytes (messages.start n caps) (start n caps) (start-good n caps inside)
        (omega (arith, r.few)) (start_matches n caps inside)

    -- each record has the n of the list
    pub reached-sized : (j : ℕ) → j < n → (w.records j).n ≡ n
    reached-sized j h =
        ap (λ (z : World). (z.records j).n) r.same ∙ ap (λ (z : Record). z.n) (m.records j h) ∙ (good.node j h).sized

    issued-facts-run : (p : ℕ) (g : Issue) → get_elem? b.log p ≡ some g → IssuedFacts g.frame
    issued-facts-run p g e =
        let x = map_at encode_issue v.log p g (sym (ap (λ (z : List Issue). get_elem? z p) m.log) ∙ e) in
        let f : messages.Issue = x.0 in
        let sound : Sound f.message = sound-issue n caps v good few m.bodies p f x.1 in
        let s = encode-sound f.message sound in
        subst (λ (z : Issue). IssuedFacts z.frame) x.2
        (record {
          sound = record { n = f.message.n; few = sound.range.at_most12; passes = s.passes };
          to = subst (λ (z : ℕ). z < n) (sym (to-encode f.message)) (good.sound p f x.1).to;
          most = encode-most f.message sound;
        })

    pub issued-facts : (p : ℕ) (g : Issue) → get_elem? w.log p ≡ some g → IssuedFacts g.frame
    issued-facts p g e = issued-facts-run p g (sym (ap (λ (z : World). get_elem? z.log p) r.same) ∙ e)
