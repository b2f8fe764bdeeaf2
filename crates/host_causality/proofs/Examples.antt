-- A list of exported calls that the theorem speaks of: the mission's story of `causality`, with refused calls on a node's own image and queue
-- and on other bytes in between. Assumes nothing.
use Prim.Native.Nat.{◌<◌, suc, zero, ℕ}
use mathlib.Core.List.{List, [], ◌∷◌, map}
use mathlib.Core.Option.{Option, none, some}
use mathlib.Core.Path.{◌∙◌, ◌≡◌, ap, refl, subst}
use native.Mathlib.Omega.{arith}
use lib.ListN.{drop, replicate, take}
use Rattle.wire.proofs.Tests.{cond_elim}
use Rattle.rules.specs.Rules.{in_range}
use Rattle.node.specs.SetUp.{set_up}
use Rattle.causality.proofs.Examples.{after, caps, range, story, story-bodies, story_events_lem}
use Rattle.causality.specs.Demand3.{Event, Label, Step, delivery, refusal, start}
use Rattle.host.specs.Exports.{SendLeft, exported_deliver, exported_send, exported_set_up, send_left}
use Rattle.image.specs.Image.{bad_image}
use Rattle.host_causality.proofs.HostDemand3.{host_demand3}
use Rattle.host_causality.proofs.Sees.{Sees, forget_event, run_sees}
use Rattle.host_causality.proofs.Starts.{start_sees}
use Rattle.host_causality.specs.HostDemand3.{Call, EachAllowed, HostDemand3For, HostKeeps, HostWorld, call, host_run, host_start, latest, made, other, seen}
use Rattle.host_causality.specs.HostDemand3.{stray_set_up, steps_of, stray, stray_deliver, stray_send}

-- images and answers are lent all zero
abbrev lent : ℕ → List ℕ
lent me = replicate 632 0

abbrev answer : List ℕ
answer = replicate 11 0

-- steps, each lent such an answer, and further calls behind them
abbrev steps : List Step → List Call → List Call
steps [] r = r
steps (s ∷ l) r = made s answer ∷ steps l r

-- node 2 is set up again with a cap that is too large, which is refused with 1; node 0 sends with an answer of ten bytes, 3; and a deliver is lent
-- an image of no bytes and the queue of node 1, 20
abbrev strays : List Call → List Call
strays r =
    stray (stray_set_up (latest 2) 2 3 10)
    ∷ stray (stray_send (latest 0) 1 0 [] [] (replicate 10 0))
    ∷ stray (stray_deliver (other []) (latest 1) [] [] answer)
    ∷ r

-- the story, with these calls behind its first four steps
unfoldable pub host_story : List Call
host_story = steps (take 4 story) (strays (steps (drop 4 story) []))

-- ---- its calls are allowed, in any world

abbrev Always : List Call → Type 0
Always l = (w : HostWorld) → EachAllowed 3 w l

steps-allowed : (l : List Step) (r : List Call) → Always r → Always (steps l r)
steps-allowed [] r a w = a w
steps-allowed (s ∷ l) r a w = (omega arith, steps-allowed l r a (call 3 w (made s answer)))

set_up_1 : (i : List ℕ) → (exported_set_up i 2 3 10).status ≡ 1
unfolding exported_set_up set_up in_range
set_up_1 i = refl

-- 20 for the image, or 3 for the answer
send-short : (i : List ℕ) → (exported_send i 1 0 [] [] (replicate 10 0)).status ≡ 0 → ⊥
unfolding exported_send
send-short i =
    cond_elim (λ (c : SendLeft). c.status ≡ 0 → ⊥) (bad_image i) (send_left 20 i [] (replicate 10 0)) (send_left 3 i [] (replicate 10 0))
    (λ _ z. omega arith) (λ _ z. omega arith)

deliver_20 : (q : List ℕ) → (exported_deliver [] q [] [] answer).status ≡ 20
unfolding exported_deliver bad_image
deliver_20 q = refl

strays-allowed : (r : List Call) → Always r → Always (strays r)
strays-allowed r a w =
    let x : HostWorld = call 3 w (stray (stray_set_up (latest 2) 2 3 10)) in
    let y : HostWorld = call 3 x (stray (stray_send (latest 0) 1 0 [] [] (replicate 10 0))) in (
      λ z. omega (arith, set_up_1 (w.images 2)),
      (
        send-short (x.images 0),
        (λ z. omega (arith, deliver_20 (y.queues 1)), a (call 3 y (stray (stray_deliver (other []) (latest 1) [] [] answer)))),
      ),
    )

-- ---- the theorem speaks of it

set_ups_lem : (me : ℕ) → me < 3 → (exported_set_up (lent me) me 3 (caps me)).status ≡ 0
unfolding exported_set_up set_up in_range
set_ups_lem zero h = refl
set_ups_lem (suc zero) h = refl
set_ups_lem (suc (suc zero)) h = refl
set_ups_lem (suc (suc (suc me))) h = absurd (omega arith)

story-steps : steps_of host_story ≡ story
unfolding host_story story
story-steps = refl

pub story_keeps : HostKeeps 3 caps lent host_story
unfolding host_story story
story_keeps =
    record {
      set_ups = set_ups_lem;
      bodies = story-bodies;
      few = omega arith;
      each =
          steps-allowed (take 4 story) (strays (steps (drop 4 story) []))
          (strays-allowed (steps (drop 4 story) []) (steps-allowed (drop 4 story) [] (λ w. tt))) (host_start lent 3 caps);
    }

abbrev host_after : HostWorld
host_after = host_run 3 (host_start lent 3 caps) host_story

pub story-demand3 : HostDemand3For 3 caps host_after
story-demand3 = host_demand3 3 caps range lent host_story story_keeps

-- ---- what the host sees of it

story_sees : Sees 3 host_after (after story)
story_sees =
    subst (λ (l : List Step). Sees 3 host_after (after l)) story-steps
    (run_sees 3 host_story (host_start lent 3 caps) (start 3 caps) (start_sees 3 caps lent set_ups_lem) story_keeps.each)

-- no step is refused
pub story_statuses : map (λ (e : Event). refusal e.answer) (seen host_after).history ≡ replicate 10 0
story_statuses = ap (map (λ (e : Event). refusal e.answer)) (story_sees.history ∙ ap (map forget_event) story_events_lem)

-- three of them deliver: to node 1 "closed", and to node 2 "closing" and then the report, each a user frame, its sender's first to that node
abbrev named : ℕ → Option Label
named from = some (record { kind = 1; from = from; number = 1 })

pub story-deliveries : map (λ (e : Event). delivery e.answer) (seen host_after).history
    ≡ none ∷ none ∷ none ∷ named 0 ∷ none ∷ none ∷ none ∷ none ∷ named 0 ∷ named 1 ∷ []
story-deliveries = ap (map (λ (e : Event). delivery e.answer)) (story_sees.history ∙ ap (map forget_event) story_events_lem)
