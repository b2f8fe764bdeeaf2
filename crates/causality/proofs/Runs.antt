-- A list of steps on bytes and its list of steps on messages lead to worlds that match. Assumes nothing.
use Prim.Native.Nat.{◌+◌, ◌<◌, ℕ}
use mathlib.Core.Bool.{Bool, cond, false, true}
use mathlib.Core.List.{List, [], ◌∷◌, map}
use mathlib.Core.Option.{Option, none, some}
use mathlib.Core.Path.{◌∙◌, ◌≡◌, ap, refl, subst, sym}
use native.Mathlib.Omega.{arith}
use lib.Dec.{T, ltb, ltb→lt, nltb→le}
use lib.ListN.{get_elem?, length}
use Rattle.wire.specs.Limits.{max_body}
use Rattle.causality.proofs.Matches.{Matches, empty, encode_issue}
use Rattle.causality.proofs.Records.{in_range_lem, record_of}
use Rattle.causality.proofs.Sends.{barred}
use Rattle.causality.proofs.Steps.{deliver-matches, deliver-matches-short, forget, lent_less, offer-matches, send-matches, send-matches-barred}
use Rattle.causality.specs.Demand3.{BodiesOfBytes, Issue, Step, World, deliver_at, delivers, offer_issue, offers, run, send_at, sends, start, step}
use Rattle.holdback.proofs.Slots.{zeros-laid}
use Rattle.matrix.specs.Array.{flat}
use Rattle.matrix.specs.Message.{EachInRange}
use Rattle.node.specs.Calls.{deliver_call, send_call}
use Rattle.node.specs.Sizes.{out_size}
use Rattle.rules.proofs.Kept.{range-T}
use Rattle.rules.specs.Rules.{in_range}
use Rattle.node.specs.SetUp.{fresh_record, set_up}
use Rattle.node.specs.Answers.{SetUp}
use Rattle.protocol.proofs.Good.{Good}
use Rattle.protocol.proofs.Lists.{at_map, at_none, none-map}
use Rattle.protocol.proofs.Runs.{run_length, step-good}
use Rattle.protocol.specs.World.{fresh}
use Rattle.protocol.specs.Send.{send}
use Rattle.wire.proofs.Tests.{cond_elim, cond_yes, or-not}
use Rattle.wire.specs.Bytes.{AllBytes}
use Rattle.protocol.specs.World as messages
use Rattle.protocol.specs.Deliver.{deliver}
use Rattle.node.specs.SetUpAnswer.{Refused, Ready}

-- two worlds that depend on one test
both : (n : ℕ) (t : Bool) (x y : messages.World) (u v : World) → (T t → Matches n x u) → Matches n y v → Matches n (cond t x y) (cond t u v)
both n true x y u v f h = f tt
both n false x y u v f h = h

-- a step keeps the match
module _ (n : ℕ) (caps : ℕ → ℕ) (w : messages.World) (b : World) (g : Good n caps w) (few : length w.history < 1000000000) (m : Matches n w b) where
  send-step : (i to class : ℕ) (body out : List ℕ) → AllBytes body
      → Matches n (messages.step n w (forget (sends i to class body out))) (step n b (sends i to class body out))
  unfolding messages.step step
  send-step i to class body out bytes =
      cond_elim (λ (x : messages.Step). Matches n (messages.step n w x) new) (barred class body out) (messages.sends i i []) (messages.sends i to body)
      (λ s. both n (ltb i n) (messages.after_step w i (messages.sends i i []) (send (w.nodes i) i [])) w after b
      (λ t. send-matches-barred n caps w b g few m i (ltb→lt i n t) to class body out s) m)
      (λ s. both n (ltb i n) (messages.after_step w i (messages.sends i to body) (send (w.nodes i) to body)) w after b
      (λ t. send-matches n caps w b g few m i (ltb→lt i n t) to class body out bytes s) m)
    where
      after : World
      after = send_at b i (sends i to class body out) (send_call (b.records i) to class body out)

      new : World
      new = cond (ltb i n) (send_at b i (sends i to class body out) (send_call (b.records i) to class body out)) b

  offer-step : (i p : ℕ) → Matches n (messages.step n w (forget (offers i p))) (step n b (offers i p))
  unfolding messages.step step
  offer-step i p =
      both n (ltb i n) (messages.offer_at w i p (get_elem? w.log p)) w (offer_issue b i p (get_elem? b.log p)) b
      (λ t. go (ltb→lt i n t) (get_elem? w.log p) refl) m
    where
      go : i < n → (o : Option messages.Issue) → get_elem? w.log p ≡ o → Matches n (messages.offer_at w i p o) (offer_issue b i p (get_elem? b.log p))
      go hi none e =
          subst (λ (x : Option Issue). Matches n w (offer_issue b i p x))
          (sym (ap (λ (l : List Issue). get_elem? l p) m.log ∙ none-map encode_issue w.log p e)) m
      go hi (some f) e =
          subst (λ (x : Option Issue). Matches n (messages.offer_at w i p (some f)) (offer_issue b i p x))
          (sym (ap (λ (l : List Issue). get_elem? l p) m.log ∙ at_map encode_issue w.log p f e))
          (offer-matches n caps w b g few m i hi p f e)

  deliver-step : (i : ℕ) (out body : List ℕ) → Matches n (messages.step n w (forget (delivers i out body))) (step n b (delivers i out body))
  unfolding messages.step step
  deliver-step i out body =
      cond_elim (λ (x : messages.Step). Matches n (messages.step n w x) new) (lent_less out body) (messages.sends i i []) (messages.delivers i)
      (λ s. both n (ltb i n) (messages.after_step w i (messages.sends i i []) (send (w.nodes i) i [])) w after b
      (λ t. deliver-matches-short n caps w b g few m i (ltb→lt i n t) out body s) m)
      (λ s. let r = or-not (ltb (length out) out_size) (ltb (length body) max_body) s in
      both n (ltb i n) (messages.after_step w i (messages.delivers i) (deliver (w.nodes i))) w after b
      (λ t. deliver-matches n caps w b g few m i (ltb→lt i n t) out body (nltb→le (length out) out_size r.0) (nltb→le (length body) max_body r.1)) m)
    where
      after : World
      after = deliver_at b i (delivers i out body) (deliver_call (b.records i) (b.queues i) out body)

      new : World
      new = cond (ltb i n) (deliver_at b i (delivers i out body) (deliver_call (b.records i) (b.queues i) out body)) b

-- a list of steps keeps it
pub run_matches : (n : ℕ) (caps : ℕ → ℕ) (l : List Step) → BodiesOfBytes l → (w : messages.World) (b : World) → Good n caps w
    → length w.history + length l < 1000000000 → Matches n w b
    → Matches n (messages.run n w (map forget l)) (run n b l)
run_matches n caps [] bytes w b g few m = m
run_matches n caps (sends i to class body out ∷ l) bytes w b g few m =
    run_matches n caps l bytes.1 (messages.step n w (forget (sends i to class body out))) (step n b (sends i to class body out))
    (step-good n caps w (forget (sends i to class body out)) g)
    (omega (arith, run_length n w (forget (sends i to class body out) ∷ []))) (send-step n caps w b g (omega arith) m i to class body out bytes.0)
run_matches n caps (offers i p ∷ l) bytes w b g few m =
    run_matches n caps l bytes (messages.step n w (messages.offers i p)) (step n b (offers i p)) (step-good n caps w (messages.offers i p) g)
    (omega (arith, run_length n w (messages.offers i p ∷ []))) (offer-step n caps w b g (omega arith) m i p)
run_matches n caps (delivers i out body ∷ l) bytes w b g few m =
    run_matches n caps l bytes (messages.step n w (forget (delivers i out body))) (step n b (delivers i out body))
    (step-good n caps w (forget (delivers i out body)) g)
    (omega (arith, run_length n w (forget (delivers i out body) ∷ []))) (deliver-step n caps w b g (omega arith) m i out body)

-- set-up's records are those of fresh nodes
fresh_record_lem : (me n cap : ℕ) → fresh_record me n cap ≡ record_of (fresh me n cap)
unfolding flat
fresh_record_lem me n cap = refl

pub start_matches : (n : ℕ) (caps : ℕ → ℕ) → EachInRange n caps → Matches n (messages.start n caps) (start n caps)
unfolding set_up
start_matches n caps r = record {
  records = λ k h. ap (λ (x : SetUp). x.node) (cond_yes (in_range k n (caps k)) (record { answer = Ready; node = fresh_record k n (caps k) })
      (record { answer = Refused 1; node = fresh_record 0 0 0 }) (range-T k n (caps k) (in_range_lem k n (caps k) h (r k h)))) ∙ fresh_record_lem k n (caps k);
  queues = λ k h. zeros-laid;
  log = refl;
  history = empty;
  bodies = λ p f e. absurd (at_none p f e);
}
