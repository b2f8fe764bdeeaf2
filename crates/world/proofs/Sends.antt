-- A send that is stored is the definition's. Assumes nothing.
use Prim.Native.Nat.{ℕ, ◌+◌, ◌-◌, ◌≤◌, ◌<◌}
use mathlib.Core.Bool.{true, false, Bool, ◌||◌}
use mathlib.Core.List.{List, []}
use mathlib.Core.Path.{◌≡◌, refl, sym, ap, ap₂, ◌∙◌, subst}
use native.Mathlib.Omega.{arith}
use lib.Dec.{leb, ltb, nleb→lt, nltb→le}
use Rattle.wire.proofs.Tests.{of_false, or-not}
use lib.ListN.{length, get_or, take}
use lib.Seq.{length-take-le}
use Rattle.wire.specs.Bytes.{put as write}
use Rattle.rights.specs.Rights.{mover}
use Rattle.node.proofs.Told.{SendTold, SentFacts, send-told}
use Rattle.node.specs.Answers.{AfterSend, after_send, Sent}
use Rattle.node.specs.Calls.{send_call}
use Rattle.node.specs.declared.Node.{Node as Record}
use Rattle.node.specs.SendAnswer.{SendAnswer}
use Rattle.node.specs.SendAnswer as send_answer
use Rattle.causality.specs.Demand3.{World, bytes_issued, frames_in, sent, sends}
use Rattle.world.proofs.Keeping.{end-room, holds_after, holds_later}
use Rattle.world.proofs.Reach.{reached-send}
use Rattle.world.proofs.Written.{frames-joined, wrote-frames}
use Rattle.world.specs.Outcome.{Outcome}
use Rattle.world.specs.Outcome as outcome
use Rattle.world.specs.declared.World.{World as Stored}
use Rattle.world.specs.Steps.{AfterStep, after_sent, exhausted, frame_output, refuse, send_step}
use Rattle.world.specs.Stored.{Holds, StandingRecords, log_size, no_record, stored_after}

-- the test before a call: no node, or too few issues left
module _ {n : ℕ} {caps : ℕ → ℕ} {limit k : ℕ} {w : World} {s : Stored} {q l : List ℕ} (h : Holds n caps limit k w s q l)
    (i : ℕ) {t : Bool} (e : t ≡ (leb s.n i || ltb (limit - s.issued) s.n)) where
  same_test : t ≡ (leb n i || exhausted n limit w)
  same_test = e ∙ ap₂ (λ (x y : ℕ). leb x i || ltb (limit - y) x) h.nodes h.issued

  pub stops_lem : t ≡ true → (leb n i || exhausted n limit w) ≡ true
  stops_lem b = sym same_test ∙ b

  -- where it goes on
  pub record Goes : Type 0 where
    pub test : (leb n i || exhausted n limit w) ≡ false
    pub node : i < n
    pub left : length w.log + n ≤ limit

  pub goes_on_lem : t ≡ false → Goes
  goes_on_lem b =
      let test : (leb n i || exhausted n limit w) ≡ false = sym same_test ∙ b in
      let both = or-not (leb n i) (exhausted n limit w) (of_false _ test) in
      record { test = test; node = nleb→lt n i both.0; left = omega (arith, nltb→le (limit - length w.log) n both.1, h.least) }

module _ (n : ℕ) (caps : ℕ → ℕ) (limit k : ℕ) (w : World) (s : Stored) (q l : List ℕ) (h : Holds n caps limit k w s q l) (short : k + 1 < 1000000000) (i j : ℕ) where
  -- what is asked of the code: the outcome and the stored world are the definition's
  abbrev pub SendDone : Outcome → Stored → List ℕ → Type 0
  SendDone o s' l' = (o ≡ (send_step n limit w i j).outcome) × Holds n caps limit (k + 1) (send_step n limit w i j).world s' q l'

  send-stops : (leb n i || exhausted n limit w) ≡ true → send_step n limit w i j ≡ refuse 17 w
  unfolding send_step
  send-stops t = rw t

  pub send_17 : {t : Bool} → t ≡ (leb s.n i || ltb (limit - s.issued) s.n) → t ≡ true → SendDone (outcome.Refused 17) s l
  send_17 e t =
      subst (λ (a : AfterStep). (outcome.Refused 17 ≡ a.outcome) × Holds n caps limit (k + 1) a.world s q l) (sym (send-stops (stops_lem h i e t)))
      (refl, holds_later n caps limit k w s q l h)

  module _ {stop : Bool} (et : stop ≡ (leb s.n i || ltb (limit - s.issued) s.n)) (on : stop ≡ false) (a : Sent) (out : List ℕ)
      (e : after_send a out ≡ send_call (get_or s.nodes i no_record) j mover [] frame_output) where
    goes : Goes h i et
    goes = goes_on_lem h i et on

    abbrev c : AfterSend
    c = send_call (w.records i) j mover [] frame_output

    same : c ≡ after_send a out
    same = sym (e ∙ ap (λ (x : Record). send_call x j mover [] frame_output) (h.records i goes.node))

    send-goes : send_step n limit w i j ≡ after_sent w i j c a.answer
    unfolding send_step
    send-goes = rw goes.test (ap (λ (x : AfterSend). after_sent w i j c x.result.answer) same)

    pub send-refused : (why : ℕ) → a.answer ≡ send_answer.Refused why → SendDone (outcome.Refused why) s l
    send-refused why t =
        subst (λ (x : AfterStep). (outcome.Refused why ≡ x.outcome) × Holds n caps limit (k + 1) x.world s q l) (sym (send-goes ∙ ap (after_sent w i j c) t))
        (refl, holds_later n caps limit k w s q l h)

    module _ {bytes extras : ℕ} (t : a.answer ≡ send_answer.Sent bytes extras) where
      told : c.result.answer ≡ send_answer.Sent bytes extras
      told = ap (λ (x : AfterSend). x.result.answer) same ∙ t

      facts : SentFacts frame_output c.out bytes extras
      facts = subst (λ (x : SendAnswer). SendTold frame_output x c) told (send-told (w.records i) j mover [] frame_output)

      tells : bytes_issued (sent c.result.answer) ≡ bytes
      tells = ap (λ (x : SendAnswer). bytes_issued (sent x)) told

      -- what is written fits the log, and the frames can be counted
      pub sent-inside : bytes ≤ length out
      sent-inside = subst (λ (x : List ℕ). bytes ≤ length x) (ap (λ (x : AfterSend). x.out) same) facts.wrote.inside

      pub sent-room : s.end + length (take bytes out) ≤ length l
      unfolding log_size
      sent-room = omega (arith, end-room n caps limit k w s q l h (omega arith), length-take-le bytes out sent-inside, facts.most, h.room)

      pub sent-few : extras ≤ 1
      sent-few = facts.few

      pub send-sent : (s' : Stored) (l' : List ℕ) → s' ≡ stored_after s i a.node (1 + extras) (length (take bytes out))
          → l' ≡ write l s.end (take bytes out) → SendDone (outcome.Sent extras) s' l'
      send-sent s' l' es el =
          let f = facts in
          subst (λ (x : AfterStep). (outcome.Sent extras ≡ x.outcome) × Holds n caps limit (k + 1) x.world s' q l')
          (sym (send-goes ∙ ap (after_sent w i j c) t)) (
            refl,
            holds_after n caps limit k w s q l h short i goes.node (sends i j mover [] frame_output) c.result.node (w.queues i) (sent c.result.answer)
                c.out q (take bytes out) (1 + extras)
                (reached-send n caps k w h.reached i j mover frame_output goes.node) refl (h.queues i goes.node) (λ x hx z. refl)
                (frames-joined (take (bytes_issued (sent c.result.answer)) c.out)
                ∙ ap₂ (λ (x : ℕ) (y : List ℕ). take x y) tells (ap (λ (x : AfterSend). x.out) same))
                (ap (λ (x : ℕ). length (frames_in (take x c.out))) tells ∙ wrote-frames f.wrote ∙ f.many)
                (omega (arith, f.few, h.least, goes.left)) sent-room s' l'
                (es ∙ ap (λ (x : AfterSend). stored_after s i x.result.node (1 + extras) (length (take bytes out))) (sym same)) el,
          )

-- what a send writes fits the log, and its frames can be counted
pub record SendFits (s : Stored) (bytes extras : ℕ) (out l : List ℕ) : Type 0 where
  pub inside : bytes ≤ length out
  pub few : extras ≤ 1
  pub counted : s.issued + (1 + extras) < 1000002
  pub room : s.end + length (take bytes out) ≤ length l

pub send-fits : {limit : ℕ} {s : Stored} {l : List ℕ} → (limit < 1000000) × StandingRecords limit s l → (i j : ℕ) {t : Bool}
    → t ≡ (leb s.n i || ltb (limit - s.issued) s.n) → t ≡ false → {a : Sent} {out : List ℕ}
    → after_send a out ≡ send_call (get_or s.nodes i no_record) j mover [] frame_output
    → {bytes extras : ℕ} → a.answer ≡ send_answer.Sent bytes extras → SendFits s bytes extras out l
send-fits {limit} {s} {l} r i j {t} et on {a} {out} e {bytes} {extras} b =
    let x = r.1.1 in
    let few : extras ≤ 1 = sent-few x.n x.caps limit x.k x.world s r.1.0 l x.holds x.more i j et on a out e b in
    record {
      inside = sent-inside x.n x.caps limit x.k x.world s r.1.0 l x.holds x.more i j et on a out e b;
      few = few;
      counted = omega (arith, few, r.0, x.holds.issued, x.holds.below);
      room = sent-room x.n x.caps limit x.k x.world s r.1.0 l x.holds x.more i j et on a out e b;
    }
