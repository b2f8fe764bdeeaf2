-- An offer that is stored is the definition's. Assumes nothing.
use Prim.Native.Nat.{ℕ, zero, suc, ◌+◌, ◌*◌, ◌-◌, ◌≤◌, ◌<◌}
use mathlib.Core.Bool.{Bool}
use mathlib.Core.List.{List, [], ◌∷◌, ◌++◌}
use mathlib.Core.Option.{none, some}
use mathlib.Core.Path.{◌≡◌, refl, sym, ap, ap₂, ◌∙◌, subst}
use native.Mathlib.Omega.{arith}
use lib.ListN.{length, get_or, set, take, drop, get_elem?, length-map}
use Rattle.wire.proofs.Bytes.{put-nil}
use Rattle.frame.specs.Header.{header, own_length}
use Rattle.frame.specs.declared.header.Header.{Header}
use Rattle.holdback.specs.Slots.{queue_size}
use Rattle.node.proofs.Told.{OfferTold, offer-told}
use Rattle.node.specs.Answers.{AfterOffer, after_offer, Offered}
use Rattle.node.specs.Calls.{offer_call}
use Rattle.node.specs.declared.Node.{Node as Record}
use Rattle.node.specs.OfferAnswer.{OfferAnswer}
use Rattle.node.specs.OfferAnswer as offer_answer
use Rattle.causality.proofs.Frames.{cut-nothing}
use Rattle.causality.specs.Demand3.{Issue, World, destination, offer_at, offered, offers}
use Rattle.world.proofs.Keeping.{holds_after, holds_later, issue-at, issue-facts, stored-still}
use Rattle.world.proofs.Logs.{Behind, LogPart, begins-inside, log-part, log-room}
use Rattle.world.proofs.Queues.{wide, width, queue-back, queue-here, queue-other, queue-part, queues-length}
use Rattle.world.proofs.Reach.{reached-offer}
use Rattle.world.proofs.Written.{frames-joined}
use Rattle.world.specs.Outcome.{Outcome}
use Rattle.world.specs.Outcome as outcome
use Rattle.world.specs.declared.World.{World as Stored}
use Rattle.world.specs.Steps.{AfterStep, after_offered, frames, offer_step, offer_to, refuse}
use Rattle.world.specs.Stored.{Holds, Standing, no_record, queue_at, stored_after}
use Rattle.world.specs.Reached.{Reached}
use Rattle.world.specs.Start.{max_simulated}

-- an issue past the last
none-at : {A : Type 0} (l : List A) (p : ℕ) → length l ≤ p → get_elem? l p ≡ none
none-at [] zero h = refl
none-at [] (suc p) h = refl
none-at (x ∷ l) zero h = absurd (omega arith)
none-at (x ∷ l) (suc p) h = none-at l p (omega arith)

module _ (n : ℕ) (caps : ℕ → ℕ) (limit k : ℕ) (w : World) (s : Stored) (q l : List ℕ) (h : Holds n caps limit k w s q l) (short : k + 1 < 1000000000) (m : ℕ) where
  -- what is asked of the code: the outcome and the stored world are the definition's
  abbrev pub OfferDone : Outcome → Stored → List ℕ → Type 0
  OfferDone o s' q' = (o ≡ (offer_step w m).outcome) × Holds n caps limit (k + 1) (offer_step w m).world s' q' l

  refused_17 : offer_step w m ≡ refuse 17 w → OfferDone (outcome.Refused 17) s q
  refused_17 e =
      subst (λ (a : AfterStep). (outcome.Refused 17 ≡ a.outcome) × Holds n caps limit (k + 1) a.world s q l) (sym e)
      (refl, holds_later n caps limit k w s q l h)

  stops_first : m ≡ 0 → offer_step w m ≡ refuse 17 w
  unfolding offer_step
  stops_first e = rw e

  pub offer-none : m ≡ 0 → OfferDone (outcome.Refused 17) s q
  offer-none e = refused_17 (stops_first e)

  stops-last : (p : ℕ) → m ≡ suc p → length w.log ≤ p → offer_step w m ≡ refuse 17 w
  unfolding offer_step
  stops-last p e z = rw e (ap (offer_to w p) (none-at w.log p z))

  pub offer-past : (m ≡ 0 → ⊥) → s.issued < m → OfferDone (outcome.Refused 17) s q
  offer-past z g = go m refl
    where
      go : (x : ℕ) → m ≡ x → OfferDone (outcome.Refused 17) s q
      go zero e = absurd (z e)
      go (suc p) e = refused_17 (stops-last p e (omega (arith, h.issued)))

  module _ (z : m ≡ 0 → ⊥) (there : m ≤ s.issued) (start end : ℕ) (hs : Behind (m - 1) l (m - 1) start) (he : end ≡ start + own_length (header (drop start l))) where
    abbrev p : ℕ
    p = m - 1

    abbrev frame : List ℕ
    frame = get_or (frames w.log) p []

    few-frames : p < length w.log
    few-frames = omega (arith, h.issued)

    -- the frame of that issue in the log
    abbrev lent : List ℕ
    lent = take (end - start) (drop start l)

    pub offer-part : LogPart (frames w.log) l p start end
    offer-part =
        let many = length-map w.log (λ (g : Issue). g.frame) in
        log-part (frames w.log) l p start end h.begins (omega (arith, many, few-frames)) (hs (frames w.log) h.begins (omega (arith, many, few-frames))) he

    module _ (d : Header) (ed : d ≡ header lent) (j : ℕ) (to : j ≡ d.to) where
      ej : j ≡ destination frame
      ej = to ∙ ap (λ (x : Header). x.to) (ed ∙ ap header offer-part.same)

      pub offer-to : j < n
      offer-to = rw ej (issue-facts n caps limit k w s q l h (omega arith) p few-frames).to

      ez : width j ≡ queue_size
      ez = wide j

      module _ (a : Offered) (p₁ : List ℕ) (e : after_offer a p₁ ≡ offer_call (get_or s.nodes j no_record) lent (take (width j) (drop (queue_size * j) q)))
          (long : length p₁ ≡ length (take (width j) (drop (queue_size * j) q))) where
        abbrev g : Issue
        g = (issue-at w.log p few-frames).0

        at : get_elem? w.log p ≡ some g
        at = (issue-at w.log p few-frames).1

        named : frame ≡ g.frame
        named = (issue-at w.log p few-frames).2

        abbrev c : AfterOffer
        c = offer_call (w.records j) frame (w.queues j)

        same : c ≡ after_offer a p₁
        same =
            sym (e ∙ ap (λ (x : Record). offer_call x lent (take (width j) (drop (queue_size * j) q))) (h.records j offer-to)
            ∙ ap₂ (λ (x y : List ℕ). offer_call (w.records j) x y) offer-part.same (queue-part j (width j) q ez ∙ h.queues j offer-to))

        -- the definition's step
        at-issue : offer_step w (suc p) ≡ after_offered w j p c c.result.answer
        unfolding offer_step
        at-issue =
            ap (offer_to w p) at
            ∙ ap (λ (x : List ℕ). let i : ℕ = destination x in
            let d : AfterOffer = offer_call (w.records i) x (w.queues i) in after_offered w i p d d.result.answer) (sym named)
            ∙ ap (λ (i : ℕ). let d : AfterOffer = offer_call (w.records i) frame (w.queues i) in after_offered w i p d d.result.answer) (sym ej)

        goes : offer_step w m ≡ after_offered w j p c a.answer
        goes =
            let em : m ≡ suc p = omega arith in
            ap (offer_step w) em ∙ at-issue ∙ ap (λ (x : AfterOffer). after_offered w j p c x.result.answer) same

        -- the queues after the call
        abbrev q₁ : List ℕ
        q₁ = take (queue_size * j) q ++ (p₁ ++ drop (width j) (drop (queue_size * j) q))

        few : j < max_simulated
        few = omega (arith, h.few, offer-to)

        pub offer-refused : (why : ℕ) → a.answer ≡ offer_answer.Refused why → OfferDone (outcome.Refused why) s q₁
        offer-refused why t =
            let told : c.queue ≡ w.queues j =
            subst (λ (x : OfferAnswer). OfferTold (w.queues j) x c) (ap (λ (x : AfterOffer). x.result.answer) same ∙ t)
            (offer-told (w.records j) frame (w.queues j)) in
            let u : p₁ ≡ queue_at q j = sym (ap (λ (x : AfterOffer). x.queue) same) ∙ told ∙ sym (h.queues j offer-to) in
            subst (λ (x : AfterStep). (outcome.Refused why ≡ x.outcome) × Holds n caps limit (k + 1) x.world s q₁ l)
            (sym (goes ∙ ap (after_offered w j p c) t)) (
              refl,
              subst (λ (y : List ℕ). Holds n caps limit (k + 1) w s y l)
                  (sym (queue-back j (width j) q p₁ few h.size ez long u)) (holds_later n caps limit k w s q l h),
            )

        pub offer-held : (count : ℕ) (ready : Bool) → a.answer ≡ offer_answer.Held count ready → (s' : Stored)
            → s' ≡ record { n = s.n; nodes = set s.nodes j a.node; issued = s.issued; end = s.end }
            → OfferDone (outcome.Held count ready) s' q₁
        offer-held count ready t s' es =
            subst (λ (x : AfterStep). (outcome.Held count ready ≡ x.outcome) × Holds n caps limit (k + 1) x.world s' q₁ l)
            (sym (goes ∙ ap (after_offered w j p c) t)) (
              refl,
              holds_after n caps limit k w s q l h short j offer-to (offers j p) c.result.node c.queue (offered c.result.answer) [] q₁ [] 0
                  (subst (λ (x : List ℕ). Reached n caps (k + 1) (offer_at w j (offers j p) (offer_call (w.records j) x (w.queues j)))) (sym named)
                  (reached-offer n caps k w h.reached j p g offer-to at))
                  (queues-length j (width j) q p₁ few h.size ez long)
                  (queue-here j (width j) q p₁ few h.size ez long ∙ sym (ap (λ (x : AfterOffer). x.queue) same))
                  (λ x hx d. queue-other j (width j) q p₁ few h.size ez long x d)
                  (frames-joined []) (ap length (cut-nothing [])) (omega (arith, h.below))
                  (omega (arith, h.end, begins-inside (frames w.log) l h.begins)) s' l
                  (es ∙ sym (stored-still s j a.node)
                  ∙ ap (λ (x : AfterOffer). stored_after s j x.result.node 0 0) (sym same)) (sym (put-nil l s.end)),
            )

-- an issue that was made stands in the log, and goes to one of the nodes
module _ {limit : ℕ} {s : Stored} {q l : List ℕ} (x : Standing limit s q l) {m : ℕ} (z : m ≡ 0 → ⊥) (there : m ≤ s.issued)
    {start : ℕ} (hs : Behind (m - 1) l (m - 1) start) where
  pub made-room : start + 8 ≤ length l
  made-room =
      let many = length-map x.world.log (λ (g : Issue). g.frame) in
      log-room (frames x.world.log) l (m - 1) start x.holds.begins (omega (arith, many, x.holds.issued))
      (hs (frames x.world.log) x.holds.begins (omega (arith, many, x.holds.issued)))

  module _ {end : ℕ} (he : end ≡ start + own_length (header (drop start l))) where
    pub made-part : LogPart (frames x.world.log) l (m - 1) start end
    made-part = offer-part x.n x.caps limit x.k x.world s q l x.holds x.more m z there start end hs he

    pub made-to : {d : Header} → d ≡ header (take (end - start) (drop start l)) → (j : ℕ) → j ≡ d.to → j < max_simulated
    made-to {d} ed j to =
        let below : j < x.n = offer-to x.n x.caps limit x.k x.world s q l x.holds x.more m z there start end hs he d ed j to in omega (arith, below, x.holds.few)
