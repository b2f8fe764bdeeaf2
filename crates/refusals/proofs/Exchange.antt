-- What the calls say to exchanged neighbours: the first check that is met, by demand 1. Assumes nothing.
use Prim.Native.Nat.{◌<◌, ◌≤◌, ℕ}
use mathlib.Core.Bool.{Bool, ◌||◌, false, not, true}
use mathlib.Core.List.{List, []}
use mathlib.Core.Logic.{inl, inr}
use mathlib.Core.Path.{◌≡◌, refl}
use native.Mathlib.Omega.{arith}
use lib.Dec.{eqb, ltb}
use lib.ListN.{length}
use Rattle.wire.specs.Bytes.{AllBytes}
use Rattle.wire.specs.Exchange.{Unequal, exchanged}
use Rattle.frame.proofs.Exchange.{exchange_8}
use Rattle.frame.specs.Refusals.{wrong_trailer}
use Rattle.image.proofs.Images.{image_laws}
use Rattle.image.specs.Image.{SoundImage, bad_image, record_in}
use Rattle.holdback.specs.Slots.{queue_size}
use Rattle.holdback.specs.WrongQueue.{wrong_queue}
use Rattle.node.specs.Record.{broken_record, node_of}
use Rattle.host.specs.Exports.{answer_size}
use Rattle.refusals.proofs.Demand1.{demand1}
use Rattle.refusals.specs.Exchange.{Behind8, Exchanges, FrameExchanged, ImageExchanged}

-- a test that cannot be met is not
unmet : (b : Bool) → (b ≡ true → ⊥) → b ≡ false
unmet true h = absurd (h refl)
unmet false h = refl

-- such a number is none of the others
off : (k j : ℕ) → Behind8 k → 0 < j → (9 ≤ j → 17 ≤ j) → k ≡ j → ⊥
off k j (inl z) s h e = omega arith
off k j (inr b) s h e = let p = h (omega (arith, b.0)) in omega (arith, b.1)

-- an offer that meets no check up to 8 meets 8 first once the neighbours are exchanged: the checks in front of it do not look at the frame
frame-exchanged : (s : List ℕ) (k : ℕ) → AllBytes s → Unequal s k → FrameExchanged s k
frame-exchanged s k b u =
    record {
      offer = λ r q e.
          let n = (demand1.offer r s q).answers.numbered.gives in
          let not2 = unmet (broken_record r) (λ p. off _ 2 e (omega arith) (λ i. omega arith) (n 2 (inl (refl, p)))) in
          let not3 = unmet (not (eqb (length q) queue_size)) (λ p. off _ 3 e (omega arith) (λ i. omega arith) (n 3 (inr (not2, inl (refl, p))))) in
          let not4 = unmet (wrong_queue (node_of r []) r.held q) (λ p. off _ 4 e (omega arith) (λ i. omega arith) (n 4 (inr (not2, inr (not3, inl (refl, p)))))) in
          let now8 = now (λ p. off _ 8 e (omega arith) (λ i. omega arith) (n 8 (inr (not2, inr (not3, inr (not4, inl (refl, p))))))) in
          (demand1.offer r (exchanged s k) q).answers.numbered.gives 8 (inr (not2, inr (not3, inr (not4, inl (refl, now8)))));
      host_offer = λ i q answer e.
          let r = record_in i in
          let n = (demand1.host_offer i s q answer).numbered.gives in
          let short = not (eqb (length q) queue_size) || ltb (length answer) answer_size in
          let not20 = unmet (bad_image i) (λ p. off _ 20 e (omega arith) (λ j. omega arith) (n 20 (inl (refl, p)))) in
          let not3 = unmet short (λ p. off _ 3 e (omega arith) (λ j. omega arith) (n 3 (inr (not20, inl (refl, p))))) in
          let not4 = unmet (wrong_queue (node_of r []) r.held q) (λ p. off _ 4 e (omega arith) (λ j. omega arith) (n 4 (inr (not20, inr (not3, inl (refl, p)))))) in
          let now8 = now (λ p. off _ 8 e (omega arith) (λ j. omega arith) (n 8 (inr (not20, inr (not3, inr (not4, inl (refl, p))))))) in
          (demand1.host_offer i (exchanged s k) q answer).numbered.gives 8 (inr (not20, inr (not3, inr (not4, inl (refl, now8)))));
    }
  where
    now : (wrong_trailer s ≡ true → ⊥) → wrong_trailer (exchanged s k) ≡ true
    now h = exchange_8 s b (unmet (wrong_trailer s) h) k u

image-exchanged : (i : List ℕ) (k : ℕ) → SoundImage i → Unequal i k → ImageExchanged i k
image-exchanged i k h u =
    let bad = image_laws.exchange i h k u in
    record {
      send = λ to class body out answer. (demand1.host_send (exchanged i k) to class body out answer).numbered.gives 20 (inl (refl, bad));
      offer = λ s q answer. (demand1.host_offer (exchanged i k) s q answer).numbered.gives 20 (inl (refl, bad));
      deliver = λ q out body answer. (demand1.host_deliver (exchanged i k) q out body answer).numbered.gives 20 (inl (refl, bad));
    }

pub exchanges : Exchanges
exchanges = record { frame = frame-exchanged; image = image-exchanged }
