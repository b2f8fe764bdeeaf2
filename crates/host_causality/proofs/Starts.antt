-- What the set_ups_lem of a host leave is what the node's set_ups_lem return. Assumes nothing.
use Prim.Native.Nat.{◌<◌, ◌≤◌, ℕ}
use mathlib.Core.Bool.{true}
use mathlib.Core.List.{List}
use mathlib.Core.Path.{◌≡◌, refl}
use native.Mathlib.Omega.{arith}
use lib.Dec.{eqb}
use lib.ListN.{length, replicate}
use Rattle.wire.proofs.Tests.{cond_elim, is_true}
use Rattle.matrix.specs.Array.{entry, vector}
use Rattle.rules.proofs.Facts.{when_out_of_range, ranged}
use Rattle.rules.specs.Rules.{in_range}
use Rattle.node.specs.Answers.{set_up_number, SetUp}
use Rattle.node.specs.Record.{broken_record}
use Rattle.node.specs.SetUp.{fresh_record, set_up}
use Rattle.node.specs.SetUpAnswer.{Refused, Ready}
use Rattle.soundness.proofs.HandedBack.{handed_back}
use Rattle.causality.specs.Demand3.{start}
use Rattle.host.specs.Exports.{SetUpLeft, exported_set_up, set_up_left, set_up_told}
use Rattle.image.specs.Image.{image, image_size}
use Rattle.host_causality.proofs.Calls.{Shape}
use Rattle.host_causality.proofs.Sees.{Sees}
use Rattle.host_causality.specs.HostDemand3.{host_start}

-- a set-up that returned 0
module _ (i : List ℕ) (me n cap : ℕ) where
  abbrev SetUpShown : SetUp → SetUpLeft → Type 0
  SetUpShown x y = y.status ≡ 0 → (set_up_number x.answer ≡ 0) × (y.image ≡ image x.node)

  set_up-shown : SetUpShown (set_up me n cap) (exported_set_up i me n cap)
  unfolding exported_set_up set_up
  set_up-shown =
      cond_elim (λ (x : SetUp). SetUpShown x (set_up_told i x.node x.answer)) (in_range me n cap)
      (record { answer = Ready; node = fresh_record me n cap }) (record { answer = Refused 1; node = fresh_record 0 0 0 })
      (λ _. cond_elim (SetUpShown (record { answer = Ready; node = fresh_record me n cap })) (eqb (length i) image_size)
      (set_up_left 0 (image (fresh_record me n cap))) (set_up_left 20 i) (λ _ z. (refl, refl)) (λ _ z. absurd (omega arith)))
      (λ _ z. absurd (omega arith))

set_up-shape : (me n cap : ℕ) → Shape (set_up me n cap).node
unfolding set_up
set_up-shape me n cap =
    cond_elim (λ (x : SetUp). Shape x.node) (in_range me n cap) (record { answer = Ready; node = fresh_record me n cap })
    (record { answer = Refused 1; node = fresh_record 0 0 0 }) (λ _. record { cells = refl; senders = refl }) (λ _. record { cells = refl; senders = refl })

-- no node has a number from n on
no_node : (me n cap : ℕ) → n ≤ me → broken_record (set_up me n cap).node ≡ true
unfolding set_up broken_record in_range
no_node me n cap h =
    cond_elim (λ (x : SetUp). broken_record x.node ≡ true) (in_range me n cap) (record { answer = Ready; node = fresh_record me n cap })
    (record { answer = Refused 1; node = fresh_record 0 0 0 })
    (λ t. absurd (omega (arith, (ranged me n cap (is_true (in_range me n cap) t)).below)))
    (λ _. when_out_of_range 0 0 0 (entry (replicate 144 0)) (vector (replicate 12 0)) 0 refl)

pub start_sees : (n : ℕ) (caps : ℕ → ℕ) (lent : ℕ → List ℕ) → ((me : ℕ) → me < n → (exported_set_up (lent me) me n (caps me)).status ≡ 0)
    → Sees n (host_start lent n caps) (start n caps)
start_sees n caps lent made =
    record {
      nodes =
          λ i h. record {
            state = handed_back.fresh i n (caps i) (set_up-shown (lent i) i n (caps i) (made i h)).0;
            shape = set_up-shape i n (caps i);
          };
      none = λ i h. no_node i n (caps i) h;
      images = λ i h. (set_up-shown (lent i) i n (caps i) (made i h)).1;
      queues = λ i. refl;
      log = refl;
      history = refl;
    }
