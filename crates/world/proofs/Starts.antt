-- The start of a simulation is stored, with any limit of issues. Assumes nothing.
use Prim.Native.Nat.{ℕ, zero, suc, ◌+◌, ◌-◌, ◌*◌, ◌≤◌, ◌<◌}
use mathlib.Core.Bool.{Bool, true, false, cond, ◌&&◌}
use mathlib.Core.List.{List, []}
use mathlib.Core.Logic.{◌⊎◌, inl, inr}
use mathlib.Core.Path.{◌≡◌, refl, sym, ap, ◌∙◌}
use native.Mathlib.Omega.{arith}
use lib.Dec.{T, leb, leb→le}
use lib.ListN.{length, get_or, take}
use lib.Seq.{take_at}
use Rattle.wire.proofs.Tests.{and_T, of_true, or-T}
use Rattle.matrix.specs.Message.{EachInRange, InRange}
use Rattle.rules.proofs.Facts.{ranged}
use Rattle.rules.specs.Rules.{in_range}
use Rattle.holdback.proofs.Slots.{length-zeros, zeros_add, zeros-drop}
use Rattle.holdback.specs.Slots.{queue_size, zeros}
use Rattle.node.specs.SetUp.{fresh_record, set_up}
use Rattle.node.specs.Answers.{SetUp}
use Rattle.node.specs.SetUpAnswer.{Refused, Ready}
use Rattle.causality.specs.Demand3.{start}
use Rattle.world.proofs.Logs.{joined-none}
use Rattle.world.specs.Stored.{Holds, fresh, log_size, no_record, queue_at}
use Rattle.world.specs.Start.{cap_of, cap_taken, is_ready, max_simulated, startable}

-- set-up that is ready was given numbers in range
ready-range : (me n c : ℕ) → T (is_ready (set_up me n c).answer) → in_range me n c ≡ true
unfolding set_up
ready-range me n c t = go (in_range me n c) t
  where
    go : (b : Bool) → T (is_ready (cond {A = SetUp} b
        (record { answer = Ready; node = fresh_record me n c }) (record { answer = Refused 1; node = fresh_record 0 0 0 })).answer) → b ≡ true
    go true t = refl
    go false t = absurd t

-- a queue among zeros
fresh-queue : (k i : ℕ) → queue_size * i + queue_size ≤ k → queue_at (zeros k) i ≡ zeros queue_size
unfolding queue_at
fresh-queue k i h =
    let r : ℕ = k - queue_size * i - queue_size in
    let e : k - queue_size * i ≡ queue_size + r = omega arith in
    ap (take queue_size) (zeros-drop (queue_size * i) k (omega arith) ∙ ap zeros e ∙ sym (zeros_add queue_size r))
    ∙ take_at (zeros queue_size) (zeros r) queue_size (length-zeros queue_size)

-- n is 2 to 4, and the caps are in range
pub record Opens (n : ℕ) (caps : ℕ → ℕ) : Type 0 where
  pub least : 2 ≤ n
  pub few : n ≤ max_simulated
  pub range : EachInRange n caps

-- a cap that set-up takes is in range
taken-range : (n i c : ℕ) → i < n → T (cap_taken n i c) → InRange n c
unfolding cap_taken
taken-range n i c h t = go (or-T (leb n i) (is_ready (set_up i n c).answer) t)
  where
    go : T (leb n i) ⊎ T (is_ready (set_up i n c).answer) → InRange n c
    go (inl z) = absurd (omega (arith, leb→le n i z))
    go (inr r) =
        let k = ranged i n c (ready-range i n c r) in
        record { at_least2 = k.at_least2; at_most12 = k.at_most12; cap_from = k.cap_from; cap_to = k.cap_to }

pub opens : (n : ℕ) (caps : List ℕ) → startable n caps ≡ true → Opens n (cap_of caps)
unfolding startable
opens n caps s =
    let c = cap_of caps in
    let t₃ = and_T (leb 2 n && leb n max_simulated && cap_taken n 0 (c 0) && cap_taken n 1 (c 1) && cap_taken n 2 (c 2)) (cap_taken n 3 (c 3)) (of_true _ s) in
    let t₂ = and_T (leb 2 n && leb n max_simulated && cap_taken n 0 (c 0) && cap_taken n 1 (c 1)) (cap_taken n 2 (c 2)) t₃.0 in
    let t₁ = and_T (leb 2 n && leb n max_simulated && cap_taken n 0 (c 0)) (cap_taken n 1 (c 1)) t₂.0 in
    let t₀ = and_T (leb 2 n && leb n max_simulated) (cap_taken n 0 (c 0)) t₁.0 in
    let t = and_T (leb 2 n) (leb n max_simulated) t₀.0 in
    record {
      least = leb→le 2 n t.0;
      few = leb→le n max_simulated t.1;
      range = go (leb→le n max_simulated t.1) t₀.1 t₁.1 t₂.1 t₃.1;
    }
  where
    go : n ≤ max_simulated → T (cap_taken n 0 (cap_of caps 0)) → T (cap_taken n 1 (cap_of caps 1)) → T (cap_taken n 2 (cap_of caps 2))
        → T (cap_taken n 3 (cap_of caps 3)) → EachInRange n (cap_of caps)
    go l a b c d zero h = taken-range n 0 (cap_of caps 0) h a
    go l a b c d (suc zero) h = taken-range n 1 (cap_of caps 1) h b
    go l a b c d (suc (suc zero)) h = taken-range n 2 (cap_of caps 2) h c
    go l a b c d (suc (suc (suc zero))) h = taken-range n 3 (cap_of caps 3) h d
    go l a b c d (suc (suc (suc (suc i)))) h = absurd (omega arith)

fresh_record_lem : (n : ℕ) (caps : List ℕ) (i : ℕ) → i < max_simulated → get_or (fresh n caps).nodes i no_record ≡ (set_up i n (cap_of caps i)).node
unfolding fresh
fresh_record_lem n caps zero h = refl
fresh_record_lem n caps (suc zero) h = refl
fresh_record_lem n caps (suc (suc zero)) h = refl
fresh_record_lem n caps (suc (suc (suc zero))) h = refl
fresh_record_lem n caps (suc (suc (suc (suc i)))) h = absurd (omega arith)

fresh-counts : (n : ℕ) (caps : List ℕ) → ((fresh n caps).n ≡ n) × (length (fresh n caps).nodes ≡ max_simulated)
    × ((fresh n caps).issued ≡ 0) × ((fresh n caps).end ≡ 0)
unfolding fresh
fresh-counts n caps = (refl, refl, refl, refl)

-- the world before the first step of nodes in range, their caps from a list, in queues of zeros and a log of any bytes
pub holds-start : (n : ℕ) (caps : ℕ → ℕ) (list : List ℕ) (limit : ℕ) → Opens n caps → ((i : ℕ) → i < n → cap_of list i ≡ caps i)
    → (q l : List ℕ) → q ≡ zeros (queue_size * max_simulated) → length l ≡ log_size limit
    → Holds n caps limit 0 (start n caps) (fresh n list) q l
holds-start n caps list limit o same q l z e =
    let f = fresh-counts n list in
    record {
      range = o.range;
      least = o.least;
      few = o.few;
      reached = record { steps = []; bytes = tt; few = omega arith; same = refl };
      nodes = f.0;
      array = f.1;
      records = λ i h. fresh_record_lem n list i (omega (arith, o.few)) ∙ ap (λ (c : ℕ). (set_up i n c).node) (same i h);
      size = ap length z ∙ length-zeros (queue_size * max_simulated);
      queues = λ i h. ap (λ (x : List ℕ). queue_at x i) z ∙ fresh-queue (queue_size * max_simulated) i (omega (arith, o.few));
      issued = f.2;
      below = omega arith;
      room = e;
      begins = record { sound = λ i h. absurd (omega arith); bytes = ap (λ (x : List ℕ). take (length x) l) joined-none ∙ sym joined-none };
      end = f.3 ∙ sym (ap length joined-none);
    }
