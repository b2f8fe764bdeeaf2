-- No entry exceeds what its row's node has issued, and so, in a good world of fewer than 1,000,000,000 steps, the limit; every issued message is then sound.
use Prim.Native.Nat.{ℕ, zero, suc, ◌≤◌, ◌<◌}
use mathlib.Core.Bool.{not}
use mathlib.Core.Path.{◌≡◌, refl, sym, subst}
use native.Mathlib.Decide.{ℕ_discrete, dec_le}
use native.Mathlib.Omega.{arith}
use lib.Dec.{T, eqb, ltb}
use lib.ListN.{length}
use Rattle.matrix.specs.Message.{extra, InRange, SoundEntry, Sound}
use Rattle.protocol.proofs.Below.{none-some}
use Rattle.protocol.proofs.Good.{state_of, SoundIssue, Good}
use Rattle.protocol.proofs.Grown.{node_at}
use Rattle.protocol.proofs.State.{State, At, IssuedAs, Invariant}
use Rattle.protocol.specs.Node.{some_below, at_limit}
use Rattle.protocol.specs.Offer.{claims_too_much}
use Rattle.protocol.specs.World.{Issue, World, IssueAt}
use Rattle.wire.proofs.Tests.{le→nltb, ne→neqb, not-or}
use Rattle.wire.specs.Bytes.{AllBytes}
use Rattle.wire.specs.Limits.{max_count}

-- what an entry counts, its row's node has issued
pub issued_bound : (w : State) → Invariant w → (x y k : ℕ) → IssuedAs w.log x y k → k ≤ w.matrix x x y
issued_bound w v x y k s =
    let b : k ≤ w.matrix s.issue.message.from s.issue.message.from s.issue.message.to
    = rw s.number at (v.numbered s.place s.issue s.at) in
    rw (s.from, s.to) at b

-- no carried entry exceeds what its row's node has issued
pub entry_bound : (w : State) → Invariant w → (p : ℕ) (f : Issue) → At w p f → (x y : ℕ) → f.message.entries x y ≤ w.matrix x x y
entry_bound w v p f a x y = go (f.message.entries x y) refl
  where
    go : (k : ℕ) → f.message.entries x y ≡ k → f.message.entries x y ≤ w.matrix x x y
    go zero e = omega arith
    go (suc k) e = omega (arith, issued_bound w v x y (suc k) (v.carried p f a x y k e).0)

-- nor does a kept one
pub matrix_bound : (w : State) → Invariant w → (i x y : ℕ) → w.matrix i x y ≤ w.matrix x x y
matrix_bound w v i x y = go (w.matrix i x y) refl
  where
    go : (k : ℕ) → w.matrix i x y ≡ k → w.matrix i x y ≤ w.matrix x x y
    go zero e = omega arith
    go (suc k) e = omega (arith, issued_bound w v x y (suc k) (v.kept i x y k e))

-- an issued message claims no more of a node's row than stands there: refusal 13 is never met
pub claims_little : (n : ℕ) (caps : ℕ → ℕ) (w : World) → Good n caps w → (p : ℕ) (f : Issue) → IssueAt w p f → (i : ℕ)
    → T (not (claims_too_much (node_at n caps w i) f.message))
claims_little n caps w g p f at i =
    none-some 12 (λ y. ltb ((w.nodes i).matrix i y) (f.message.entries i y))
    (λ y _. le→nltb ((w.nodes i).matrix i y) (f.message.entries i y) (entry_bound (state_of w) g.invariant p f at i y))

module _ (n : ℕ) (caps : ℕ → ℕ) (w : World) (g : Good n caps w) (few : length w.history < 1000000000) where
  -- no entry of a node's own row comes to the limit
  pub row_below : (x y : ℕ) → (w.nodes x).matrix x y < max_count
  row_below x y = go (dec_le (suc x) n)
    where
      out : n ≤ x → (k : ℕ) → (w.nodes x).matrix x y ≡ k → (w.nodes x).matrix x y < 1000000000
      out h zero e = omega arith
      out h (suc k) e = let s = g.invariant.kept x x y k e in absurd (omega (arith, (g.sound s.place s.issue s.at).from, s.from))

      go : Dec (suc x ≤ n) → (w.nodes x).matrix x y < 1000000000
      go (yes h) = omega (arith, (g.node x h).row y)
      go (no h) = out (omega arith) ((w.nodes x).matrix x y) refl

  -- refusal 5 is never met
  pub below-limit : (i : ℕ) → T (not (at_limit (node_at n caps w i)))
  unfolding at_limit
  below-limit i =
      not-or (some_below 12 (λ y. eqb ((w.nodes i).matrix i y) max_count)) (some_below 12 (λ x. eqb ((w.nodes i).deliv x) max_count))
      (none-some 12 (λ y. eqb ((w.nodes i).matrix i y) max_count) (λ y h. ne→neqb ((w.nodes i).matrix i y) max_count (λ e. omega (arith, row_below i y))))
      (none-some 12 (λ x. eqb ((w.nodes i).deliv x) max_count)
      (λ x h. ne→neqb ((w.nodes i).deliv x) max_count (λ e. omega (arith, row_below x i, g.invariant.deliv_bound i x))))

  -- an issued message whose body is of bytes is sound
  pub issue-sound : (p : ℕ) (f : Issue) → IssueAt w p f → AllBytes f.message.body → Sound f.message
  issue-sound p f at bytes =
      let s = g.sound p f at in
      let r : InRange n (caps f.message.from) = g.range f.message.from s.from in
      record {
        range = rw (s.sized, s.capped) r;
        from = rw s.sized s.from;
        to = rw s.sized s.to;
        apart = s.apart;
        entries = entry s;
        few = rw s.capped s.few;
        short = s.short;
        bare = s.bare;
        bytes = bytes;
      }
    where
      entry : SoundIssue n caps f.message → (x y : ℕ) → (f.message.entries x y ≡ 0 → ⊥) → SoundEntry f.message x y
      entry s x y h = record {
        row = rw s.sized (below x (λ q. h (s.rules.rows x y q)));
        column = rw s.sized (below y (λ q. h (s.rules.columns x y q)));
        apart = λ q. h (subst (λ (z : ℕ). f.message.entries x z ≡ 0) q (s.rules.diagonal x));
        not_from = λ q. h (subst (λ (z : ℕ). f.message.entries x z ≡ 0) (sym q) (s.rules.own x));
        value = omega (arith, entry_bound (state_of w) g.invariant p f at x y, row_below x y);
        extra_to = λ q. only-to q (ℕ_discrete y f.message.to);
      }
        where
          below : (z : ℕ) → (n ≤ z → ⊥) → z < n
          below z k = go (dec_le n z)
            where
              go : Dec (n ≤ z) → z < n
              go (yes q) = absurd (k q)
              go (no q) = omega arith

          only-to : f.message.kind ≡ extra → Dec (y ≡ f.message.to) → y ≡ f.message.to
          only-to q (yes e) = e
          only-to q (no e) = absurd (h (s.lone q x y e))
