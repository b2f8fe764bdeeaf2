-- What a delivery does to the receiver's matrix: the merge of a user message before its trim, and nothing for an extra one.
use Prim.Native.Nat.{ℕ, ◌≤◌, ◌<◌, max}
use mathlib.Core.Logic.{◌⊎◌, inl, inr, ◌≢◌}
use mathlib.Core.Path.{◌≡◌, refl}
use native.Mathlib.Decide.{ℕ_discrete}
use native.Mathlib.Omega.{arith}
use Rattle.matrix.proofs.Columns.{MatrixRules, merge-rules}
use Rattle.matrix.proofs.Matrix.{merge-from, merge-max, merge-own}
use Rattle.matrix.specs.Matrix.{Matrix, count, merge}
use Rattle.matrix.specs.Message.{Kind, user, extra}
use Rattle.protocol.proofs.Trim.{Rounds, done, trim-rounds, trim-ends}
use Rattle.protocol.specs.Deliver.{learn}
use Rattle.protocol.specs.Node.{Node}

-- the matrix before the trim
abbrev pub learned : Kind → ℕ → Matrix → Matrix → Matrix
learned user i m e = merge i m e
learned extra i m e = m

-- it keeps the rules
pub learned-rules : (k : Kind) (n i j : ℕ) (m e : Matrix) → MatrixRules n i m → MatrixRules n j e → MatrixRules n i (learned k i m e)
learned-rules user n i j m e f f' = merge-rules n i j m e f f'
learned-rules extra n i j m e f f' = f

-- an entry is the old one, or outside the own column the larger of two
pub learned-case : (k : Kind) (i : ℕ) (m e : Matrix) (x y : ℕ) → (learned k i m e x y ≡ m x y) ⊎ ((y ≢ i) × (learned k i m e x y ≡ max (m x y) (e x y)))
learned-case extra i m e x y = inl refl
learned-case user i m e x y = go (ℕ_discrete y i)
  where
    go : Dec (y ≡ i) → (merge i m e x y ≡ m x y) ⊎ ((y ≢ i) × (merge i m e x y ≡ max (m x y) (e x y)))
    go (yes q) = inl (rw q (merge-own i m e x))
    go (no q) = inr (q, merge-max i m e x y q)

-- no entry goes down
pub learned-le : (k : Kind) (i : ℕ) (m e : Matrix) (x y : ℕ) → m x y ≤ learned k i m e x y
learned-le k i m e x y = go (learned-case k i m e x y)
  where
    go : (learned k i m e x y ≡ m x y) ⊎ ((y ≢ i) × (learned k i m e x y ≡ max (m x y) (e x y))) → m x y ≤ learned k i m e x y
    go (inl a) = omega arith
    go (inr a) = omega (arith, a.1)

-- each entry is the old one or the message's
pub learned-from : (k : Kind) (i : ℕ) (m e : Matrix) (x y : ℕ) → (learned k i m e x y ≡ m x y) ⊎ (learned k i m e x y ≡ e x y)
learned-from user i m e x y = merge-from i m e x y
learned-from extra i m e x y = inl refl

-- a user message's entries are reached outside the own column
pub learned-user : (k : Kind) (i : ℕ) (m e : Matrix) (x y : ℕ) → k ≡ user → y ≢ i → e x y ≤ learned k i m e x y
learned-user k i m e x y u ne = rw u (omega (arith, merge-max i m e x y ne))

-- what `learn` does is such a run of trim, and ends within the cap
pub learn-rounds : (k : Kind) (d : Node) (j : ℕ) (e : Matrix) → d.me < d.n → d.n ≤ d.cap → MatrixRules d.n d.me d.matrix → MatrixRules d.n j e
    → Rounds d.n d.cap d.me (learned k d.me d.matrix e) (learn k d e).extras (learn k d e).matrix
learn-rounds user d j e hi hc f f' =
    trim-rounds 12 d.n d.me d.cap (merge d.me d.matrix e) hi hc (merge-rules d.n d.me j d.matrix e f f')
learn-rounds extra d j e hi hc f f' = done d.matrix

-- at most cap entries are left
pub learn-few : (k : Kind) (d : Node) (j : ℕ) (e : Matrix) → d.me < d.n → d.n ≤ 12 → d.n ≤ d.cap → MatrixRules d.n d.me d.matrix
    → MatrixRules d.n j e → count d.matrix ≤ d.cap
    → count (learn k d e).matrix ≤ d.cap
learn-few user d j e hi hn hc f f' c =
    trim-ends d.n d.me d.cap (merge d.me d.matrix e) hi hn hc (merge-rules d.n d.me j d.matrix e f f')
learn-few extra d j e hi hn hc f f' c = c
