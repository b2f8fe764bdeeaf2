-- The rounds of trim: what is issued and what is left make the whole, round by round. Assumes nothing.
use Prim.Native.Nat.{◌*◌, ◌+◌, ◌-◌, ◌<◌, ◌≤◌, suc, zero, ℕ}
use mathlib.Core.List.{List}
use mathlib.Core.Path.{◌∙◌, ◌≡◌, ap, refl, sym}
use native.Mathlib.Nat.{zero-add}
use native.Mathlib.Omega.{arith}
use lib.Dec.{leb, le→leb}
use lib.ListN.{length}
use Rattle.frame.proofs.Frames.{extra-le, frames-nil, length-frames, put-frames}
use Rattle.frame.specs.Frame.{encode}
use Rattle.frame.specs.Frames.{frames_of}
use Rattle.matrix.proofs.Array.{flat_back, length-flat}
use Rattle.matrix.proofs.Cleared.{clear-back, clear-le}
use Rattle.matrix.proofs.Columns.{fullest-lt}
use Rattle.matrix.specs.Array.{entry, flat}
use Rattle.matrix.specs.Matrix.{Matrix, clear, count, fullest}
use Rattle.matrix.specs.Message.{Message, extra_message}
use Rattle.protocol.specs.Trim.{Trimmed, issuing, trim_for, untouched}
use Rattle.wire.proofs.Bytes.{length-put, put-nil}
use Rattle.wire.proofs.Tests.{cond_no, cond_yes, lt→nleb}
use Rattle.wire.specs.Bytes.{put}
use Rattle.wire.specs.Limits.{max_count}

-- of the trim `whole`, whose frames go over o₀ from `at` on, i frames stand in o before pos, and `left` is still to be done
pub record Issuing (o₀ : List ℕ) (at : ℕ) (whole : Trimmed) (o : List ℕ) (pos i : ℕ) (left : Trimmed) : Type 0 where
  pub same : length o ≡ length o₀
  pub matrix : left.matrix ≡ whole.matrix
  pub extras : i + length left.extras ≡ length whole.extras
  pub place : pos + length (frames_of left.extras) ≡ at + length (frames_of whole.extras)
  pub bytes : put o pos (frames_of left.extras) ≡ put o₀ at (frames_of whole.extras)

-- the frame of the first message that is left is written
issuing-one : (o₀ : List ℕ) (at : ℕ) (whole : Trimmed) (o : List ℕ) (pos i : ℕ) (left : Trimmed) (x : Message) (later : Trimmed) (o' : List ℕ) (pos' : ℕ)
    → Issuing o₀ at whole o pos i left
    → left ≡ issuing x later → o' ≡ put o pos (encode x) → pos' ≡ pos + length (encode x) → Issuing o₀ at whole o' pos' (i + 1) later
issuing-one o₀ at whole o pos i left x later o' pos' w e p q =
    let first : Issuing o₀ at whole o pos i (issuing x later) = rw e at w in
    record {
      same = ap length p ∙ length-put o pos (encode x) ∙ w.same;
      matrix = first.matrix;
      extras = omega (arith, first.extras);
      place = omega (arith, first.place, length-frames x later.extras);
      bytes = rw (p, q, ← put-frames o pos x later.extras) first.bytes;
    }

-- nothing is left but the matrix m
issuing-end : (o₀ : List ℕ) (at : ℕ) (whole : Trimmed) (o : List ℕ) (pos i : ℕ) (left : Trimmed) (m : Matrix)
    → Issuing o₀ at whole o pos i left → left ≡ untouched m
    → (m ≡ whole.matrix) × (o ≡ put o₀ at (frames_of whole.extras)) × (pos ≡ at + length (frames_of whole.extras)) × (i ≡ length whole.extras)
issuing-end o₀ at whole o pos i left m w e =
    let last : Issuing o₀ at whole o pos i (untouched m) = rw e at w in
    (last.matrix, sym (put-nil o pos) ∙ rw frames-nil at last.bytes, omega (arith, rw frames-nil at last.place), omega (arith, last.extras))

module _ (me n cap : ℕ) (m : Matrix) where
  -- with at most cap entries no round is made
  trim-none : (k : ℕ) → count m ≤ cap → trim_for k me n cap m ≡ untouched m
  unfolding trim_for
  trim-none zero h = refl
  trim-none (suc k) h =
      cond_yes (leb (count m) cap) (untouched m)
      (issuing (extra_message me (fullest m) n cap m) (trim_for k me n cap (clear me (fullest m) m))) (le→leb (count m) cap h)

  -- with more than cap one is made
  trim-more : (k : ℕ) → cap < count m → trim_for (suc k) me n cap m ≡ issuing (extra_message me (fullest m) n cap m) (trim_for k me n cap (clear me (fullest m) m))
  unfolding trim_for
  trim-more k h =
      cond_no (leb (count m) cap) (untouched m)
      (issuing (extra_message me (fullest m) n cap m) (trim_for k me n cap (clear me (fullest m) m))) (lt→nleb (count m) cap h)

-- after i rounds: the array l, the output o and the place pos behind the frames in it, where they were l₀, o₀ and `at`
pub record Trimming (me n cap at : ℕ) (l₀ o₀ l o : List ℕ) (pos i : ℕ) : Type 0 where
  pub rounds : i ≤ 12
  pub size : length l ≡ 144
  pub room : pos ≤ at + 84 * i
  pub small : (x y : ℕ) → entry l x y ≤ max_count + i
  pub issued : Issuing o₀ at (trim_for 12 me n cap (entry l₀)) o pos i (trim_for (12 - i) me n cap (entry l))

-- what `trim` promises of them at its end
abbrev pub Ended : (me n cap at : ℕ) (l₀ o₀ l o : List ℕ) (pos i : ℕ) → Type 0
Ended me n cap at l₀ o₀ l o pos i =
    (l ≡ flat (trim_for 12 me n cap (entry l₀)).matrix) × (o ≡ put o₀ at (frames_of (trim_for 12 me n cap (entry l₀)).extras))
    × (pos ≡ at + length (frames_of (trim_for 12 me n cap (entry l₀)).extras)) × (i ≡ length (trim_for 12 me n cap (entry l₀)).extras)

module _ (me n cap at : ℕ) (l₀ o₀ : List ℕ) where
  -- before the first round all is left
  pub trimming_start : length l₀ ≡ 144 → ((x y : ℕ) → entry l₀ x y ≤ max_count) → Trimming me n cap at l₀ o₀ l₀ o₀ at 0
  trimming_start e s =
      record {
        rounds = omega arith;
        size = e;
        room = omega arith;
        small = λ x y. omega (arith, s x y);
        issued = record { same = refl; matrix = refl; extras = zero-add _; place = refl; bytes = refl };
      }

  module _ {l o : List ℕ} {pos i : ℕ} (K : Trimming me n cap at l₀ o₀ l o pos i) where
    -- one round more
    pub trimming_round : {l' o' : List ℕ} {pos' : ℕ} → me < 12 → i < 12 → cap < count (entry l) → l' ≡ flat (clear me (fullest (entry l)) (entry l))
        → o' ≡ put o pos (encode (extra_message me (fullest (entry l)) n cap (entry l)))
        → pos' ≡ pos + length (encode (extra_message me (fullest (entry l)) n cap (entry l)))
        → Trimming me n cap at l₀ o₀ l' o' pos' (i + 1)
    trimming_round {l'} {o'} {pos'} hm h more el eo ep =
        let m : Matrix = entry l in
        let j : ℕ = fullest m in
        let x : Message = extra_message me j n cap m in
        let rounds : 12 - i ≡ suc (12 - (i + 1)) = omega arith in
        let left : trim_for (12 - i) me n cap m ≡ issuing x (trim_for (12 - (i + 1)) me n cap (clear me j m))
        = rw rounds (trim-more me n cap m (12 - (i + 1)) more) in
        let back : entry l' ≡ clear me j m = ap entry el ∙ clear-back me j l hm (fullest-lt m) in
        record {
          rounds = omega arith;
          size = ap length el ∙ length-flat (clear me j m);
          room = omega (arith, K.room, extra-le me j n cap m (fullest-lt m));
          small = λ a b. rw back (omega (arith, K.small a b, clear-le me j m a b));
          issued =
              rw back (issuing-one o₀ at (trim_for 12 me n cap (entry l₀)) o pos i (trim_for (12 - i) me n cap m) x
              (trim_for (12 - (i + 1)) me n cap (clear me j m)) o' pos' K.issued left eo ep);
        }

    -- nothing is left but the matrix as it stands
    ended : trim_for (12 - i) me n cap (entry l) ≡ untouched (entry l) → Ended me n cap at l₀ o₀ l o pos i
    ended e =
        let w = issuing-end o₀ at (trim_for 12 me n cap (entry l₀)) o pos i (trim_for (12 - i) me n cap (entry l)) (entry l) K.issued e in
        (sym (flat_back l K.size) ∙ ap flat w.0, w.1, w.2, w.3)

    -- at most cap entries are non-zero
    pub trimming_done : count (entry l) ≤ cap → Ended me n cap at l₀ o₀ l o pos i
    trimming_done h = ended (trim-none me n cap (entry l) (12 - i) h)

    -- twelve rounds were made
    pub trimming_end : i ≡ 12 → Ended me n cap at l₀ o₀ l o pos 12
    unfolding trim_for
    trimming_end h =
        let z : 12 - i ≡ 0 = omega arith in
        rw h at (ended (rw z))
