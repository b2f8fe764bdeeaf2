-- Trim: twelve rounds are enough, it ends within the cap, and it issues at most one message to each destination, one in a round; what it issues is extra.
use Prim.Native.Nat.{ℕ, zero, suc, ◌+◌, ◌*◌, ◌-◌, ◌≤◌, ◌<◌}
use mathlib.Core.Bool.{not, cond}
use mathlib.Core.List.{List, [], ◌∷◌}
use mathlib.Core.Logic.{◌⊎◌, inl, inr, ◌≢◌}
use mathlib.Core.Option.{some}
use mathlib.Core.Path.{◌≡◌, refl, sym, subst, ap, ◌∙◌}
use native.Mathlib.Decide.{ℕ_discrete, dec_le}
use native.Mathlib.Omega.{arith}
use lib.Dec.{T, leb, leb→le, le→leb, nleb→lt}
use lib.ListN.{get_elem?, length}
use Rattle.matrix.proofs.Bounds.{rules-column}
use Rattle.matrix.proofs.Columns.{MatrixRules, fullest_eleven, fullest-lt, fullest-two, two-below, two-other, clear-rules, clear-one}
use Rattle.matrix.proofs.Columns.{clear-count, clear-same, crowded, crowded-le, crowded-down, crowded-some}
use Rattle.matrix.proofs.Cleared.{clear_lower, clear-row}
use Rattle.matrix.proofs.Matrix.{clear-mine, clear_keep}
use Rattle.matrix.specs.Matrix.{Matrix, column_count, count, fullest, clear}
use Rattle.matrix.specs.Message.{Message, extra, extra_message}
use Rattle.protocol.proofs.Lists.{at_none}
use Rattle.protocol.specs.Trim.{Trimmed, untouched, issuing, trim_for}
use Rattle.wire.proofs.Tests.{decide, cond_elim, cond_yes}

-- what a run of trim does at node me: it issues extras one by one, each to a column with two entries or more, which it clears
pub data Rounds (n cap me : ℕ) : Matrix → List Message → Matrix → Type 0 where
  done : (m : Matrix) → Rounds n cap me m [] m
  round : (m m' : Matrix) (extras : List Message) (l : ℕ) → l < n → l ≢ me → 2 ≤ column_count m l → MatrixRules n me m → Rounds n cap me (clear me l m) extras m'
      → Rounds n cap me m (extra_message me l n cap m ∷ extras) m'

-- the fullest column, where more than cap entries are non-zero
record Full (n me : ℕ) (m : Matrix) : Type 0 where
  two : 2 ≤ column_count m (fullest m)
  below : fullest m < n
  other : fullest m ≢ me
  rules : MatrixRules n me (clear me (fullest m) m)

-- that column has two entries or more, so it is another node's
full : (n me cap : ℕ) (m : Matrix) → me < n → n ≤ cap → MatrixRules n me m → cap < count m → Full n me m
full n me cap m hi hc f h =
    let two : 2 ≤ column_count m (fullest m) = fullest-two n me cap m f hc h in
    let below : fullest m < n = two-below n me (fullest m) m f two in
    let other : fullest m ≢ me = two-other n me (fullest m) m f two in
    record { two = two; below = below; other = other; rules = clear-rules n me (fullest m) m f hi below other }

-- trim is such a run
pub trim-rounds : (k n me cap : ℕ) (m : Matrix) → me < n → n ≤ cap → MatrixRules n me m
    → Rounds n cap me m (trim_for k me n cap m).extras (trim_for k me n cap m).matrix
unfolding trim_for
trim-rounds zero n me cap m hi hc f = done m
trim-rounds (suc k) n me cap m hi hc f =
    cond_elim (λ (t : Trimmed). Rounds n cap me m t.extras t.matrix) (leb (count m) cap) (untouched m)
    (issuing (extra_message me (fullest m) n cap m) rest)
    (λ t. done m)
    (λ t. let c = full n me cap m hi hc f (nleb→lt (count m) cap t) in
    round m rest.matrix rest.extras (fullest m) c.below c.other c.two f (trim-rounds k n me cap (clear me (fullest m) m) hi hc c.rules))
  where
    rest : Trimmed
    rest = trim_for k me n cap (clear me (fullest m) m)

-- with as many rounds as there are columns of two entries or more, at most cap entries are left
pub trim-within : (k n me cap : ℕ) (m : Matrix) → me < n → n ≤ 12 → n ≤ cap → MatrixRules n me m → crowded m ≤ k → count (trim_for k me n cap m).matrix ≤ cap
unfolding trim_for
trim-within zero n me cap m hi hn hc f h = go (dec_le (count m) cap)
  where
    go : Dec (count m ≤ cap) → count m ≤ cap
    go (yes l) = l
    go (no l) = let c = full n me cap m hi hc f (omega arith) in absurd (omega (arith, crowded-some (fullest m) m (fullest-lt m) c.two))
trim-within (suc k) n me cap m hi hn hc f h =
    cond_elim (λ (t : Trimmed). count t.matrix ≤ cap) (leb (count m) cap) (untouched m)
    (issuing (extra_message me (fullest m) n cap m) (trim_for k me n cap (clear me (fullest m) m)))
    (λ t. leb→le (count m) cap t)
    (λ t. let c = full n me cap m hi hc f (nleb→lt (count m) cap t) in
    trim-within k n me cap (clear me (fullest m) m) hi hn hc c.rules (omega (arith, crowded-down me (fullest m) m (omega arith) (fullest-lt m) c.two)))

-- twelve rounds end within the cap
pub trim-ends : (n me cap : ℕ) (m : Matrix) → me < n → n ≤ 12 → n ≤ cap → MatrixRules n me m → count (trim_for 12 me n cap m).matrix ≤ cap
trim-ends n me cap m hi hn hc f = trim-within 12 n me cap m hi hn hc f (crowded-le m)

-- and a further round would change nothing: the rounds are those of the loop
pub trim-enough : (k n me cap : ℕ) (m : Matrix) → me < n → n ≤ 12 → n ≤ cap → MatrixRules n me m → crowded m ≤ k
    → trim_for (suc k) me n cap m ≡ trim_for k me n cap m
unfolding trim_for
trim-enough zero n me cap m hi hn hc f h =
    cond_yes (leb (count m) cap) (untouched m) (issuing (extra_message me (fullest m) n cap m) (untouched (clear me (fullest m) m)))
    (le→leb (count m) cap (trim-within 0 n me cap m hi hn hc f h))
trim-enough (suc k) n me cap m hi hn hc f h =
    go (decide (leb (count m) cap)) (λ (r : MatrixRules n me m₁) (q : crowded m₁ ≤ k). trim-enough k n me cap m₁ hi hn hc r q)
  where
    one : Trimmed → Trimmed
    one t = issuing (extra_message me (fullest m) n cap m) t

    m₁ : Matrix
    m₁ = clear me (fullest m) m

    go : T (leb (count m) cap) ⊎ T (not (leb (count m) cap)) → (MatrixRules n me m₁ → crowded m₁ ≤ k → trim_for (suc k) me n cap m₁ ≡ trim_for k me n cap m₁)
        → trim_for (suc (suc k)) me n cap m ≡ trim_for (suc k) me n cap m
    go (inl t) ih =
        cond_yes (leb (count m) cap) (untouched m) (one (trim_for (suc k) me n cap m₁)) t
        ∙ sym (cond_yes (leb (count m) cap) (untouched m) (one (trim_for k me n cap m₁)) t)
    go (inr t) ih =
        let c = full n me cap m hi hc f (nleb→lt (count m) cap t) in
        ap (λ (z : Trimmed). cond (leb (count m) cap) (untouched m) (one z))
        (ih c.rules (omega (arith, crowded-down me (fullest m) m (omega arith) (fullest-lt m) c.two)))

-- the matrix after the rounds keeps the rules
pub rounds-rules : (n cap me : ℕ) (m : Matrix) (extras : List Message) (m' : Matrix) → me < n → MatrixRules n me m
    → Rounds n cap me m extras m' → MatrixRules n me m'
rounds-rules n cap me m extras m' hi f (done _) = f
rounds-rules n cap me m extras m' hi f (round _ _ o l hl ne two _ r) = rounds-rules n cap me (clear me l m) o m' hi (clear-rules n me l m f hi hl ne) r

-- one message at most to each destination: an entry of row me goes up by one at most, and not at all where its column has one entry or none
pub rounds-row : (n cap me : ℕ) (m : Matrix) (extras : List Message) (m' : Matrix) → me < n → n ≤ 12 → Rounds n cap me m extras m' → (y : ℕ)
    → (m' me y ≤ suc (m me y)) × (column_count m y ≤ 1 → m' me y ≡ m me y)
rounds-row n cap me m extras m' hi hn (done _) y = (omega arith, λ _. refl)
rounds-row n cap me m extras m' hi hn (round _ _ o l hl ne two _ r) y = go (ℕ_discrete y l) (rounds-row n cap me (clear me l m) o m' hi hn r y)
  where
    go : Dec (y ≡ l) → (m' me y ≤ suc (clear me l m me y)) × (column_count (clear me l m) y ≤ 1 → m' me y ≡ clear me l m me y)
        → (m' me y ≤ suc (m me y)) × (column_count m y ≤ 1 → m' me y ≡ m me y)
    go (yes e) h =
        let q : m' me y ≡ clear me l m me y = h.1 (rw e (omega (arith, clear-one me l m (omega arith)))) in
        let q' : clear me l m me y ≡ suc (m me y) = rw e (clear-mine me l m) in
        (omega arith, λ c. let c' : column_count m l ≤ 1 = rw e at c in absurd (omega arith))
    go (no e) h = let q : clear me l m me y ≡ m me y = clear_keep me l m me y e in (rw q at h.0, λ c. h.1 (rw (clear-same me l m y e) c) ∙ q)

-- the row of me does not go down, and no other goes up
pub rounds-grows : (n cap me : ℕ) (m : Matrix) (extras : List Message) (m' : Matrix) → Rounds n cap me m extras m' → (y : ℕ) → m me y ≤ m' me y
rounds-grows n cap me m extras m' (done _) y = omega arith
rounds-grows n cap me m extras m' (round _ _ o l hl ne two _ r) y = omega (arith, clear-row me l m y, rounds-grows n cap me (clear me l m) o m' r y)

pub rounds_lower : (n cap me : ℕ) (m : Matrix) (extras : List Message) (m' : Matrix) → Rounds n cap me m extras m' → (x y : ℕ) → x ≢ me → m' x y ≤ m x y
rounds_lower n cap me m extras m' (done _) x y h = omega arith
rounds_lower n cap me m extras m' (round _ _ o l hl ne two _ r) x y h =
    omega (arith, clear_lower me l m x y h, rounds_lower n cap me (clear me l m) o m' r x y h)

-- each round takes an entry off at least, and is made where more than cap stand: no more messages are issued than entries stand above the cap
pub trim_excess : (k n me cap : ℕ) (m : Matrix) → me < n → n ≤ 12 → n ≤ cap → MatrixRules n me m → length (trim_for k me n cap m).extras ≤ count m - cap
unfolding trim_for
trim_excess zero n me cap m hi hn hc f = omega arith
trim_excess (suc k) n me cap m hi hn hc f =
    cond_elim (λ (t : Trimmed). length t.extras ≤ count m - cap) (leb (count m) cap) (untouched m)
    (issuing (extra_message me (fullest m) n cap m) (trim_for k me n cap (clear me (fullest m) m)))
    (λ _. omega arith)
    (λ t. let more : cap < count m = nleb→lt (count m) cap t in
    let c = full n me cap m hi hc f more in
    omega (
      arith,
      more,
      c.two,
      clear-count me (fullest m) m (omega arith) (fullest-lt m),
      trim_excess k n me cap (clear me (fullest m) m) hi hn hc c.rules,
    ))

-- in so full a matrix the fullest column has eleven entries, of which a round takes ten off: j rounds are enough for 10 * j above the cap
pub trim-full : (k j n me cap : ℕ) (m : Matrix) → me < n → n ≤ 12 → n ≤ cap → MatrixRules n me m → crowded m ≤ suc j → 10 * j + 20 ≤ count m
    → count m ≤ cap + 10 * j → length (trim_for k me n cap m).extras ≤ j
unfolding trim_for
trim-full k zero n me cap m hi hn hc f few least most = omega (arith, trim_excess k n me cap m hi hn hc f)
trim-full zero (suc j) n me cap m hi hn hc f few least most = omega arith
trim-full (suc k) (suc j) n me cap m hi hn hc f few least most =
    cond_elim (λ (t : Trimmed). length t.extras ≤ suc j) (leb (count m) cap) (untouched m)
    (issuing (extra_message me (fullest m) n cap m) (trim_for k me n cap (clear me (fullest m) m)))
    (λ _. omega arith)
    (λ t. let c = full n me cap m hi hc f (nleb→lt (count m) cap t) in
    let less : crowded (clear me (fullest m) m) ≤ suc j = omega (arith, crowded-down me (fullest m) m (omega arith) (fullest-lt m) c.two) in
    let ten : count (clear me (fullest m) m) + 10 ≡ count m = omega (
      arith,
      clear-count me (fullest m) m (omega arith) (fullest-lt m),
      fullest_eleven me m (omega arith) f.own (omega arith),
      rules-column n me m hi hn f (fullest m),
    ) in
    omega (arith, trim-full k j n me cap (clear me (fullest m) m) hi hn hc c.rules less (omega arith) (omega arith)))

-- and each clears another column of two entries or more: no more are issued than there are such columns
pub rounds-crowded : (n cap me : ℕ) (m : Matrix) (extras : List Message) (m' : Matrix) → me < n → n ≤ 12 → Rounds n cap me m extras m'
    → length extras + crowded m' ≡ crowded m
rounds-crowded n cap me m extras m' hi hn (done _) = omega arith
rounds-crowded n cap me m extras m' hi hn (round _ _ o l hl ne two _ r) =
    omega (arith, rounds-crowded n cap me (clear me l m) o m' hi hn r, crowded-down me l m (omega arith) (omega arith) two)

-- what holds of every extra message holds of each that trim issues
trim-each : (P : Message → Type 0) → ((me l n cap : ℕ) (m : Matrix) → P (extra_message me l n cap m)) → (k me n cap : ℕ) (m : Matrix) (p : ℕ) (f : Message)
    → get_elem? (trim_for k me n cap m).extras p ≡ some f → P f
unfolding trim_for
trim-each P h zero me n cap m p f e = absurd (at_none p f e)
trim-each P h (suc k) me n cap m p f e =
    cond_elim (λ (t : Trimmed). get_elem? t.extras p ≡ some f → P f) (leb (count m) cap) (untouched m)
    (issuing (extra_message me (fullest m) n cap m) rest)
    (λ _ e. absurd (at_none p f e)) (λ _. go p (λ q. trim-each P h k me n cap (clear me (fullest m) m) q f)) e
  where
    rest : Trimmed
    rest = trim_for k me n cap (clear me (fullest m) m)

    go : (p : ℕ) → ((q : ℕ) → get_elem? rest.extras q ≡ some f → P f) → get_elem? (extra_message me (fullest m) n cap m ∷ rest.extras) p ≡ some f → P f
    go zero ih e = let z : extra_message me (fullest m) n cap m ≡ f = cc in subst P z (h me (fullest m) n cap m)
    go (suc p) ih e = ih p e

-- its kind, and that it has no body
pub trim-kind : (k me n cap : ℕ) (m : Matrix) (p : ℕ) (f : Message) → get_elem? (trim_for k me n cap m).extras p ≡ some f → f.kind ≡ extra
trim-kind = trim-each (λ (f : Message). f.kind ≡ extra) (λ me l n cap m. refl)

pub trim-bare : (k me n cap : ℕ) (m : Matrix) (p : ℕ) (f : Message) → get_elem? (trim_for k me n cap m).extras p ≡ some f → f.body ≡ []
trim-bare = trim-each (λ (f : Message). f.body ≡ []) (λ me l n cap m. refl)
