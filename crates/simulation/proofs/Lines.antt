-- The loop over the lines: what is printed so far, and the definition on the lines that are left. Assumes nothing.
use Prim.Native.Nat.{ℕ, ◌+◌, ◌≤◌, ◌<◌}
use mathlib.Core.Bool.{Bool, cond, false, not, true}
use mathlib.Core.List.{List, [], ◌∷◌, ◌++◌}
use mathlib.Core.Path.{◌≡◌, refl, sym, ap, ◌∙◌}
use native.Mathlib.Nat.{zero-add}
use native.Mathlib.Omega.{arith}
use lib.Dec.{eqb}
use lib.ListN.{length, length-append}
use Rattle.wire.specs.Bytes.{put}
use Rattle.wire.proofs.Bytes.{put_append}
use Rattle.text.specs.Pieces.{split}
use Rattle.text.proofs.Pieces.{split-some, split-total, total}
use Rattle.commands.specs.Commands.{command}
use Rattle.counters.specs.Counted.{no_counters}
use Rattle.counters.specs.declared.Counters.{Counters}
use Rattle.causality.specs.Demand3.{start}
use Rattle.world.specs.Stored.{Holds, Standing}
use Rattle.text.specs.Print.{refusal_row}
use Rattle.text.specs.Wrote.{Wrote, WroteWhole}
use Rattle.counting.specs.Stands.{Stands}
use Rattle.counting.specs.State.{State, opened}
use Rattle.counting.specs.declared.State.{State as StoredState}
use Rattle.simulation.specs.Stands.{Took}
use Rattle.simulation.specs.Yard.{AfterLine, line, lines, max_issues, total_row}

-- a line and those behind it, and what stands behind the last line feed
pub lines_more : (n : ℕ) (z : State) (t : List ℕ) (ps : List (List ℕ)) → 1 ≤ length ps
    → lines n z (t ∷ ps) ≡ (line n z (command t)).printed ++ lines n (line n z (command t)).yard ps
unfolding lines
lines_more n z t [] h = absurd (omega arith)
lines_more n z t (p ∷ ps) h = refl

pub lines-last : (n : ℕ) (z : State) (t : List ℕ) → lines n z (t ∷ []) ≡ cond (eqb (length t) 0) [] (refusal_row 17) ++ total_row z.counters
unfolding lines
lines-last n z t = refl

-- what is left of the output, with the yard z at the text that is left
abbrev left : ℕ → List ℕ → State → List ℕ
left n rest z = lines n z (split 10 rest)

-- a piece and the text behind it have the bytes of the whole but one
pub parted-length : (s p b : List ℕ) → split 10 s ≡ p ∷ split 10 b → length s ≡ length p + 1 + length b
unfolding total
parted-length s p b e = omega (arith, split-total 10 s, split-total 10 b, ap total e)

-- a yard of n nodes over the input s: up to `rest` its lines are taken, and what they print stands in o up to `pos`
pub record Running (n : ℕ) (caps : ℕ → ℕ) (s o₀ : List ℕ) (y : StoredState) (q l o rest : List ℕ) (pos : ℕ) : Type 0 where
  pub yard : State
  pub steps : ℕ
  pub few : steps + length rest ≤ length s
  pub stands : Stands n caps max_issues steps yard y q l
  pub end : pos + length (left n rest yard) ≡ length (left n s (opened n caps))
  pub bytes : put o pos (left n rest yard) ≡ put o₀ 0 (left n s (opened n caps))

pub running_starts : (n : ℕ) (caps : ℕ → ℕ) (s o : List ℕ) (y : StoredState) (q l : List ℕ) → Holds n caps max_issues 0 (start n caps) y.world q l
    → y.counters ≡ no_counters → Running n caps s o y q l o s 0
running_starts n caps s o y q l h e =
    record { yard = opened n caps; steps = 0; few = omega arith; stands = record { world = h; counters = e }; end = zero-add _; bytes = refl }

pub running_standing : (n : ℕ) (caps : ℕ → ℕ) (s o₀ : List ℕ) (y : StoredState) (q l o rest : List ℕ) (pos : ℕ) → Running n caps s o₀ y q l o rest pos
    → length s < 999999999 → Standing max_issues y.world q l
running_standing n caps s o₀ y q l o rest pos r h =
    record { n = n; caps = caps; k = r.steps; world = r.yard.world; more = omega (arith, r.few); holds = r.stands.world }

-- the next line
module _ (n : ℕ) (caps : ℕ → ℕ) (s o₀ : List ℕ) (y : StoredState) (q l o rest : List ℕ) (pos : ℕ) (r : Running n caps s o₀ y q l o rest pos)
    (text behind : List ℕ) (e : split 10 rest ≡ text ∷ split 10 behind) where
  abbrev a : AfterLine
  a = line n r.yard (command text)

  left-more : left n rest r.yard ≡ a.printed ++ left n behind a.yard
  left-more = ap (lines n r.yard) e ∙ lines_more n r.yard text (split 10 behind) (split-some 10 behind)

  pub running_goes : (y' : StoredState) (pos' : ℕ) (q' l' o' : List ℕ) → Took n caps r.steps a pos o y' pos' q' l' o'
      → Running n caps s o₀ y' q' l' o' behind pos'
  running_goes y' pos' q' l' o' k =
      let others : List ℕ = left n behind a.yard in
      record {
        yard = a.yard;
        steps = r.steps + 1;
        few = omega (arith, r.few, parted-length rest text behind e);
        stands = k.stands;
        end = omega (arith, r.end, ap length left-more, length-append a.printed others, k.place);
        bytes = rw (k.bytes, k.place) (sym (put_append o pos a.printed others) ∙ ap (put o pos) (sym left-more) ∙ r.bytes);
      }

-- the test is turned round
cond-not : {A : Type 0} (b : Bool) (x y : A) → cond (not b) x y ≡ cond b y x
cond-not true x y = refl
cond-not false x y = refl

-- the end of the input
module _ (n : ℕ) (caps : ℕ → ℕ) (s o₀ : List ℕ) (y : StoredState) (q l o rest : List ℕ) (pos : ℕ) (r : Running n caps s o₀ y q l o rest pos)
    (e : split 10 rest ≡ rest ∷ []) where
  left-last : left n rest r.yard ≡ cond (not (eqb (length rest) 0)) (refusal_row 17) [] ++ total_row y.counters
  left-last =
      ap (lines n r.yard) e ∙ lines-last n r.yard rest
      ∙ ap (λ (x : List ℕ). x ++ total_row r.yard.counters) (sym (cond-not (eqb (length rest) 0) (refusal_row 17) []))
      ∙ ap (λ (x : Counters). cond (not (eqb (length rest) 0)) (refusal_row 17) [] ++ total_row x) (sym r.stands.counters)

  pub running_ends : (b : Bool) → b ≡ not (eqb (length rest) 0) → (m : ℕ) (o' : List ℕ)
      → Wrote (cond b (refusal_row 17) [] ++ total_row y.counters) pos o m o' → WroteWhole (left n s (opened n caps)) o₀ m o'
  running_ends b eb m o' w =
      let k : left n rest r.yard ≡ cond b (refusal_row 17) [] ++ total_row y.counters = rw eb left-last in
      (omega (arith, r.end, ap length k, w.0), w.1 ∙ ap (put o pos) (sym k) ∙ r.bytes)
