-- Every output of the yard is `R 17` alone, or ends with the T line of a state that demand 3 speaks of. Assumes nothing.
use Prim.Native.Nat.{ℕ, ◌<◌, ◌≤◌}
use Rattle.std.specs.Prelude.{None, Option, Some}
use mathlib.Core.Bool.{Bool, true, false, cond}
use mathlib.Core.List.{List, [], ◌∷◌, ◌++◌, append_assoc}
use mathlib.Core.Logic.{◌⊎◌, inl, inr}
use mathlib.Core.Path.{◌≡◌, ◌∙◌, ap, refl, sym}
use native.Mathlib.Decide.{dec_lt}
use native.Mathlib.Omega.{arith}
use lib.Dec.{eqb}
use lib.ListN.{length, length-append}
use Rattle.text.proofs.Pieces.{split-few}
use Rattle.text.specs.Pieces.{split}
use Rattle.text.specs.Print.{refusal_row}
use Rattle.commands.specs.Commands.{command}
use Rattle.commands.specs.FirstLine.{first_line, given}
use Rattle.commands.specs.declared.Sizes.{Sizes}
use Rattle.world.specs.Start.{cap_of, startable}
use Rattle.counting.specs.State.{State, opened}
use Rattle.simulation.specs.EveryYard.{EveryOutput, Totalled, after_lines}
use Rattle.simulation.specs.Yard.{AfterLine, alone, line, lines, max_input, of_lines, output, started, total_row}
use Rattle.simulation.proofs.EveryYard.{every_yard}
use Rattle.simulation.proofs.Lines.{lines-last, lines_more}
use Rattle.simulation.proofs.Runs.{lines-alone, lines-first, output-lines, output_long, started_no, started-none, started_yes}

-- the last piece apart
last_apart : (p : List ℕ) (ps : List (List ℕ)) → (ls : List (List ℕ)) × (l : List ℕ) × (p ∷ ps ≡ ls ++ (l ∷ []))
last_apart p [] = ([], p, refl)
last_apart p (q ∷ ps) = let r = last_apart q ps in (p ∷ r.0, r.1, ap (λ (x : List (List ℕ)). p ∷ x) r.2)

-- the T line is that of the state after all lines
ends : (n : ℕ) (y : State) (ls : List (List ℕ)) (l : List ℕ) → (rows : List ℕ) × (lines n y (ls ++ (l ∷ [])) ≡ rows ++ total_row (after_lines n y ls).counters)
ends n y [] l = (cond (eqb (length l) 0) [] (refusal_row 17), lines-last n y l)
ends n y (m ∷ ls) l =
    let a : AfterLine = line n y (command m) in
    let r = ends n a.yard ls l in (
      a.printed ++ r.0,
      lines_more n y m (ls ++ (l ∷ [])) (omega (arith, length-append ls (l ∷ []))) ∙ ap (λ (x : List ℕ). a.printed ++ x) r.1
          ∙ sym (append_assoc a.printed r.0 (total_row (after_lines n a.yard ls).counters)),
    )

module _ (s : List ℕ) (h : length s ≤ max_input) (l p : List ℕ) (ps : List (List ℕ)) (e : split 10 s ≡ l ∷ p ∷ ps) where
  -- what the lines behind the first one print
  by_first : (f : Option Sizes) → first_line l ≡ f → output s ≡ started f (p ∷ ps)
  by_first f g = output-lines s h ∙ ap of_lines e ∙ lines-first l (p ∷ ps) (omega arith) ∙ ap (λ (x : Option Sizes). started x (p ∷ ps)) g

  totalled : (n : ℕ) (caps : List ℕ) → first_line l ≡ given n caps → startable n caps ≡ true → Totalled s
  totalled n caps g start =
      let a = last_apart p ps in
      let t = ends n (opened n (cap_of caps)) a.0 a.1 in
      record {
        first = l;
        lines = a.0;
        behind = a.1;
        pieces = e ∙ ap (λ (x : List (List ℕ)). l ∷ x) a.2;
        n = n;
        caps = caps;
        sizes = g;
        rows = t.0;
        printed = by_first (given n caps) g ∙ started_yes (record { n = n; caps = caps }) (p ∷ ps) start ∙ ap (lines n (opened n (cap_of caps))) a.2 ∙ t.1;
        of_list = every_yard n caps start a.0
            (omega (arith, split-few 10 s, ap length e, ap length a.2, length-append a.0 (a.1 ∷ [])));
      }

  by-start : (n : ℕ) (caps : List ℕ) → first_line l ≡ given n caps → (b : Bool) → startable n caps ≡ b → (output s ≡ alone) ⊎ Totalled s
  by-start n caps g true start = inr (totalled n caps g start)
  by-start n caps g false start = inl (by_first (given n caps) g ∙ started_no (record { n = n; caps = caps }) (p ∷ ps) start)

  by_sizes : (k : Option Sizes) → first_line l ≡ k → (output s ≡ alone) ⊎ Totalled s
  by_sizes (Some z) g = by-start z.n z.caps g (startable z.n z.caps) refl
  by_sizes None g = inl (by_first None g ∙ started-none (p ∷ ps))

by-pieces : (s : List ℕ) → length s ≤ max_input → (ps : List (List ℕ)) → split 10 s ≡ ps → (output s ≡ alone) ⊎ Totalled s
unfolding of_lines
by-pieces s h [] e = inl (output-lines s h ∙ ap of_lines e)
by-pieces s h (l ∷ []) e = inl (output-lines s h ∙ ap of_lines e ∙ lines-alone l)
by-pieces s h (l ∷ p ∷ ps) e = by_sizes s h l p ps e (first_line l) refl

pub every_output : EveryOutput
every_output s = go (dec_lt max_input (length s))
  where
    go : Dec (max_input < length s) → (output s ≡ alone) ⊎ Totalled s
    go (yes h) = inl (output_long s h)
    go (no h) = by-pieces s (omega (arith, h)) (split 10 s) refl
