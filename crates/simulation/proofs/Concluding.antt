-- A step that is stored, printed and counted is the definition's line. Assumes nothing.
use Prim.Native.Nat.{ℕ, ◌+◌, ◌-◌, ◌*◌, ◌≤◌, ◌<◌}
use Rattle.std.specs.Prelude.{None, Option, Some}
use mathlib.Core.List.{List, map-append}
use mathlib.Core.Path.{◌≡◌, refl, sym, ap, ap₂, ◌∙◌, subst}
use native.Mathlib.Omega.{arith}
use lib.ListN.{length, take, drop, length-append, length-map}
use lib.Seq.{take_at}
use Rattle.commands.specs.declared.Command.{Command}
use Rattle.commands.specs.declared.Command.TheVariants as command
use Rattle.causality.specs.Demand3.{Issue, World}
use Rattle.world.proofs.Keeping.{holds_later}
use Rattle.world.specs.Outcome.{Outcome}
use Rattle.world.specs.Steps.{AfterStep, frames}
use Rattle.world.specs.Stored.{Holds, joined}
use Rattle.world.specs.declared.World.{World as Stored}
use Rattle.text.specs.Print.{refusal_row}
use Rattle.text.specs.Wrote.{Wrote}
use Rattle.text.proofs.Print.{shown}
use Rattle.counting.specs.Stands.{Stands}
use Rattle.counting.specs.State.{State, counted_by}
use Rattle.counting.specs.declared.State.{State as StoredState}
use Rattle.simulation.specs.Asked.{InLog, Logged, Small}
use Rattle.simulation.specs.Commanded.{printed_with, step_of}
use Rattle.simulation.specs.Stands.{Took}
use Rattle.simulation.specs.Yard.{after_step, issue_rows, line, max_issues, new_rows, printed_by}
use Rattle.simulation.specs.declared.print.Issues.{Issues}
use Rattle.simulation.proofs.Facts.{StepFacts, step-facts}

-- the outcome and the world of a step are stored
abbrev pub Stepped : (n : ℕ) (caps : ℕ → ℕ) (k : ℕ) (a : AfterStep) (o : Outcome) (s : Stored) (q l : List ℕ) → Type 0
Stepped n caps k a o s q l = (o ≡ a.outcome) × Holds n caps max_issues (k + 1) a.world s q l

-- the frames issued by a step between two stored worlds
abbrev pub issued_between : Stored → Stored → Issues
issued_between w s = record { from = w.issued; to = s.issued; place = w.end }

module _ (n : ℕ) (caps : ℕ → ℕ) (k : ℕ) (v : World) (w : Stored) (q l : List ℕ) (h : Holds n caps max_issues k v w q l) (x : ℕ) (a : AfterStep) (f : StepFacts x v a)
    (o : Outcome) (s : Stored) (q' l' : List ℕ) (told : Stepped n caps k a o s q' l') where
  abbrev g : List (List ℕ)
  g = frames a.world.log

  -- the frames before the step are the first of those after it
  seam : take w.issued g ≡ frames v.log
  seam =
      ap (λ (y : List Issue). take w.issued (frames y)) f.grown.1
      ∙ ap (take w.issued) (map-append (λ (i : Issue). i.frame) v.log f.grown.0)
      ∙ take_at (frames v.log) (frames f.grown.0) w.issued (length-map v.log (λ (i : Issue). i.frame) ∙ sym h.issued)

  ends : w.end ≡ length (joined (take w.issued g))
  ends = h.end ∙ ap (λ (y : List (List ℕ)). length (joined y)) (sym seam)

  whole : length g ≡ s.issued
  whole = length-map a.world.log (λ (i : Issue). i.frame) ∙ sym told.1.issued

  pub grows : w.issued ≤ s.issued
  grows = omega (arith, h.issued, told.1.issued, ap length f.grown.1, length-append v.log f.grown.0)

  in_log : InLog (issued_between w s) l' g
  in_log = record { begins = told.1.begins; whole = whole; ends = ends }

  -- what is asked for the printing of the step
  pub record Printable (at : ℕ) (out : List ℕ) : Type 0 where
    pub small : Small x o
    pub logged : Logged (issued_between w s) l'
    pub room : at + 20 + 17 * (s.issued - w.issued) ≤ length out
    pub grown : w.issued ≤ s.issued

  pub printable : (at : ℕ) (out : List ℕ) → at + 20 + 17 * (max_issues - w.issued) ≤ length out → Printable at out
  printable at out r = record {
    small = subst (Small x) (sym told.0) f.small;
    logged = record { frames = g; log = in_log; order = grows; few = omega (arith, told.1.issued, told.1.below) };
    room = omega (arith, told.1.issued, told.1.below);
    grown = grows;
  }

  -- what the outcome prints is what the definition prints
  printed-told : (at end : ℕ) (out out' : List ℕ)
      → ((g : List (List ℕ)) → InLog (issued_between w s) l' g
      → Wrote (printed_by x (issue_rows (w.issued + 1) (drop w.issued g)) o) at out end out')
      → Wrote (printed_by x (new_rows v a.world) a.outcome) at out end out'
  printed-told at end out out' p =
      let d = p g in_log in
      shown _ _ at end out out' (sym (ap₂ (λ (i : ℕ) (y : Outcome). printed_by x (issue_rows (i + 1) (drop i g)) y) h.issued told.0)) d.0 d.1

-- a line with a command is the command's step
line-is : (n : ℕ) (z : State) (c : Command) → line n z (Some c) ≡ after_step z (printed_with c) (step_of n z.world c)
unfolding line
line-is n z (command.Send i j) = refl
line-is n z (command.Offer m) = refl
line-is n z (command.Deliver j) = refl

-- what the definition's line is of the stored yard y, for a text whose command is c
pub took_step : (n : ℕ) (caps : ℕ → ℕ) (k : ℕ) (z : State) (y : StoredState) (q l : List ℕ) → Stands n caps max_issues k z y q l
    → (d : Option Command) (c : Command) → d ≡ Some c → printed_with c < 1000 → (x : ℕ) → x ≡ printed_with c
    → (o : Outcome) (s : Stored) (q' l' : List ℕ) → Stepped n caps k (step_of n z.world c) o s q' l' → (y' : StoredState) → y'.world ≡ s
    → y'.counters ≡ counted_by y.counters o → (at end : ℕ) (out out' : List ℕ)
    → ((g : List (List ℕ)) → InLog (issued_between y.world s) l' g
    → Wrote (printed_by x (issue_rows (y.world.issued + 1) (drop y.world.issued g)) o) at out end out')
    → Took n caps k (line n z d) at out y' end q' l' out'
took_step n caps k z y q l st d c ed b x ex o s q' l' told y' ew ec at end out out' p =
    let a : AfterStep = step_of n z.world c in
    let f : StepFacts (printed_with c) z.world a = step-facts z.world n c (omega (arith, st.world.below)) b in
    let w = printed-told n caps k z.world y.world q l st.world (printed_with c) a f o s q' l' told at end out out'
    (λ g i. subst (λ (m : ℕ). Wrote (printed_by m (issue_rows (y.world.issued + 1) (drop y.world.issued g)) o) at out end out') ex (p g i)) in
    subst (λ (r : _). Took n caps k r at out y' end q' l' out') (sym (ap (line n z) ed ∙ line-is n z c))
    (record {
      stands = record {
        world = subst (λ (r : Stored). Holds n caps max_issues (k + 1) a.world r q' l') (sym ew) told.1;
        counters = ec ∙ ap₂ counted_by st.counters told.0;
      };
      place = w.0;
      bytes = w.1;
    })

-- a line without a command: nothing but the refusal is printed
pub took_none : (n : ℕ) (caps : ℕ → ℕ) (k : ℕ) (z : State) (y : StoredState) (q l : List ℕ) → Stands n caps max_issues k z y q l
    → (d : Option Command) → d ≡ None → (at end : ℕ) (out out' : List ℕ) → Wrote (refusal_row 17) at out end out'
    → Took n caps k (line n z d) at out y end q l out'
unfolding line
took_none n caps k z y q l s d e at end out out' p =
    rw e
    (record {
      stands = record { world = holds_later n caps max_issues k z.world y.world q l s.world; counters = s.counters };
      place = p.0;
      bytes = p.1;
    })
