-- What the source's answers of a step tell: a refusal by its number, and otherwise the values that the answer has.
use Rattle.std.specs.Prelude.{Result, Ok, Err}
use Rattle.refusal.specs.Numbers.{number}
use Rattle.refusal.specs.declared.Refusal.{Refusal}
use Rattle.world.specs.Outcome.{Outcome}
use Rattle.world.specs.Outcome as outcome
use Rattle.world.specs.declared.Outcome.{Outcome as Made}
use Rattle.world.specs.declared.Outcome.TheVariants as made

-- of a step that is not refused
abbrev pub made_told : Made → Outcome
made_told (made.Sent extras) = outcome.Sent extras
made_told (made.Held count ready) = outcome.Held count ready
made_told (made.Nothing tried) = outcome.Nothing tried
made_told (made.Delivered issue tried extras) = outcome.Delivered issue tried extras

-- of any step
abbrev pub told : Result Made Refusal → Outcome
told (Ok o) = made_told o
told (Err why) = outcome.Refused (number why)
