-- No refusal has the number 0, which says that nothing is met; so an answer is an error where its number is another.
use Rattle.std.proofs.Common.{◌≤◌, ◌≡◌, Result, Ok, Err, eqb, is_err, lit≤, arith, not, refl}
use borrow.Author.Tests.{ne_eqb}
use Rattle.refusal.specs.declared.Refusal.{Refusal}
use Rattle.refusal.specs.declared.Refusal.TheVariants as refusal
use Rattle.refusal.specs.Numbers.{met, number}

-- a number is at least 1
pub number-least : (why : Refusal) → 1 ≤ number why
number-least refusal.OutOfRange = lit≤ tt
number-least refusal.BrokenRecord = lit≤ tt
number-least refusal.TooShort = lit≤ tt
number-least refusal.WrongQueue = lit≤ tt
number-least refusal.CountedOut = lit≤ tt
number-least refusal.Destination = lit≤ tt
number-least refusal.LongBody = lit≤ tt
number-least refusal.DamagedFrame = lit≤ tt
number-least refusal.UnknownKind = lit≤ tt
number-least refusal.OtherPlant = lit≤ tt
number-least refusal.BadParts = lit≤ tt
number-least refusal.OtherNode = lit≤ tt
number-least refusal.NotIssued = lit≤ tt
number-least refusal.Delivered = lit≤ tt
number-least refusal.Held = lit≤ tt
number-least refusal.QueueFull = lit≤ tt
number-least refusal.Line = lit≤ tt
number-least refusal.Load = lit≤ tt
number-least refusal.Trail = lit≤ tt
number-least refusal.Image = lit≤ tt
number-least refusal.NoRight = lit≤ tt

-- so it is not 0
pub number-none : (why : Refusal) → number why ≡ 0 → ⊥
number-none why e = omega (arith, number-least why)

-- a check's answer is an error where its number is not 0
pub met-err : {A : Type 0} (r : Result A Refusal) → is_err r ≡ not (eqb (met r) 0)
met-err (Ok a) = refl
met-err (Err why) = rw (ne_eqb (number why) 0 (number-none why))
