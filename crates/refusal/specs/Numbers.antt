-- The refusals by document 01's numbers, and those of the later requests.
use Rattle.std.specs.Prelude.{ℕ, Result, Ok, Err}
use Rattle.refusal.specs.declared.Refusal.{Refusal}
use Rattle.refusal.specs.declared.Refusal.TheVariants as refusal

-- a refusal is its number
abbrev pub number : Refusal → ℕ
number refusal.OutOfRange = 1
number refusal.BrokenRecord = 2
number refusal.TooShort = 3
number refusal.WrongQueue = 4
number refusal.CountedOut = 5
number refusal.Destination = 6
number refusal.LongBody = 7
number refusal.DamagedFrame = 8
number refusal.UnknownKind = 9
number refusal.OtherPlant = 10
number refusal.BadParts = 11
number refusal.OtherNode = 12
number refusal.NotIssued = 13
number refusal.Delivered = 14
number refusal.Held = 15
number refusal.QueueFull = 16
number refusal.Line = 17
number refusal.Load = 18
number refusal.Trail = 19
number refusal.Image = 20
number refusal.NoRight = 21

-- the number of what a check answers, 0 where it is not met
abbrev pub met : {A : Type 0} → Result A Refusal → ℕ
met (Ok a) = 0
met (Err why) = number why
