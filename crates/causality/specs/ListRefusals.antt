-- Which refusals the calls of a list can meet: those of an input that a caller chose (3, 6, 7, 21), and those of a frame that comes amiss (12, 14, 15, 16).
use Rattle.std.specs.Prelude.{ℕ, ◌<◌, List, [], ◌∷◌, ◌⊎◌, ◌≡◌, length}
use Rattle.std.proofs.Math.Option.{some}
use Rattle.std.proofs.Math.ListN.{get_elem?}
use Rattle.matrix.specs.Message.{EachInRange}
use Rattle.causality.specs.Demand3.{Step, BodiesOfBytes, Answer, sent, offered, delivered, refusal, Event, World, start, run}

-- k is one of a list of numbers
abbrev pub OneOf : ℕ → List ℕ → Type 0
OneOf k [] = ⊥
OneOf k (j ∷ l) = (k ≡ j) ⊎ OneOf k l

-- with what a send, an offer and a deliver may be refused
abbrev pub possible : Answer → List ℕ
possible (sent a) = 3 ∷ 6 ∷ 7 ∷ 21 ∷ []
possible (offered a) = 12 ∷ 14 ∷ 15 ∷ 16 ∷ []
possible (delivered a) = 3 ∷ []

-- an answer that is no refusal (0), or one of these
abbrev pub Expected : Answer → Type 0
Expected a = OneOf (refusal a) (0 ∷ possible a)

-- what no call is refused with
abbrev pub impossible : List ℕ
impossible = 2 ∷ 4 ∷ 5 ∷ 8 ∷ 9 ∷ 10 ∷ 11 ∷ 13 ∷ []

-- only: each answer of the history is no refusal, or one that its call may give; never: none is of those that no call gives
pub record ListRefusalsFor (w : World) : Type 0 where
  pub only : (t : ℕ) (e : Event) → get_elem? w.history t ≡ some e → Expected e.answer
  pub never : (t : ℕ) (e : Event) → get_elem? w.history t ≡ some e → ¬ OneOf (refusal e.answer) impossible

-- for the lists of demand 3
abbrev pub ListRefusals : Type 0
ListRefusals = (n : ℕ) (caps : ℕ → ℕ) → EachInRange n caps → (steps : List Step) → BodiesOfBytes steps → length steps < 1000000000
    → ListRefusalsFor (run n (start n caps) steps)
