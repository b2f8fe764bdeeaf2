-- Offer of message m at node d: it is checked and held.
use Rattle.std.specs.Prelude.{suc, Bool, false, cond, not, ◌&&◌, ◌||◌, List, [], ◌∷◌, ◌++◌, eqb, leb, ltb, length}
use Rattle.wire.specs.Limits.{max_nodes}
use Rattle.matrix.specs.Message.{Message, number}
use Rattle.protocol.specs.Node.{Node, some_below, each_below}
use Rattle.protocol.specs.Answer.{taken, Outcome, refuse}

-- deliverable at d: for every x, the entry (x, me) is at most DELIV[x]
unfoldable pub deliverable : Node → Message → Bool
deliverable d m = each_below max_nodes (λ x. leb (m.entries x d.me) (d.deliv x))

-- refusal 12: to is not me
abbrev pub not_for_me : Node → Message → Bool
not_for_me d m = not (eqb m.to d.me)

-- refusal 13: an entry in row me exceeds M there
abbrev pub claims_too_much : Node → Message → Bool
claims_too_much d m = some_below max_nodes (λ y. ltb (d.matrix d.me y) (m.entries d.me y))

-- refusal 14: the number is at most DELIV[from]
abbrev pub delivered_before : Node → Message → Bool
delivered_before d m = leb (number m) (d.deliv m.from)

-- whether two messages have the same from and number
abbrev pub same_origin : Message → Message → Bool
same_origin g m = eqb g.from m.from && eqb (number g) (number m)

-- whether a message of the list has the same from and number as m
abbrev pub some_same_origin : List Message → Message → Bool
some_same_origin [] m = false
some_same_origin (g ∷ l) m = same_origin g m || some_same_origin l m

-- refusal 15: a held message has the same from and number
abbrev pub held_already : Node → Message → Bool
held_already d m = some_same_origin d.held m

-- refusal 16: 16 are held, or 15 are and this one is not deliverable now
abbrev pub no_room : Node → Message → Bool
no_room d m = eqb (length d.held) 16 || (eqb (length d.held) 15 && not (deliverable d m))

-- an offer that is not refused: the message is held, last
abbrev pub holding : Node → Message → Outcome
holding d m =
    record {
      answer = taken (suc (length d.held)) (deliverable d m);
      node = record { me = d.me; n = d.n; cap = d.cap; matrix = d.matrix; deliv = d.deliv; held = d.held ++ (m ∷ []) };
    }

-- offer, checks in rising order
unfoldable pub offer : Node → Message → Outcome
offer d m =
    cond (not_for_me d m) (refuse 12 d)
    (cond (claims_too_much d m) (refuse 13 d)
    (cond (delivered_before d m) (refuse 14 d)
    (cond (held_already d m) (refuse 15 d)
    (cond (no_room d m) (refuse 16 d)
    (holding d m)))))
