-- Why a run of bytes is no frame among n nodes: document 01's refusals 8 to 11, each a predicate of its own.
-- A frame has its sender's cap, whatever the receiver's (document 02, (x)).
use Rattle.std.specs.Prelude.{ℕ, ◌+◌, ◌*◌, Bool, true, not, cond, ◌&&◌, ◌||◌, List, [], ◌∷◌, leb, ltb, eqb, length}
use Rattle.wire.specs.Limits.{max_body, max_frame, max_count}
use Rattle.wire.specs.Trailer.{count_back, has_trailer}
use Rattle.frame.specs.declared.header.Header.{Header}
use Rattle.frame.specs.declared.entries.Entry.{Entry}
use Rattle.frame.specs.Header.{header}
use Rattle.frame.specs.Entries.{entries_from}

-- 8. The frame's length is not 12 to 802, or either trailer field is wrong.
unfoldable pub wrong_trailer : List ℕ → Bool
wrong_trailer s = ltb (length s) 12 || ltb max_frame (length s) || not (has_trailer s)

-- 9. Kind is not 1 or 2, or byte 7 is not zero.
unfoldable pub wrong_kind : Header → Bool
wrong_kind h = not (eqb h.kind 1 || eqb h.kind 2) || not (eqb h.reserved 0)

-- the rule of cap: n to n × n
abbrev pub wrong_cap : ℕ → Header → Bool
wrong_cap n h = ltb h.cap n || ltb (n * n) h.cap

-- 10. The frame's n is not the record's, its cap breaks its rule, from or to is not below n, or they are equal.
unfoldable pub wrong_address : ℕ → Header → Bool
wrong_address n h =
    not (eqb h.n n) || wrong_cap n h || not (ltb h.from n) || not (ltb h.to n) || eqb h.from h.to

-- the rule of b: 0 to 64, in an extra 0
unfoldable pub wrong_body : Header → Bool
wrong_body h = ltb max_body h.b || eqb h.kind 2 && not (eqb h.b 0)

-- the rules of an entry: row and column below n and unequal, column ≠ from, value 1 to 1,000,000,000; in an extra the column is to
unfoldable pub entry_ok : ℕ → Header → Entry → Bool
entry_ok n h a =
    ltb a.row n && ltb a.column n && not (eqb a.row a.column) && not (eqb a.column h.from) && leb 1 a.value && leb a.value max_count
    && (not (eqb h.kind 2) || eqb a.column h.to)

-- each entry keeps them
unfoldable pub each_ok : ℕ → Header → List Entry → Bool
each_ok n h [] = true
each_ok n h (a ∷ l) = entry_ok n h a && each_ok n h l

-- by row then column, a stands in front of b
unfoldable pub precedes : Entry → Entry → Bool
precedes a b = ltb a.row b.row || eqb a.row b.row && ltb a.column b.column

-- strictly rising by row then column, behind the entry a
unfoldable pub rising_after : Entry → List Entry → Bool
rising_after a [] = true
rising_after a (b ∷ l) = precedes a b && rising_after b l

-- strictly rising by row then column
unfoldable pub rising : List Entry → Bool
rising [] = true
rising (a ∷ l) = rising_after a l

-- an entry breaks a rule
unfoldable pub wrong_entries : ℕ → Header → List Entry → Bool
wrong_entries n h l = not (each_ok n h l && rising l)

-- 11. 8 + 6 × e + b is not the count pointed back, b breaks its rule, e exceeds the frame's cap, or an entry breaks a rule.
unfoldable pub wrong_content : ℕ → List ℕ → Bool
wrong_content n s =
    let h : Header = header s in
    not (eqb (8 + 6 * h.e + h.b) (count_back s)) || wrong_body h || ltb h.cap h.e || wrong_entries n h (entries_from s 0 h.e)

-- the number of the first of these that is met, and 0 where none is
unfoldable pub frame_refusal : ℕ → List ℕ → ℕ
frame_refusal n s =
    cond (wrong_trailer s) 8 (cond (wrong_kind (header s)) 9 (cond (wrong_address n (header s)) 10 (cond (wrong_content n s) 11 0)))
