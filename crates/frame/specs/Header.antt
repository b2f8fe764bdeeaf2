-- The first eight bytes of a frame.
use Rattle.std.specs.Prelude.{ℕ, ◌+◌, ◌*◌, cond, List, [], ◌∷◌, eqb, get_or}
use Rattle.matrix.specs.Message.{Kind, user, extra}
use Rattle.frame.specs.declared.header.Header.{Header}
use Rattle.frame.specs.declared.header.Kind.{Kind as NamedKind}
use Rattle.frame.specs.declared.header.Kind.TheVariants as named_kind

-- kind: 1 user, 2 extra
abbrev pub kind_byte : Kind → ℕ
kind_byte user = 1
kind_byte extra = 2

-- the kind that the code names
abbrev pub kind_named : NamedKind → Kind
kind_named named_kind.User = user
kind_named named_kind.Extra = extra

-- the kind that a byte reads as
abbrev pub kind_of : ℕ → Kind
kind_of b = cond (eqb b 1) user extra

-- offset 0: kind; 1, 2: from, to; 3: e, the entry count; 4: b, the body length; 5, 6: n, cap; 7: zero
unfoldable pub header : List ℕ → Header
header s =
    record {
      kind = get_or s 0 0;
      from = get_or s 1 0;
      to = get_or s 2 0;
      e = get_or s 3 0;
      b = get_or s 4 0;
      n = get_or s 5 0;
      cap = get_or s 6 0;
      reserved = get_or s 7 0;
    }

-- the eight bytes of a header
unfoldable pub header_bytes : Header → List ℕ
header_bytes h = h.kind ∷ h.from ∷ h.to ∷ h.e ∷ h.b ∷ h.n ∷ h.cap ∷ h.reserved ∷ []

-- a frame's length by its own e and b
unfoldable pub own_length : Header → ℕ
own_length h = 12 + 6 * h.e + h.b
