-- A record with one field changed: what each call leaves of the record that it was lent.
use Rattle.std.specs.Prelude.{ℕ, List}
use Rattle.node.specs.declared.Node.{Node as Record}

abbrev pub with_matrix : List ℕ → Record → Record
with_matrix m r = record { me = r.me; n = r.n; cap = r.cap; m = m; deliv = r.deliv; held = r.held }

abbrev pub with_vector : List ℕ → Record → Record
with_vector v r = record { me = r.me; n = r.n; cap = r.cap; m = r.m; deliv = v; held = r.held }

abbrev pub with_held : ℕ → Record → Record
with_held held r = record { me = r.me; n = r.n; cap = r.cap; m = r.m; deliv = r.deliv; held = held }
