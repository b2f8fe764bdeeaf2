-- A message and its frame: header, entries, body, trailer.
use Rattle.std.specs.Prelude.{ℕ, ◌+◌, ◌*◌, List, ◌++◌, length, take, drop}
use Rattle.wire.specs.Trailer.{sealed}
use Rattle.matrix.specs.Message.{Message}
use Rattle.frame.specs.declared.header.Header.{Header}
use Rattle.frame.specs.Header.{kind_byte, kind_of, header, header_bytes}
use Rattle.frame.specs.Entries.{entries_bytes, entries_from, entries_of, matrix_of}

-- the header of a message
unfoldable pub header_of : Message → Header
header_of m =
    record {
      kind = kind_byte m.kind;
      from = m.from;
      to = m.to;
      e = length (entries_of m.entries);
      b = length m.body;
      n = m.n;
      cap = m.cap;
      reserved = 0;
    }

-- the bytes in front of the trailer
unfoldable pub front : Message → List ℕ
front m = header_bytes (header_of m) ++ (entries_bytes (entries_of m.entries) ++ m.body)

-- the frame of a message
unfoldable pub encode : Message → List ℕ
encode m = sealed (front m)

-- the message that a frame reads as
unfoldable pub decode : List ℕ → Message
decode s =
    record {
      kind = kind_of (header s).kind;
      from = (header s).from;
      to = (header s).to;
      n = (header s).n;
      cap = (header s).cap;
      entries = matrix_of (entries_from s 0 (header s).e);
      body = take (header s).b (drop (8 + 6 * (header s).e) s);
    }
