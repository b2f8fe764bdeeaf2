-- What taking in a sound frame leaves: of an extra one nothing is learned, of a user one by merge and trim.
use Rattle.std.specs.Prelude.{ℕ, List, [], ◌≡◌, length}
use Rattle.wire.specs.Bytes.{put}
use Rattle.matrix.specs.Array.{flat}
use Rattle.matrix.specs.Message.{number}
use Rattle.frame.specs.Header.{kind_byte}
use Rattle.frame.specs.Frame.{decode}
use Rattle.frame.specs.Frames.{frames_of}
use Rattle.protocol.specs.Deliver.{learn}
use Rattle.protocol.specs.Trim.{Trimmed}
use Rattle.node.specs.Delivered.{Delivered}
use Rattle.node.specs.Record.{node_of}
use Rattle.node.specs.declared.Node.{Node as Record}

-- the record has the trimmed matrix, and the extra frames are written from the front of the output on
pub record Learned (t : Trimmed) (r r₁ : Record) (out out₁ : List ℕ) (bytes extras : ℕ) : Type 0 where
  pub node : r₁ ≡ record r { m = flat t.matrix }
  pub frames : out₁ ≡ put out 0 (frames_of t.extras)
  pub size : bytes ≡ length (frames_of t.extras)
  pub many : extras ≡ length t.extras

-- what the protocol learns of the frame s at a node with this record
abbrev pub learned : Record → List ℕ → Trimmed
learned r s = learn (decode s).kind (node_of r []) (decode s).entries

-- what its delivery tells, found as the frame of this count
abbrev pub told_of : Record → List ℕ → (tried : ℕ) → Delivered
told_of r s tried =
    record {
      kind = kind_byte (decode s).kind;
      from = (decode s).from;
      number = number (decode s);
      tried = tried;
      body = length (decode s).body;
      bytes = length (frames_of (learned r s).extras);
      extras = length (learned r s).extras;
    }

-- all that is left: what is told, the record, the frame output and the body output
pub record TakenIn (r : Record) (s : List ℕ) (tried : ℕ) (out body : List ℕ) (d : Delivered) (r₁ : Record) (out₁ body₁ : List ℕ) : Type 0 where
  pub told : d ≡ told_of r s tried
  pub node : r₁ ≡ record r { m = flat (learned r s).matrix }
  pub frames : out₁ ≡ put out 0 (frames_of (learned r s).extras)
  pub text : body₁ ≡ put body 0 (decode s).body
