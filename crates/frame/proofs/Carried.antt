-- What a frame that meets none of 8 to 11 reads as: addresses below n, and entries that keep the rules of a matrix. Assumes nothing.
use Prim.Native.Nat.{◌<◌, ◌≤◌, ℕ}
use mathlib.Core.List.{List}
use mathlib.Core.Path.{◌≡◌, refl}
use native.Mathlib.Decide.{ℕ_discrete}
use native.Mathlib.Omega.{arith}
use Rattle.frame.proofs.Lookup.{look_each}
use Rattle.frame.proofs.Passed.{EntryKept, Kept, passes_kept}
use Rattle.frame.proofs.Rising.{each-kept}
use Rattle.frame.specs.Entries.{entries_from, matrix_of}
use Rattle.frame.specs.Frame.{decode}
use Rattle.frame.specs.Header.{header}
use Rattle.frame.specs.Refusals.{frame_refusal}
use Rattle.frame.specs.declared.entries.Entry.{Entry}
use Rattle.frame.specs.declared.header.Header.{Header}
use Rattle.matrix.proofs.Columns.{MatrixRules}
use Rattle.matrix.specs.Message.{Message}
use Rattle.wire.specs.Limits.{max_count}

-- the message of such a frame
pub record Carried (n : ℕ) (m : Message) : Type 0 where
  pub from : m.from < n
  pub apart : m.from ≡ m.to → ⊥
  pub rules : MatrixRules n m.from m.entries
  pub limit : (x y : ℕ) → m.entries x y ≤ max_count

module _ (n : ℕ) (s : List ℕ) (e : frame_refusal n s ≡ 0) where
  abbrev h : Header
  h = header s

  abbrev l : List Entry
  l = entries_from s 0 h.e

  k : Kept n s (header s) (entries_from s 0 (header s).e)
  k = passes_kept n s e

  -- an entry that is not zero keeps the rules of an entry
  entry : (x y : ℕ) → (matrix_of l x y ≡ 0 → ⊥) → EntryKept n h (record { row = x; column = y; value = matrix_of l x y })
  entry x y q = look_each (EntryKept n h) l (each-kept n h l k.each) x y q

  -- so one that breaks a rule is zero
  zero : (x y : ℕ) → (EntryKept n h (record { row = x; column = y; value = matrix_of l x y }) → ⊥) → matrix_of l x y ≡ 0
  zero x y q = go (ℕ_discrete (matrix_of l x y) 0)
    where
      go : Dec (matrix_of l x y ≡ 0) → matrix_of l x y ≡ 0
      go (yes z) = z
      go (no z) = absurd (q (entry x y z))

  most : (x y : ℕ) → matrix_of l x y ≤ max_count
  most x y = go (ℕ_discrete (matrix_of l x y) 0)
    where
      go : Dec (matrix_of l x y ≡ 0) → matrix_of l x y ≤ max_count
      go (yes z) = omega arith
      go (no z) = (entry x y z).most

  pub carried : Carried n (decode s)
  unfolding decode
  carried = record {
    from = k.from;
    apart = k.apart;
    rules = record {
      rows = λ x y q. zero x y (λ a. omega (arith, a.row));
      columns = λ x y q. zero x y (λ a. omega (arith, a.column));
      diagonal = λ x. zero x x (λ a. a.apart refl);
      own = λ x. zero x h.from (λ a. a.not_from refl);
    };
    limit = most;
  }
