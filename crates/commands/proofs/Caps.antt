-- The caps of a first line, one piece after the other. Assumes nothing.
use Prim.Native.Nat.{◌+◌, ◌-◌, ◌<◌, ◌≤◌, suc, ℕ}
use Rattle.std.specs.Prelude.{None, Option, Some}
use Rattle.std.specs.List.{onto_first, slice_split}
use Rattle.std.proofs.lemmas.Iterator.{YieldsList}
use denote.Ref.{Bor}
use mathlib.Core.Bool.{cond}
use mathlib.Core.List.{List, [], ◌∷◌, ◌++◌, append_assoc, append-nil}
use mathlib.Core.Path.{◌∙◌, ◌≡◌, ap, refl, subst, sym}
use native.Mathlib.Omega.{arith}
use borrow.Author.Tests.{le-leb, lt-leb}
use lib.Dec.{eqb}
use lib.ListN.{length, length-append, replicate, set}
use lib.Seq.{set-append_seam}
use Rattle.text.specs.Fields.{value}
use Rattle.text.specs.Pieces.{grown, split}
use Rattle.commands.specs.FirstLine.{counted, first_line, max_caps, numbers, of_pieces, padded, sizes, with_number}

-- the pieces are those that a slice is split into
grown_is : (b : ℕ) (ps : List (List ℕ)) → grown b ps ≡ onto_first b ps
unfolding grown
grown_is b [] = refl
grown_is b (p ∷ ps) = refl

pub split_is : (c : ℕ) (s : List ℕ) → slice_split (λ (b : ℕ). eqb b c) s ≡ split c s
unfolding split
split_is c [] = refl
split_is c (b ∷ s) = rw (split_is c s) (ap (cond (eqb b c) ([] ∷ split c s)) (sym (grown_is b (split c s))))

-- numbers in front of others, where these are numbers
unfoldable pub with_numbers : List ℕ → Option (List ℕ) → Option (List ℕ)
with_numbers vs (Some ws) = Some (vs ++ ws)
with_numbers vs None = None

with_nil : (o : Option (List ℕ)) → with_numbers [] o ≡ o
unfolding with_numbers
with_nil (Some ws) = refl
with_nil None = refl

with_more : (vs : List ℕ) (v : ℕ) (o : Option (List ℕ)) → with_numbers vs (with_number (Some v) o) ≡ with_numbers (vs ++ (v ∷ [])) o
unfolding with_numbers with_number
with_more vs v (Some ws) = rw (append_assoc vs (v ∷ []) ws)
with_more vs v None = refl

-- the next cap is stored behind those that were found
padded-more : (vs : List ℕ) (v : ℕ) → length vs < max_caps → set (padded vs) (length vs) v ≡ padded (vs ++ (v ∷ []))
unfolding padded
padded-more vs v h =
    let zeros : List ℕ = replicate (max_caps - length (vs ++ (v ∷ []))) 0 in
    let more : max_caps - length vs ≡ suc (max_caps - length (vs ++ (v ∷ []))) = omega (arith, length-append vs (v ∷ [])) in
    rw more (set-append_seam vs 0 zeros v ∙ sym (append_assoc vs (v ∷ []) zeros))

-- as many caps as are taken and a number more are too many
sizes-long : (n m : Option ℕ) (vs : List ℕ) (o : Option (List ℕ)) → max_caps ≤ length vs → None ≡ sizes n (with_numbers vs (with_number m o))
unfolding sizes with_numbers with_number
sizes-long n (Some v) vs (Some ws) h = rw (lt-leb (length (vs ++ (v ∷ ws))) max_caps (omega (arith, length-append vs (v ∷ ws))))
sizes-long n (Some v) vs None h = refl
sizes-long n None vs o h = refl

-- where the reading of caps stands: those that were read, and the pieces that the iterator still gives
pub record Found {S : Type 0} (steps : S → Option (Bor (List ℕ)) → S → Type 0) (s : List ℕ) (n : Option ℕ) (caps : List ℕ) (count : ℕ) (it : S) : Type 0 where
  pub done : List ℕ
  pub rest : List (List ℕ)
  pub many : count ≡ length done
  pub few : count ≤ max_caps
  pub stored : caps ≡ padded done
  pub says : first_line s ≡ sizes n (with_numbers done (numbers rest))
  pub gives : YieldsList steps (λ x. x.now) it rest

module _ {S : Type 0} (steps : S → Option (Bor (List ℕ)) → S → Type 0) (s : List ℕ) where
  -- behind the piece of n there is no cap yet
  pub found_none : (i j : S) (p : Bor (List ℕ)) → YieldsList steps (λ x. x.now) i (slice_split (λ (b : ℕ). eqb b 32) s) → steps i (Some p) j
      → Found steps s (value 3 p.now) (replicate max_caps 0) 0 j
  unfolding first_line of_pieces padded
  found_none i j p y k = go (split 32 s) refl (subst (YieldsList steps (λ x. x.now) i) (split_is 32 s) y)
    where
      go : (ps : List (List ℕ)) → split 32 s ≡ ps → YieldsList steps (λ x. x.now) i ps → Found steps s (value 3 p.now) (replicate max_caps 0) 0 j
      go [] e w = absurd (w.runs p j k)
      go (q ∷ ps) e w =
          let m = w.runs.1 p j k in record {
            done = [];
            rest = ps;
            many = refl;
            few = omega arith;
            stored = refl;
            says = rw (e, with_nil (numbers ps)) (ap (λ (x : List ℕ). sizes (value 3 x) (numbers ps)) (sym m.0));
            gives = record { runs = m.1 };
          }

  module _ (n : Option ℕ) (caps : List ℕ) (count : ℕ) (i j : S) (f : Found steps s n caps count i) where
    -- behind the last piece the caps are counted
    pub found_all : steps i None j → counted n count caps ≡ first_line s
    unfolding sizes numbers with_numbers
    found_all k = go f.rest refl f.gives
      where
        go : (ps : List (List ℕ)) → f.rest ≡ ps → YieldsList steps (λ x. x.now) i ps → counted n count caps ≡ first_line s
        go [] e w = rw (f.says, e, append-nil f.done, le-leb (length f.done) max_caps (omega (arith, f.many, f.few)), f.many, f.stored)
        go (q ∷ ps) e w = absurd (w.runs.0 j k)

    module _ (p : Bor (List ℕ)) (k : steps i (Some p) j) where
      -- what a piece more says
      next : (ps : List (List ℕ)) × (numbers f.rest ≡ with_number (value 3 p.now) (numbers ps)) × YieldsList steps (λ x. x.now) j ps
      unfolding numbers
      next = go f.rest f.gives
        where
          go : (qs : List (List ℕ)) → YieldsList steps (λ x. x.now) i qs
              → (ps : List (List ℕ)) × (numbers qs ≡ with_number (value 3 p.now) (numbers ps)) × YieldsList steps (λ x. x.now) j ps
          go [] w = absurd (w.runs p j k)
          go (q ∷ ps) w =
              let m = w.runs.1 p j k in
              (ps, ap (λ (x : List ℕ). with_number (value 3 x) (numbers ps)) (sym m.0), record { runs = m.1 })

      -- a piece that is no number
      pub found-other : value 3 p.now ≡ None → None ≡ first_line s
      unfolding sizes with_numbers with_number
      found-other h = let m = next in rw (f.says, m.1, h)

      -- a piece behind the last cap that is taken
      pub found-long : max_caps ≤ count → None ≡ first_line s
      found-long h = let m = next in rw (f.says, m.1) (sizes-long n (value 3 p.now) f.done (numbers m.0) (omega (arith, f.many)))

      -- a cap more
      pub found-more : (v : ℕ) → count < max_caps → value 3 p.now ≡ Some v → Found steps s n (set caps count v) (count + 1) j
      found-more v h e =
          let m = next in record {
            done = f.done ++ (v ∷ []);
            rest = m.0;
            many = omega (arith, f.many, length-append f.done (v ∷ []));
            few = omega arith;
            stored = rw (f.stored, f.many) (padded-more f.done v (omega (arith, f.many)));
            says = rw (f.says, m.1, e) (ap (sizes n) (with_more f.done v (numbers m.0)));
            gives = m.2;
          }
