-- Our table, class by class and group by group, is what the request's words say. Assumes nothing.
use Prim.Native.Nat.{ℕ, zero, suc}
use mathlib.Core.Bool.{Bool, false, not, ◌||◌}
use mathlib.Core.Path.{◌≡◌, refl, subst, sym}
use native.Mathlib.Omega.{arith}
use borrow.Author.Tests.{lt-ltb}
use lib.Dec.{T, ltb}
use Rattle.rights.specs.Topics.{Group, motion, exposure, filing, notes, group_of}
use Rattle.rights.specs.Rights.{has_right, lacks_right, panel}
use Rattle.rights.specs.Ours.{MaySend, OursMeans, ours}

-- 21 for a group, by our table
abbrev lacks : ℕ → Group → Bool
lacks class g = ltb panel class || not (has_right ours class g)

only_at : (class : ℕ) (g : Group) → T (not (lacks class g)) → MaySend class g
unfolding ours
only_at zero motion t = refl
only_at zero exposure t = absurd t
only_at zero filing t = absurd t
only_at zero notes t = omega arith
only_at (suc zero) motion t = absurd t
only_at (suc zero) exposure t = refl
only_at (suc zero) filing t = absurd t
only_at (suc zero) notes t = omega arith
only_at (suc (suc zero)) motion t = absurd t
only_at (suc (suc zero)) exposure t = absurd t
only_at (suc (suc zero)) filing t = refl
only_at (suc (suc zero)) notes t = omega arith
only_at (suc (suc (suc zero))) motion t = absurd t
only_at (suc (suc (suc zero))) exposure t = absurd t
only_at (suc (suc (suc zero))) filing t = absurd t
only_at (suc (suc (suc zero))) notes t = omega arith
only_at (suc (suc (suc (suc k)))) g t =
    absurd (subst (λ (b : Bool). T (not (b || not (has_right ours (suc (suc (suc (suc k)))) g)))) (lt-ltb panel (suc (suc (suc (suc k)))) (omega arith)) t)

each_at : (class : ℕ) (g : Group) → MaySend class g → lacks class g ≡ false
unfolding ours
each_at class motion e = rw e refl
each_at class exposure e = rw e refl
each_at class filing e = rw e refl
each_at zero notes h = refl
each_at (suc zero) notes h = refl
each_at (suc (suc zero)) notes h = refl
each_at (suc (suc (suc zero))) notes h = refl
each_at (suc (suc (suc (suc k)))) notes h = absurd (omega arith)

pub ours_means : OursMeans
unfolding lacks_right
ours_means = record {
  only = λ class body e. only_at class (group_of body) (subst (λ (b : Bool). T (not b)) (sym e) tt);
  each = λ class body h. each_at class (group_of body) h;
}
