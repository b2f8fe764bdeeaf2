-- Frames that meet none of 8 to 14 and differ in from or number, laid out, pass check 4: the way back from `queue-kept`. Assumes nothing.
use Prim.Native.Nat.{◌≤◌, suc, zero, ℕ}
use mathlib.Core.Bool.{◌||◌, false, not}
use mathlib.Core.List.{List, [], ◌∷◌, map}
use mathlib.Core.Option.{some}
use mathlib.Core.Path.{◌∙◌, ◌≡◌, ap, refl, subst, sym}
use native.Mathlib.Omega.{arith}
use lib.Dec.{T, eqb, eqb_refl, not_T}
use lib.ListN.{get_elem?, length}
use Rattle.arrival.specs.View.{arrival_refusal}
use Rattle.frame.specs.Frame.{decode}
use Rattle.frame.specs.Refusals.{frame_refusal}
use Rattle.holdback.proofs.Held.{FrameKept, frame-kept, passes_framed}
use Rattle.holdback.proofs.Slots.{EachFramed, held-slots}
use Rattle.holdback.specs.WrongQueue.{held_refused, same_bytes, some_alike, some_refused, wrong_queue}
use Rattle.holdback.specs.Slots.{laid, without}
use Rattle.matrix.specs.Message.{Message, number}
use Rattle.protocol.proofs.Lists.{at_none}
use Rattle.protocol.proofs.Origins.{Apart, origin_at, other_origin}
use Rattle.protocol.proofs.Searching.{skip}
use Rattle.protocol.specs.Node.{Node}
use Rattle.protocol.specs.Offer.{some_same_origin}
use Rattle.wire.proofs.Tests.{T_and, T_not-not, eq→eqb, is_false, not-or, or-not}
use Rattle.wire.specs.Limits.{max_held}

-- a property of each frame of a list, place by place
abbrev pub EachFrame : (List ℕ → Type 0) → List (List ℕ) → Type 0
EachFrame P l = (h : ℕ) (s : List ℕ) → get_elem? l h ≡ some s → P s

-- a frame that meets none of 8 to 14
kept_frame : (d : Node) (s : List ℕ) → FrameKept d s → T (not (held_refused d s))
unfolding held_refused
kept_frame d s k =
    not-or (not (eqb (frame_refusal d.n s) 0)) (not (eqb (arrival_refusal d (decode s)) 0))
    (T_not-not (eqb (frame_refusal d.n s) 0) (eq→eqb (frame_refusal d.n s) 0 k.passes))
    (T_not-not (eqb (arrival_refusal d (decode s)) 0) (eq→eqb (arrival_refusal d (decode s)) 0 k.arrives))

-- where each is one, it is not the case that some would meet one of 8 to 14, and the other way round
none-refused : (d : Node) (l : List (List ℕ)) → EachFrame (FrameKept d) l → T (not (some_refused d l))
unfolding some_refused
none-refused d [] f = tt
none-refused d (s ∷ l) f = not-or (held_refused d s) (some_refused d l) (kept_frame d s (f 0 s refl)) (none-refused d l (λ h t a. f (suc h) t a))

pub refused_none : (d : Node) (l : List (List ℕ)) → T (not (some_refused d l)) → EachFrame (FrameKept d) l
unfolding some_refused
refused_none d [] t h s a = absurd (at_none h s a)
refused_none d (x ∷ l) t zero s a = let z : x ≡ s = cc in subst (FrameKept d) z (frame-kept d x (or-not (held_refused d x) (some_refused d l) t).0)
refused_none d (x ∷ l) t (suc h) s a = refused_none d l (or-not (held_refused d x) (some_refused d l) t).1 h s a

-- each such frame has its own length, and fits its slot
pub framed_all : (d : Node) (l : List (List ℕ)) → EachFrame (FrameKept d) l → EachFramed l
framed_all d [] f = tt
framed_all d (s ∷ l) f = (passes_framed d.n s (f 0 s refl).passes, framed_all d l (λ h t a. f (suc h) t a))

-- of messages that differ in from or number it is not the case that two agree, and the other way round
none_alike : (l : List Message) → Apart l → T (not (some_alike l))
unfolding some_alike
none_alike [] d = tt
none_alike (m ∷ l) d =
    not-or (some_same_origin l m) (some_alike l)
    (not_T (some_same_origin l m) (λ t. let r = origin_at l m t in omega (arith, d (suc r.0) 0 r.1 m r.2 refl r.3 r.4)))
    (none_alike l (λ h k a b x y s n. let q : suc h ≡ suc k = d (suc h) (suc k) a b x y s n in omega arith))

pub alike_none : (l : List Message) → T (not (some_alike l)) → Apart l
unfolding some_alike
alike_none [] t h k a b x y f n = absurd (at_none h a x)
alike_none (m ∷ l) t zero zero a b x y f n = refl
alike_none (m ∷ l) t zero (suc k) a b x y f n =
    let z : m ≡ a = cc in
    absurd (other_origin l m (or-not (some_same_origin l m) (some_alike l) t).0 k b y (sym f ∙ ap (λ (g : Message). g.from) (sym z)) (sym n ∙ ap number (sym z)))
alike_none (m ∷ l) t (suc h) zero a b x y f n =
    let z : m ≡ b = cc in
    absurd (other_origin l m (or-not (some_same_origin l m) (some_alike l) t).0 h a x (f ∙ ap (λ (g : Message). g.from) (sym z)) (n ∙ ap number (sym z)))
alike_none (m ∷ l) t (suc h) (suc k) a b x y f n = ap suc (alike_none l (or-not (some_same_origin l m) (some_alike l) t).1 h k a b x y f n)

-- a list of bytes is the same as itself
same_bytes_lem : (s : List ℕ) → T (same_bytes s s)
unfolding same_bytes
same_bytes_lem [] = tt
same_bytes_lem (a ∷ s) = T_and (eqb a a) (same_bytes s s) (eqb_refl a) (same_bytes_lem s)

-- at most sixteen such frames, laid out, pass check 4
pub queue-right : (d : Node) (l : List (List ℕ)) → length l ≤ max_held → EachFrame (FrameKept d) l → Apart (map decode l)
    → wrong_queue d (length l) (laid l) ≡ false
unfolding wrong_queue
queue-right d l h f a =
    is_false (wrong_queue d (length l) (laid l))
    (subst (λ (k : List (List ℕ)). T (not (not (same_bytes (laid l) (laid k)) || some_refused d k || some_alike (map decode k))))
    (sym (held-slots max_held l h (framed_all d l f)))
    (not-or (not (same_bytes (laid l) (laid l)) || some_refused d l) (some_alike (map decode l))
    (not-or (not (same_bytes (laid l) (laid l))) (some_refused d l) (T_not-not (same_bytes (laid l) (laid l)) (same_bytes_lem (laid l))) (none-refused d l f))
    (none_alike (map decode l) a)))

-- a frame that is left when the one at place j is taken out
pub without_at : (j : ℕ) (l : List (List ℕ)) (h : ℕ) (s : List ℕ) → get_elem? (without j l) h ≡ some s → get_elem? l (skip j h) ≡ some s
unfolding without
without_at j [] h s e = absurd (at_none h s e)
without_at zero (x ∷ l) h s e = e
without_at (suc j) (x ∷ l) zero s e = e
without_at (suc j) (x ∷ l) (suc h) s e = without_at j l h s e
