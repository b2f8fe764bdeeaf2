-- A frame with two unequal neighbours exchanged has a wrong trailer. Assumes nothing.
use Prim.Native.Nat.{ℕ}
use mathlib.Core.Bool.{◌||◌, false, not, true}
use mathlib.Core.List.{List}
use mathlib.Core.Path.{◌≡◌, ap}
use native.Mathlib.Omega.{arith}
use borrow.Author.Tests.{not-false}
use lib.Dec.{ltb}
use lib.ListN.{length}
use Rattle.wire.proofs.Exchange.{exchange_breaks_trailer}
use Rattle.wire.proofs.Tests.{either_second, is_false, neither, skipped}
use Rattle.wire.specs.Bytes.{AllBytes}
use Rattle.wire.specs.Exchange.{Unequal, exchanged}
use Rattle.wire.specs.Limits.{max_frame}
use Rattle.wire.specs.Trailer.{has_trailer}
use Rattle.frame.specs.Exchange.{ExchangeMeets8}
use Rattle.frame.specs.Refusals.{frame_refusal, wrong_trailer}

-- bytes that do not meet 8 meet it once two unequal neighbours are exchanged
pub exchange_8 : (s : List ℕ) → AllBytes s → wrong_trailer s ≡ false → (k : ℕ) → Unequal s k → wrong_trailer (exchanged s k) ≡ true
unfolding wrong_trailer
exchange_8 s b e k u =
    let x = exchanged s k in
    let right = not-false (has_trailer s) (neither (ltb (length s) 12 || ltb max_frame (length s)) (not (has_trailer s)) e).1 in
    either_second (ltb (length x) 12 || ltb max_frame (length x)) (not (has_trailer x)) (ap not (exchange_breaks_trailer s k b u right))

pub exchange_meets8 : ExchangeMeets8
unfolding frame_refusal
exchange_meets8 n s f k u n' =
    let not8 = is_false (wrong_trailer s) (skipped (wrong_trailer s) 8 _ (omega arith) f.passes).0 in
    rw (exchange_8 s f.bytes not8 k u)
