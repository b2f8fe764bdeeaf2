-- Zeros over the lent bytes, the small numbers into them, and then the trailer. Assumes nothing.
use Prim.Native.Nat.{ℕ}
use mathlib.Core.Path.{◌∙◌, ap}
use lib.ListN.{replicate}
use Rattle.image.proofs.Stored.{laid_as, laid-front, laid-sealed, laid-zeros}
use Rattle.image.proofs.store_fresh.Goals as goal

pub returns : goal.returns
returns c =
    let zeros = c.fill.ensures.after (λ y e. e) ∙ ap (λ (k : ℕ). replicate k 0) c.requires in
    c.write_trailer.ensures.1 ∙ laid-sealed _ _ (laid-front _ _ (laid_as zeros laid-zeros) c.args.me c.args.n c.args.cap)
