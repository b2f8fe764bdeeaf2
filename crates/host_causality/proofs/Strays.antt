-- A stray call leaves the host's world: a refused exported call leaves every byte that it was lent. Assumes nothing.
use Prim.Native.Nat.{ℕ}
use mathlib.Core.List.{List}
use mathlib.Core.Path.{◌∙◌, ◌≡◌, ap, refl, sym}
use native.Mathlib.Decide.{ℕ_discrete}
use Rattle.protocol.proofs.Below.{update_other, update_same}
use Rattle.protocol.specs.Node.{update}
use Rattle.host.proofs.Refused.{deliver-leaves, offer-leaves, send-leaves, set_up-leaves}
use Rattle.host_causality.specs.HostDemand3.{HostWorld, Lent, Stray, StrayLeft, latest, lent_bytes, other, put_back, stray_set_up, stray_deliver, stray_left}
use Rattle.host_causality.specs.HostDemand3.{stray_offer, stray_send}

-- bytes put back as they were lent
put_same : (v : ℕ → List ℕ) (l : Lent) (left : List ℕ) → left ≡ lent_bytes v l → (k : ℕ) → put_back v l left k ≡ v k
put_same v (latest i) left e k = go (ℕ_discrete k i)
  where
    go : Dec (k ≡ i) → update v i left k ≡ v k
    go (yes z) = ap (update v i left) z ∙ update_same v i left ∙ e ∙ ap v (sym z)
    go (no z) = update_other v i left k z
put_same v (other s) left e k = refl

-- a refused one leaves every image and every queue
pub record Leaves (w : HostWorld) (c : StrayLeft) : Type 0 where
  pub same : (k : ℕ) → c.images k ≡ w.images k
  pub still : (k : ℕ) → c.queues k ≡ w.queues k

pub stray-leaves : (w : HostWorld) (s : Stray) → ¬ ((stray_left w s).status ≡ 0) → Leaves w (stray_left w s)
stray-leaves w (stray_set_up i me n cap) h =
    record { same = put_same w.images i _ (set_up-leaves (lent_bytes w.images i) me n cap h); still = λ k. refl }
stray-leaves w (stray_send i to class body out answer) h =
    record { same = put_same w.images i _ (send-leaves (lent_bytes w.images i) to class body out answer h).0; still = λ k. refl }
stray-leaves w (stray_offer i frame q answer) h =
    let x = offer-leaves (lent_bytes w.images i) frame (lent_bytes w.queues q) answer h in
    record { same = put_same w.images i _ x.0; still = put_same w.queues q _ x.1 }
stray-leaves w (stray_deliver i q out body answer) h =
    let x = deliver-leaves (lent_bytes w.images i) (lent_bytes w.queues q) out body answer h in
    record { same = put_same w.images i _ x.0; still = put_same w.queues q _ x.1 }
