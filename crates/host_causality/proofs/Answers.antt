-- The bytes of an answer read back as what was written. Assumes nothing.
use Prim.Native.Nat.{◌<◌, ◌≤◌, ℕ}
use mathlib.Core.List.{List, ◌++◌}
use mathlib.Core.Option.{some}
use mathlib.Core.Path.{◌∙◌, ◌≡◌, ap, ap₂, refl, subst, sym}
use native.Mathlib.Omega.{arith}
use lib.Dec.{eqb}
use lib.ListN.{drop, length}
use Rattle.wire.proofs.Bytes.{four_bytes, put-eq, two_bytes}
use Rattle.wire.proofs.Tests.{cond_elim, cond_no, cond_yes, eq→eqb, ne→neqb}
use Rattle.wire.specs.Bytes.{le16, le32, put, u16_at, u32_at}
use Rattle.host.specs.Exports.{answer_bytes, answer_size, delivery_bytes, nothing_bytes, offer_bytes, send_bytes}
use Rattle.node.specs.Delivered.{Delivered}
use Rattle.node.specs.Answers.{deliver_number}
use Rattle.node.specs.DeliverAnswer.{DeliverAnswer}
use Rattle.node.specs.SendAnswer as send
use Rattle.node.specs.DeliverAnswer as deliver
use Rattle.causality.specs.Demand3.{Label, delivered, delivery}
use Rattle.host_causality.specs.HostDemand3.{body_in, bytes_in, delivered_in, extras_in, from_in, kind_in, label_in, number_in}
use Rattle.host_causality.specs.HostDemand3.{read_deliver, read_delivery, read_send, tried_in}

-- what the bytes a name
pub record Reads (a : List ℕ) (kind from number tried body extras bytes : ℕ) : Type 0 where
  pub kinds : kind_in a ≡ kind
  pub sender : from_in a ≡ from
  pub count : number_in a ≡ number
  pub looked : tried_in a ≡ tried
  pub text : body_in a ≡ body
  pub more : extras_in a ≡ extras
  pub issued : bytes_in a ≡ bytes

-- the two numbers of several bytes fit into them
pub reads : (a : List ℕ) (kind from number tried body extras bytes : ℕ) → answer_size ≤ length a → number < 4294967296 → bytes < 65536
    → Reads (put a 0 (answer_bytes kind from number tried body extras bytes)) kind from number tried body extras bytes
unfolding answer_bytes le32 le16 u32_at u16_at
reads a kind from number tried body extras bytes long h k =
    let l : List ℕ = answer_bytes kind from number tried body extras bytes in
    let e : put a 0 l ≡ l ++ drop 11 a = put-eq a 0 l (omega arith) in
    subst (λ (x : List ℕ). Reads x kind from number tried body extras bytes) (sym e)
    (record { kinds = refl; sender = refl; count = four_bytes number h; looked = refl; text = refl; more = refl; issued = two_bytes bytes k })

-- ---- as the answer of each call

module _ (a : List ℕ) (long : answer_size ≤ length a) where
  pub read-sent : (bytes extras : ℕ) → bytes < 65536
      → (let b = put a 0 (send_bytes bytes extras) in (read_send 0 b ≡ send.Sent bytes extras) × (bytes_in b ≡ bytes))
  read-sent bytes extras h =
      let x = reads a 0 0 0 0 0 extras bytes long (omega arith) h in
      (ap₂ (λ (y z : ℕ). send.Sent y z) x.issued x.more, x.issued)

  pub read-offered : bytes_in (put a 0 offer_bytes) ≡ 0
  read-offered = (reads a 0 0 0 0 0 0 0 long (omega arith) (omega arith)).issued

  pub read-nothing : (tried : ℕ)
      → (let b = put a 0 (nothing_bytes tried) in (read_delivery b ≡ deliver.Nothing tried) × (bytes_in b ≡ 0))
  read-nothing tried =
      let b = put a 0 (nothing_bytes tried) in
      let x = reads a 0 0 0 tried 0 0 0 long (omega arith) (omega arith) in (
        cond_yes (eqb (kind_in b) 0) (deliver.Nothing (tried_in b)) (deliver.Frame (delivered_in b)) (eq→eqb (kind_in b) 0 x.kinds)
            ∙ ap (λ (k : ℕ). deliver.Nothing k) x.looked,
        x.issued,
      )

  pub read-delivery : (d : Delivered) → 0 < d.kind → d.number < 4294967296 → d.bytes < 65536
      → (let b = put a 0 (delivery_bytes d) in (read_delivery b ≡ deliver.Frame d) × (bytes_in b ≡ d.bytes))
  read-delivery d kind number bytes =
      let b = put a 0 (delivery_bytes d) in
      let x = reads a d.kind d.from d.number d.tried d.body d.extras d.bytes long number bytes in (
        cond_no (eqb (kind_in b) 0) (deliver.Nothing (tried_in b)) (deliver.Frame (delivered_in b)) (ne→neqb (kind_in b) 0 (λ z. omega (arith, x.kinds)))
            ∙ ap (λ (y : Delivered). deliver.Frame y) (λ z. record {
              kind = x.kinds z;
              from = x.sender z;
              number = x.count z;
              tried = x.looked z;
              body = x.text z;
              bytes = x.issued z;
              extras = x.more z;
            }),
        x.issued,
      )

-- ---- what a delivery's answer names

pub read-label : (k : ℕ) (b : List ℕ) (a : DeliverAnswer) (l : Label) → k ≡ deliver_number a → delivered (read_deliver k b) ≡ delivered a
    → delivery (delivered a) ≡ some l → (k ≡ 0) × (label_in b ≡ l)
read-label k b (deliver.Refused n) l status reads names = let z : ◌≡◌ {A = ℕ} 0 1 = cc in absurd (omega arith)
read-label k b (deliver.Nothing tried) l status reads names = let z : ◌≡◌ {A = ℕ} 0 1 = cc in absurd (omega arith)
read-label k b (deliver.Frame d) l status reads names =
    (status, named (ap delivery (ap (λ (x : ℕ). delivered (read_deliver x b)) (sym status) ∙ reads) ∙ names))
  where
    named : delivery (delivered (read_delivery b)) ≡ some l → label_in b ≡ l
    named =
        cond_elim (λ (x : DeliverAnswer). delivery (delivered x) ≡ some l → label_in b ≡ l) (eqb (kind_in b) 0) (deliver.Nothing (tried_in b))
        (deliver.Frame (delivered_in b)) (λ _ e. let z : ◌≡◌ {A = ℕ} 0 1 = cc in absurd (omega arith)) (λ _ e. cc)
