-- What matching worlds say of frames and messages: labels, deliveries, happened before, held and how many are. Assumes nothing.
use Prim.Native.Nat.{◌-◌, ℕ}
use mathlib.Core.List.{List}
use mathlib.Core.Logic.{◌⊎◌, inl, inr}
use mathlib.Core.Option.{Option, none, some}
use mathlib.Core.Path.{◌∙◌, ◌≡◌, ap, ap₂, refl, subst, sym}
use native.Mathlib.Omega.{arith}
use lib.ListN.{get_elem?}
use Rattle.causality.proofs.Matches.{Matches, encode_issue, label_of, named, same-answers, same_back, same-there}
use Rattle.causality.specs.Demand3.{DeliveredAt, Earliest, HappenedBefore, Held, Issue, IssueAt, Label, User, World, chain}
use Rattle.causality.specs.Demand3.{deliveries, held_at, label, message, offers, offers_accepted, same_node, Delivered}
use Rattle.causality.specs.Rights.{Extra}
use Rattle.frame.proofs.EntryLists.{length-entries_of}
use Rattle.frame.proofs.Written.{decode-encode, header-encode}
use Rattle.frame.specs.Frame.{decode, encode, header_of}
use Rattle.frame.specs.Header.{header, kind_byte}
use Rattle.frame.specs.declared.header.Header.{Header}
use Rattle.matrix.specs.Matrix.{count}
use Rattle.matrix.specs.Message.{Kind, Message, Sound, extra, number, user}
use Rattle.protocol.proofs.Lists.{at_map, map_at}
use Rattle.protocol.specs.World as messages
use Rattle.protocol.specs.Answer as protocol
use Rattle.protocol.specs.Order as order
use Rattle.protocol.specs.Demand3 as stated

-- a frame's header fields
pub to-encode : (m : Message) → (header (encode m)).to ≡ m.to
unfolding header_of
to-encode m = ap (λ (h : Header). h.to) (header-encode m)

pub from-encode : (m : Message) → (header (encode m)).from ≡ m.from
unfolding header_of
from-encode m = ap (λ (h : Header). h.from) (header-encode m)

pub cap-encode : (m : Message) → (header (encode m)).cap ≡ m.cap
unfolding header_of
cap-encode m = ap (λ (h : Header). h.cap) (header-encode m)

pub kind-encode : (m : Message) → (header (encode m)).kind ≡ kind_byte m.kind
unfolding header_of
kind-encode m = ap (λ (h : Header). h.kind) (header-encode m)

pub count-encode : (m : Message) → (header (encode m)).e ≡ count m.entries
unfolding header_of
count-encode m = ap (λ (h : Header). h.e) (header-encode m) ∙ length-entries_of m.entries

-- a kind and its byte
same_kind : (k l : Kind) → kind_byte k ≡ kind_byte l → k ≡ l
same_kind user user e = refl
same_kind user extra e = absurd (omega arith)
same_kind extra user e = absurd (omega arith)
same_kind extra extra e = refl

pub user-kind : (m : Message) → User (encode m) → m.kind ≡ user
user-kind m e = same_kind m.kind user (sym (kind-encode m) ∙ e)

-- a frame is a user's or extra
pub either_kind : (m : Message) → User (encode m) ⊎ Extra (encode m)
either_kind m = go m.kind refl
  where
    go : (k : Kind) → m.kind ≡ k → User (encode m) ⊎ Extra (encode m)
    go user e = inl (kind-encode m ∙ ap kind_byte e)
    go extra e = inr (kind-encode m ∙ ap kind_byte e)

pub extra-kind : (m : Message) → Extra (encode m) → m.kind ≡ extra
extra-kind m e = same_kind m.kind extra (sym (kind-encode m) ∙ e)

-- a frame's number and label
pub number-encode : (m : Message) → Sound m → number (decode (encode m)) ≡ number m
number-encode m s = ap number (decode-encode m s)

pub label-encode : (m : Message) → Sound m → label (encode m) ≡ label_of (protocol.label m)
label-encode m s = λ z. record { kind = kind-encode m z; from = from-encode m z; number = number-encode m s z }

-- a label in bytes is that of one label
named_back : (x : Option protocol.Label) (a : protocol.Label) → named x ≡ some (label_of a) → x ≡ some a
named_back none a e = let z : ◌≡◌ {A = ℕ} 0 1 = cc in absurd (omega arith)
named_back (some c) a e =
    let z : label_of c ≡ label_of a = cc in
    let k : c.kind ≡ a.kind = same_kind c.kind a.kind (ap (λ (x : Label). x.kind) z) in
    let f : c.from ≡ a.from = ap (λ (x : Label). x.from) z in
    let n : c.number ≡ a.number = ap (λ (x : Label). x.number) z in
    ap (λ (x : protocol.Label). some x) (λ t. record { kind = k t; from = f t; number = n t })

module _ (n : ℕ) (w : messages.World) (b : World) (m : Matches n w b) (sound : (p : ℕ) (f : messages.Issue) → messages.IssueAt w p f → Sound f.message) where
  -- an issued frame is that of an issued message
  pub issue-there : (p : ℕ) (f : messages.Issue) → messages.IssueAt w p f → IssueAt b p (encode_issue f)
  issue-there p f at = ap (λ (l : List Issue). get_elem? l p) m.log ∙ at_map encode_issue w.log p f at

  pub issue-back : (p : ℕ) (h : Issue) → IssueAt b p h → (f : messages.Issue) × messages.IssueAt w p f × (encode_issue f ≡ h)
  issue-back p h at = map_at encode_issue w.log p h (ap (λ (l : List Issue). get_elem? l p) (sym m.log) ∙ at)

  -- a step delivers a frame where it delivers the message
  pub delivered-there : (t : ℕ) (f : Message) → Sound f → order.DeliveredAt w.history t f → DeliveredAt b.history t (encode f)
  delivered-there t f s d =
      let x = same-there w.history b.history m.history t d.event d.at in
      record {
        event = x.0;
        at = x.1;
        here = x.2.node ∙ d.here ∙ sym (to-encode f);
        names = x.2.answer.names ∙ ap named d.names ∙ ap (λ (z : Label). some z) (sym (label-encode f s));
      }

  pub delivered-back : (t : ℕ) (f : Message) → Sound f → DeliveredAt b.history t (encode f) → order.DeliveredAt w.history t f
  delivered-back t f s d =
      let x = same_back w.history b.history m.history t d.event d.at in
      record {
        event = x.0;
        at = x.1;
        here = sym x.2.node ∙ d.here ∙ to-encode f;
        names =
            named_back (protocol.delivery x.0.answer) (protocol.label f)
            (sym x.2.answer.names ∙ d.names ∙ ap (λ (z : Label). some z) (label-encode f s));
      }

  -- happened before, by the frames, is happened before by the messages
  pub before_back : (a c : ℕ) → HappenedBefore b.log b.history a c → order.HappenedBefore w.log w.history a c
  before_back a c (same_node _ _ e f l ea fa ae af same) =
      let x = same_back w.history b.history m.history a e ea in
      let y = same_back w.history b.history m.history c f fa in
      order.same_node a c x.0 y.0 l x.1 y.1 (sym x.2.answer.acceptance ∙ ae)
      (sym y.2.answer.acceptance ∙ af) (sym x.2.node ∙ same ∙ y.2.node)
  before_back a c (message _ _ p h at u s d) =
      let x = issue-back p h at in
      let u' : User (encode x.0.message) = subst (λ (z : Issue). User z.frame) (sym x.2) u in
      let d' : DeliveredAt b.history c (encode x.0.message) = subst (λ (z : Issue). DeliveredAt b.history c z.frame) (sym x.2) d in
      order.message a c p x.0 x.1 (user-kind x.0.message u') (ap (λ (z : Issue). z.step) x.2 ∙ s)
      (delivered-back c x.0.message (sound p x.0 x.1) d')
  before_back a c (chain _ k _ l r) = order.chain a k c (before_back a k l) (before_back k c r)

  -- some step delivered the frame where some step delivered the message
  pub some-there : (f : Message) → Sound f → stated.Delivered w f → Delivered b (encode f)
  some-there f s d = (d.0, delivered-there d.0 f s d.1)

  pub some_back : (f : Message) → Sound f → Delivered b (encode f) → stated.Delivered w f
  some_back f s d = (d.0, delivered-back d.0 f s d.1)

  -- a frame is held where its message is
  pub held-there : (p : ℕ) (f : Message) → Sound f → stated.Held w p f → Held b p (encode f)
  held-there p f s h =
      let x = same-there w.history b.history m.history h.place h.event h.at in
      record {
        place = h.place;
        event = x.0;
        at = x.1;
        offered = x.2.step.there f.to p h.offered ∙ ap (λ (j : ℕ). offers j p) (sym (to-encode f));
        accepted = x.2.answer.acceptance ∙ h.accepted;
        undelivered = λ d. h.undelivered (some_back f s d);
      }

  pub held_back : (p : ℕ) (f : Message) → Sound f → Held b p (encode f) → stated.Held w p f
  held_back p f s h =
      let x = same_back w.history b.history m.history h.place h.event h.at in
      record {
        place = h.place;
        event = x.0;
        at = x.1;
        offered = x.2.step.back f.to p (h.offered ∙ ap (λ (j : ℕ). offers j p) (to-encode f));
        accepted = sym x.2.answer.acceptance ∙ h.accepted;
        undelivered = λ d. h.undelivered (some-there f s d);
      }

  -- as many are
  pub same-held : (j : ℕ) → held_at b j ≡ stated.held_at w j
  same-held j =
      ap₂ ◌-◌ (same-answers stated.offers_accepted offers_accepted (λ a c s. s.taken) j w.history b.history m.history)
      (same-answers stated.deliveries deliveries (λ a c s. s.given) j w.history b.history m.history)

  -- the earliest undelivered frame is that of the earliest undelivered message
  pub earliest_there : (p : ℕ) (f : messages.Issue) → stated.Earliest w p f → Earliest b p (encode_issue f)
  earliest_there p f e = record {
    at = issue-there p f e.at;
    undelivered = λ d. e.undelivered (some_back f.message (sound p f e.at) d);
    earlier =
        λ q h l at. let x = issue-back q h at in
        subst (λ (z : Issue). Delivered b z.frame) x.2 (some-there x.0.message (sound q x.0 x.1) (e.earlier q x.0 l x.1));
  }
