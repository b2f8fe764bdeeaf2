-- Demand 1: each call answers with the first of its checks that is met, in the papers' order, and a refusal leaves record and buffers as they were.
-- The calls are `set_up`, `send_call`, `offer_call` and `deliver_call`, the definitions that the promises of set-up, send, offer and deliver cite,
-- `run_call` of the load (document 02, (i)), whose refusal is printed, `write_call`, `step_call` and `walk_call` of the trail (document 02, (iii)),
-- and `exported_set_up`, `exported_send`, `exported_offer` and `exported_deliver` of the host (document 02, (vi)), which return 0 or the refusal's number.
use Rattle.std.specs.Prelude.{ℕ, ◌<◌, List, [], ◌∷◌, ◌≡◌, length, Err}
use Rattle.trail.specs.Step.{step_call, step_number}
use Rattle.trail.specs.Walk.{walk_call, walk_number}
use Rattle.trail.specs.Write.{AfterWrite, write_call, write_number}
use Rattle.trail.specs.declared.walk.Cursor.{Cursor}
use Rattle.trail.specs.StepAnswer as step_answer
use Rattle.trail.specs.WalkAnswer as walk_answer
use Rattle.trail.specs.WriteAnswer as write_answer
use Rattle.node.specs.declared.Node.{Node as Record}
use Rattle.node.specs.Answers.{SetUp, AfterDeliver, AfterOffer, AfterSend, deliver_number, offer_number, send_number, set_up_number}
use Rattle.node.specs.SetUpAnswer as set_up_answer
use Rattle.node.specs.SendAnswer as send_answer
use Rattle.node.specs.OfferAnswer as offer_answer
use Rattle.node.specs.DeliverAnswer as deliver_answer
use Rattle.node.specs.SetUp.{fresh_record, set_up}
use Rattle.node.specs.Calls.{deliver_call, offer_call, send_call}
use Rattle.host.specs.Exports.{DeliverLeft, OfferLeft, SendLeft, SetUpLeft, exported_deliver, exported_offer, exported_send, exported_set_up}
use Rattle.text.specs.Output.{after_run, too_short}
use Rattle.text.specs.Print.{refusal_row}
use Rattle.request.specs.Request.{request}
use Rattle.sweep.specs.Load.{answered, load_number, output, refused}
use Rattle.sweep.specs.Run.{output_size, run_call}
use Rattle.refusals.specs.Checks.{Answers, Check, First, Met, Numbered, Rising, numbers}
use Rattle.refusals.specs.CallChecks.{deliver_checks, host_deliver_checks, host_offer_checks, host_send_checks, host_set_up_checks}
use Rattle.refusals.specs.CallChecks.{load_checks, offer_checks, send_checks, set_up_checks, step_checks, walk_checks, write_checks}

-- ---- the node, which answers

-- set-up: a refusal comes with the all-zero record
pub record SetUpSays (me n cap : ℕ) (c : SetUp) : Type 0 where
  pub numbers : numbers (set_up_checks me n cap) ≡ 1 ∷ []
  pub answers : Answers set_up_answer.Refused set_up_number (set_up_checks me n cap) c.answer
  pub all_zero : ¬ (set_up_number c.answer ≡ 0) → c.node ≡ fresh_record 0 0 0

-- send: a refusal leaves the record and the frame output
pub record SendSays (r : Record) (to class : ℕ) (body out : List ℕ) (c : AfterSend) : Type 0 where
  pub numbers : numbers (send_checks r to class body out) ≡ 2 ∷ 3 ∷ 5 ∷ 6 ∷ 7 ∷ 21 ∷ []
  pub rising : Rising (send_checks r to class body out)
  pub answers : Answers send_answer.Refused send_number (send_checks r to class body out) c.result.answer
  pub same : ¬ (send_number c.result.answer ≡ 0) → (c.result.node ≡ r) × (c.out ≡ out)

-- offer: a refusal leaves the record and the queue
pub record OfferSays (r : Record) (s q : List ℕ) (c : AfterOffer) : Type 0 where
  pub numbers : numbers (offer_checks r s q) ≡ 2 ∷ 3 ∷ 4 ∷ 8 ∷ 9 ∷ 10 ∷ 11 ∷ 12 ∷ 13 ∷ 14 ∷ 15 ∷ 16 ∷ []
  pub rising : Rising (offer_checks r s q)
  pub answers : Answers offer_answer.Refused offer_number (offer_checks r s q) c.result.answer
  pub same : ¬ (offer_number c.result.answer ≡ 0) → (c.result.node ≡ r) × (c.queue ≡ q)

-- deliver: a refusal leaves the record, the queue, the frame output and the body output
pub record DeliverSays (r : Record) (q out body : List ℕ) (c : AfterDeliver) : Type 0 where
  pub numbers : numbers (deliver_checks r q out body) ≡ 2 ∷ 3 ∷ 4 ∷ 5 ∷ []
  pub rising : Rising (deliver_checks r q out body)
  pub answers : Answers deliver_answer.Refused deliver_number (deliver_checks r q out body) c.result.answer
  pub same : ¬ (deliver_number c.result.answer ≡ 0) → (c.result.node ≡ r) × (c.queue ≡ q) × (c.out ≡ out) × (c.body ≡ body)

-- ---- the host, which returns a number; 20 stands where the node has 2, so the numbers do not rise

-- set-up: a refusal leaves the image
pub record HostSetUpSays (i : List ℕ) (me n cap : ℕ) (c : SetUpLeft) : Type 0 where
  pub numbers : numbers (host_set_up_checks i me n cap) ≡ 1 ∷ 20 ∷ []
  pub numbered : Numbered (host_set_up_checks i me n cap) c.status
  pub same : ¬ (c.status ≡ 0) → c.image ≡ i

-- send: a refusal leaves the image, the frame output and the answer
pub record HostSendSays (i : List ℕ) (to class : ℕ) (body out answer : List ℕ) (c : SendLeft) : Type 0 where
  pub numbers : numbers (host_send_checks i to class body out answer) ≡ 20 ∷ 3 ∷ 5 ∷ 6 ∷ 7 ∷ 21 ∷ []
  pub numbered : Numbered (host_send_checks i to class body out answer) c.status
  pub same : ¬ (c.status ≡ 0) → (c.image ≡ i) × (c.out ≡ out) × (c.answer ≡ answer)

-- offer: a refusal leaves the image, the queue and the answer
pub record HostOfferSays (i s q answer : List ℕ) (c : OfferLeft) : Type 0 where
  pub numbers : numbers (host_offer_checks i s q answer) ≡ 20 ∷ 3 ∷ 4 ∷ 8 ∷ 9 ∷ 10 ∷ 11 ∷ 12 ∷ 13 ∷ 14 ∷ 15 ∷ 16 ∷ []
  pub numbered : Numbered (host_offer_checks i s q answer) c.status
  pub same : ¬ (c.status ≡ 0) → (c.image ≡ i) × (c.queue ≡ q) × (c.answer ≡ answer)

-- deliver: a refusal leaves the image, the queue, the frame output, the body output and the answer
pub record HostDeliverSays (i q out body answer : List ℕ) (c : DeliverLeft) : Type 0 where
  pub numbers : numbers (host_deliver_checks i q out body answer) ≡ 20 ∷ 3 ∷ 4 ∷ 5 ∷ []
  pub numbered : Numbered (host_deliver_checks i q out body answer) c.status
  pub same : ¬ (c.status ≡ 0) → (c.image ≡ i) × (c.queue ≡ q) × (c.out ≡ out) × (c.body ≡ body) × (c.answer ≡ answer)

-- ---- the load and the trail

-- the load: `R 18` alone is printed exactly where 18 is met, and an output that is too short is left as it is
pub record LoadSays (input : List ℕ) : Type 0 where
  pub numbers : numbers (load_checks input) ≡ 18 ∷ []
  pub answers : Answers refused load_number (load_checks input) (answered (request input))
  pub printed : output input ≡ refusal_row 18 → First (load_checks input) 18
  pub prints : First (load_checks input) 18 → output input ≡ refusal_row 18
  pub same : (out : List ℕ) → length out < output_size → run_call input out ≡ after_run (Err too_short) out

-- the trail's write: a refusal leaves the file
pub record WriteSays (file : List ℕ) (used : ℕ) (frame : List ℕ) (c : AfterWrite) : Type 0 where
  pub numbers : numbers (write_checks file used frame) ≡ 19 ∷ 3 ∷ []
  pub answers : Answers write_answer.Refused write_number (write_checks file used frame) c.answer
  pub same : ¬ (write_number c.answer ≡ 0) → c.file ≡ file

-- a step of the trail's walk, and the whole walk, which write nothing
pub record StepSays (file : List ℕ) (c : Cursor) : Type 0 where
  pub numbers : numbers (step_checks file c) ≡ 19 ∷ 19 ∷ []
  pub answers : Answers step_answer.Refused step_number (step_checks file c) (step_call file c)

pub record WalkSays (file : List ℕ) (w : ℕ) : Type 0 where
  pub numbers : numbers (walk_checks file w) ≡ 19 ∷ 19 ∷ []
  pub answers : Answers walk_answer.Refused walk_number (walk_checks file w) (walk_call file w)

-- ---- demand 1, for every input
pub record Demand1 : Type 0 where
  pub set_up : (me n cap : ℕ) → SetUpSays me n cap (set_up me n cap)
  pub send : (r : Record) (to class : ℕ) (body out : List ℕ) → SendSays r to class body out (send_call r to class body out)
  pub offer : (r : Record) (s q : List ℕ) → OfferSays r s q (offer_call r s q)
  pub deliver : (r : Record) (q out body : List ℕ) → DeliverSays r q out body (deliver_call r q out body)
  pub host_set_up : (i : List ℕ) (me n cap : ℕ) → HostSetUpSays i me n cap (exported_set_up i me n cap)
  pub host_send : (i : List ℕ) (to class : ℕ) (body out answer : List ℕ) → HostSendSays i to class body out answer (exported_send i to class body out answer)
  pub host_offer : (i s q answer : List ℕ) → HostOfferSays i s q answer (exported_offer i s q answer)
  pub host_deliver : (i q out body answer : List ℕ) → HostDeliverSays i q out body answer (exported_deliver i q out body answer)
  pub load : (input : List ℕ) → LoadSays input
  pub write : (file : List ℕ) (used : ℕ) (frame : List ℕ) → WriteSays file used frame (write_call file used frame)
  pub step : (file : List ℕ) (c : Cursor) → StepSays file c
  pub walk : (file : List ℕ) (w : ℕ) → WalkSays file w
  -- of checks whose numbers rise, the first that is met is the one with the lowest number
  pub lowest : (l : List Check) (k : ℕ) → Rising l → First l k → (j : ℕ) → j < k → ¬ Met l j
