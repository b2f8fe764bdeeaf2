-- The checks of each call, in the papers' words and order. The host's calls (document 02, (vi)) have 20, on the image, where the node's have 2, and look at
-- the answer's length in 3; what comes behind the buffers is the same list, on the record that the image reads as.
use Rattle.std.specs.Prelude.{ℕ, not, ◌&&◌, ◌||◌, List, [], ◌∷◌, eqb, ltb, length, take}
use Rattle.wire.specs.Limits.{max_body}
use Rattle.rules.specs.Rules.{in_range}
use Rattle.frame.specs.Header.{header}
use Rattle.frame.specs.Frame.{decode}
use Rattle.frame.specs.Refusals.{wrong_address, wrong_content, wrong_kind, wrong_trailer}
use Rattle.trail.specs.Cursor.{wrong_window}
use Rattle.trail.specs.Sound.{unsound}
use Rattle.trail.specs.Walk.{bad_end, walk}
use Rattle.trail.specs.Write.{no_room_for}
use Rattle.trail.specs.declared.walk.Cursor.{Cursor}
use Rattle.protocol.specs.Node.{at_limit}
use Rattle.protocol.specs.Send.{bad_destination, long_body}
use Rattle.protocol.specs.Offer.{claims_too_much, delivered_before, held_already, no_room, not_for_me}
use Rattle.holdback.specs.Slots.{queue_size}
use Rattle.holdback.specs.WrongQueue.{wrong_queue}
use Rattle.rights.specs.Ours.{ours}
use Rattle.rights.specs.Rights.{lacks_right}
use Rattle.node.specs.declared.Node.{Node as Record}
use Rattle.node.specs.Record.{broken_record, node_of, node_at}
use Rattle.node.specs.Sizes.{out_size}
use Rattle.image.specs.Image.{bad_image, image_size, record_in}
use Rattle.host.specs.Exports.{answer_size}
use Rattle.request.specs.Refusal18.{refused18}
use Rattle.refusals.specs.Checks.{Check, check}

-- ---- set-up

-- 1. n, me or cap is out of range.
abbrev pub set_up_checks : (me n cap : ℕ) → List Check
set_up_checks me n cap = check 1 (not (in_range me n cap)) ∷ []

-- the host's: 1, and 20 after it. The image has another length; set-up looks at the length alone.
abbrev pub host_set_up_checks : (image : List ℕ) → (me n cap : ℕ) → List Check
host_set_up_checks i me n cap = check 1 (not (in_range me n cap)) ∷ check 20 (not (eqb (length i) image_size)) ∷ []

-- ---- send

-- behind the buffers: 5. An M entry in row me, or a DELIV entry, is 1,000,000,000.
-- 6. The destination is me or not below n.
-- 7. The body is longer than 64.
-- 21. The class is above 3 or lacks the topic's right (document 02, (vii)), by our table.
abbrev pub send_rest : Record → (to class : ℕ) (body : List ℕ) → List Check
send_rest r to class body =
    check 5 (at_limit (node_of r []))
    ∷ check 6 (bad_destination (node_of r []) to)
    ∷ check 7 (long_body body)
    ∷ check 21 (lacks_right ours class body)
    ∷ []

-- 2. The record breaks a record rule.
-- 3. A lent buffer is too short.
abbrev pub send_checks : Record → (to class : ℕ) (body out : List ℕ) → List Check
send_checks r to class body out = check 2 (broken_record r) ∷ check 3 (ltb (length out) out_size) ∷ send_rest r to class body

-- the host's: 20. The image has another length, a bad trailer or a record that meets 2.
-- 3. A lent buffer is too short, the frame output or the answer.
abbrev pub host_send_checks : (image : List ℕ) → (to class : ℕ) (body out answer : List ℕ) → List Check
host_send_checks i to class body out answer =
    check 20 (bad_image i) ∷ check 3 (ltb (length out) out_size || ltb (length answer) answer_size) ∷ send_rest (record_in i) to class body

-- ---- offer

-- behind the buffers: 4. The shelf is not laid out as above, a held frame would meet one of 8 to 14, or two held frames agree in from and number.
-- 8. The frame's length is not 12 to 802, or either trailer field is wrong.
-- 9. Kind is not 1 or 2, or byte 7 is not zero.
-- 10. The frame's n is not the record's, its cap is not n to n × n (document 02, (x)), from or to is not below n, or they are equal.
-- 11. 8 + 6 × e + b is not the count pointed back, b breaks its rule, e exceeds the frame's cap, or an entry breaks a rule.
-- 12. to is not me.
-- 13. An entry in row me exceeds M there.
-- 14. The number is at most DELIV[from].
-- 15. A held frame has the same from and number.
-- 16. 16 frames are held, or 15 are and this one is not deliverable now.
abbrev pub offer_rest : Record → (frame queue : List ℕ) → List Check
offer_rest r s q =
    check 4 (wrong_queue (node_of r []) r.held q)
    ∷ check 8 (wrong_trailer s)
    ∷ check 9 (wrong_kind (header s))
    ∷ check 10 (wrong_address r.n (header s))
    ∷ check 11 (wrong_content r.n s)
    ∷ check 12 (not_for_me (node_at r q) (decode s))
    ∷ check 13 (claims_too_much (node_at r q) (decode s))
    ∷ check 14 (delivered_before (node_at r q) (decode s))
    ∷ check 15 (held_already (node_at r q) (decode s))
    ∷ check 16 (no_room (node_at r q) (decode s))
    ∷ []

-- 2. The record breaks a record rule.
-- 3. The shelf's length is not 12,832.
abbrev pub offer_checks : Record → (frame queue : List ℕ) → List Check
offer_checks r s q = check 2 (broken_record r) ∷ check 3 (not (eqb (length q) queue_size)) ∷ offer_rest r s q

-- the host's: 20. The image has another length, a bad trailer or a record that meets 2.
-- 3. The shelf's length is not 12,832, or the answer is too short.
abbrev pub host_offer_checks : (image frame queue answer : List ℕ) → List Check
host_offer_checks i s q answer =
    check 20 (bad_image i) ∷ check 3 (not (eqb (length q) queue_size) || ltb (length answer) answer_size) ∷ offer_rest (record_in i) s q

-- ---- deliver

-- behind the buffers: 4. The shelf is not laid out as above, a held frame would meet one of 8 to 14, or two held frames agree in from and number.
-- 5. An M entry in row me, or a DELIV entry, is 1,000,000,000.
abbrev pub deliver_rest : Record → (queue : List ℕ) → List Check
deliver_rest r q = check 4 (wrong_queue (node_of r []) r.held q) ∷ check 5 (at_limit (node_of r [])) ∷ []

-- 2. The record breaks a record rule.
-- 3. A lent buffer is too short, or the shelf's length is not 12,832.
abbrev pub deliver_checks : Record → (queue out body : List ℕ) → List Check
deliver_checks r q out body =
    check 2 (broken_record r)
    ∷ check 3 (ltb (length out) out_size || ltb (length body) max_body || not (eqb (length q) queue_size))
    ∷ deliver_rest r q

-- the host's: 20. The image has another length, a bad trailer or a record that meets 2.
-- 3. A lent buffer is too short, an output or the answer, or the shelf's length is not 12,832.
abbrev pub host_deliver_checks : (image queue out body answer : List ℕ) → List Check
host_deliver_checks i q out body answer =
    check 20 (bad_image i)
    ∷ check 3 (ltb (length out) out_size || ltb (length body) max_body || not (eqb (length q) queue_size) || ltb (length answer) answer_size)
    ∷ deliver_rest (record_in i) q

-- ---- the load and the trail

-- the load: 18. The line has another form, n is out of range, the seed is 0 or above 32 bits, or the draws are not 1 to 400.
abbrev pub load_checks : (input : List ℕ) → List Check
load_checks input = check 18 (refused18 input) ∷ []

-- the trail's write: 19. The frame to write would meet one of 8 to 11 with its own n and cap taken for the record's, or has these out of 1's range
-- (10 looks at the cap: document 02, (x)).
-- 3, after 19. It doesn't fit.
abbrev pub write_checks : (file : List ℕ) → ℕ → (frame : List ℕ) → List Check
write_checks file used frame = check 19 (unsound frame) ∷ check 3 (no_room_for file used frame) ∷ []

-- a step of the trail's walk: 19. w is out of range; or, where something is left, it is too short for a trailer, the trailer points before the file's
-- start, or the frame there is not sound on its own.
abbrev pub step_checks : (file : List ℕ) → Cursor → List Check
step_checks file c =
    check 19 (wrong_window c.w) ∷ check 19 (not (eqb (length (take c.end file)) 0) && bad_end (take c.end file)) ∷ []

-- the whole walk: 19. w is out of range, or the walk stops before the file's start.
abbrev pub walk_checks : (file : List ℕ) → ℕ → List Check
walk_checks file w = check 19 (wrong_window w) ∷ check 19 (not (eqb (length (walk file).left) 0)) ∷ []
