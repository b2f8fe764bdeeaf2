-- The frame found is taken in and removed, and its sender is counted. Assumes nothing.
use mathlib.Core.Path.{◌∙◌}
use native.Mathlib.Omega.{arith}
use borrow.Author.Rules.{rules}
use Rattle.node.proofs.Delivering.{countable-at, deliver-accepted, deliver-leaves, finds-part, finds-ready, slot-held}
use Rattle.node.proofs.Node.take.Goals as goal

pub overflow_mul-a : goal.overflow_mul-a
overflow_mul-a c = record { fits = omega (arith, slot-held _ _ _ c.requires.finds.found, (finds-ready c.requires.finds).queue.most) }

pub frame_end-z-requires : goal.frame_end-z-requires
frame_end-z-requires c =
    let k = finds-ready c.requires.finds in
    omega (arith, slot-held _ _ _ c.requires.finds.found, k.queue.most, k.queue.size)

pub slice_bounds-take_in-end : goal.slice_bounds-take_in-end
slice_bounds-take_in-end c = omega (arith, (finds-part c.requires.finds _ c.frame_end-z.ensures).inside)

pub take_in-d-requires : goal.take_in-d-requires
take_in-d-requires c =
    let k = finds-ready c.requires.finds in
    let p = finds-part c.requires.finds _ c.frame_end-z.ensures in (
      rw p.same p.checked,
      omega (arith, k.sound.range.below, k.sound.range.at_most12),
      omega (arith, k.long),
      k.sound.limit,
      omega (arith, k.room),
    )

pub remove-requires : goal.remove-requires
remove-requires c =
    let p = finds-part c.requires.finds _ c.frame_end-z.ensures in
    let k = countable-at c.requires _ p.same (rw p.same p.checked) c.take_in-d.ensures in
    (k.size, k.most, k.held, k.layout)

pub bounds-self-d : goal.bounds-self-d
bounds-self-d c =
    let p = finds-part c.requires.finds _ c.frame_end-z.ensures in
    (countable-at c.requires _ p.same (rw p.same p.checked) c.take_in-d.ensures).sender

pub overflow_add-self : goal.overflow_add-self
overflow_add-self c =
    let p = finds-part c.requires.finds _ c.frame_end-z.ensures in
    let k = countable-at c.requires _ p.same (rw p.same p.checked) c.take_in-d.ensures in
    record { fits = omega (arith, k.count) }

pub bounds-self-d-2 : goal.bounds-self-d-2
bounds-self-d-2 c =
    let p = finds-part c.requires.finds _ c.frame_end-z.ensures in
    (countable-at c.requires _ p.same (rw p.same p.checked) c.take_in-d.ensures).sender

pub overflow_sub-self : goal.overflow_sub-self
overflow_sub-self c =
    let p = finds-part c.requires.finds _ c.frame_end-z.ensures in
    let k = countable-at c.requires _ p.same (rw p.same p.checked) c.take_in-d.ensures in
    omega (arith, k.held)

pub returns-clause-sender : goal.returns-clause-sender
returns-clause-sender c =
    let p = finds-part c.requires.finds _ c.frame_end-z.ensures in
    (countable-at c.requires _ p.same (rw p.same p.checked) c.take_in-d.ensures).sender

pub returns-clause-taken : goal.returns-clause-taken
returns-clause-taken c =
    let p = finds-part c.requires.finds _ c.frame_end-z.ensures in
    let k = countable-at c.requires _ p.same (rw p.same p.checked) c.take_in-d.ensures in
    let a = c.args in
    λ f. deliver-leaves a.self.now a.queue.now a.out.now a.body.now _ f.found _ _ _ _ _ _ p.same c.take_in-d.ensures (search rules) k.sender
    c.remove.ensures
    ∙ deliver-accepted a.self.now a.queue.now a.out.now a.body.now f.passes
