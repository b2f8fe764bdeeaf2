-- The user frame, the cleared column and the trim. Assumes nothing.
use native.Mathlib.Omega.{arith}
use Rattle.node.proofs.Sending.{cleared-limit, frame-room, receiver-small, send-leaves, sendable, sender-small}
use Rattle.node.proofs.Node.issue.Goals as goal

pub overflow_cast-a : goal.overflow_cast-a
overflow_cast-a c = record { fits = omega (arith, receiver-small (sendable _ _ _ _ _ c.requires.passes)) }

pub user-at-requires : goal.user-at-requires
user-at-requires c =
    let k = sendable _ _ _ _ _ c.requires.passes in
    (omega (arith, frame-room k, k.short, k.long), omega (arith, k.short))

pub clear_column-requires : goal.clear_column-requires
clear_column-requires c =
    let k = sendable _ _ _ _ _ c.requires.passes in
    (sender-small k, receiver-small k, omega (arith, k.below c.args.to (receiver-small k)))

pub trim-t-requires : goal.trim-t-requires
trim-t-requires c =
    let k = sendable _ _ _ _ _ c.requires.passes in (
      sender-small k,
      omega (arith, frame-room k, c.user-at.ensures.0, c.user-at.auto.out, k.short, k.long),
      cleared-limit c.args.self.now c.args.to _ (sender-small k) (receiver-small k) k.sound.limit (k.below c.args.to (receiver-small k))
          c.clear_column.ensures,
    )

pub returns : goal.returns
returns c =
    let k = sendable _ _ _ _ _ c.requires.passes in
    let a = c.args in
    send-leaves a.self.now a.to a.body.now a.out.now (sender-small k) (receiver-small k)
    _ _ _ _ _ _ _ c.user-at.ensures.1 c.user-at.ensures.0 c.clear_column.ensures c.trim-t.ensures
