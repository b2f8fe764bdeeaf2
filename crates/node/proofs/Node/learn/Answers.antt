-- An extra frame, or merge and trim. Assumes nothing.
use native.Mathlib.Omega.{arith}
use borrow.Author.Rules.{rules}
use Rattle.frame.specs.Frame.{decode}
use Rattle.node.proofs.Taking.{learn-extra, learn-user, merged-limit}
use Rattle.node.proofs.Node.learn.Goals as goal

pub returns-in-Extra : goal.returns-in-Extra
returns-in-Extra c = rw c.in-Extra.is (learn-extra c.args.self.now c.args.out.now (decode c.args.s.now).entries (search rules))

pub merge-requires : goal.merge-requires
merge-requires c = (c.requires.0, c.requires.3)

pub trim-requires : goal.trim-requires
trim-requires c = (
  c.requires.1,
  omega (arith, c.requires.2),
  merged-limit c.args.s.now c.args.self.now.me c.args.self.now.m _ c.requires.0 c.requires.3 c.merge.ensures,
)

pub returns-in-User : goal.returns-in-User
returns-in-User c =
    rw c.in-User.is (learn-user c.args.s.now c.args.self.now _ _ c.args.out.now _ _ _ c.requires.0 c.merge.ensures c.trim.ensures)
