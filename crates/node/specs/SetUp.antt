-- Set-up: a fresh record for the me, n and cap given to it, or refusal 1 with the all-zero record.
use Rattle.std.specs.Prelude.{ℕ, cond, replicate}
use Rattle.node.specs.declared.Node.{Node as Record}
use Rattle.node.specs.Answers.{SetUp}
use Rattle.node.specs.SetUpAnswer.{Refused, Ready}
use Rattle.rules.specs.Rules.{in_range}

-- all zero but for me, n and cap
abbrev pub fresh_record : ℕ → ℕ → ℕ → Record
fresh_record me n cap = record { me = me; n = n; cap = cap; m = replicate 144 0; deliv = replicate 12 0; held = 0 }

-- 1. n, me or cap is out of range.
unfoldable pub set_up : ℕ → ℕ → ℕ → SetUp
set_up me n cap =
    cond (in_range me n cap) (record { answer = Ready; node = fresh_record me n cap }) (record { answer = Refused 1; node = fresh_record 0 0 0 })
