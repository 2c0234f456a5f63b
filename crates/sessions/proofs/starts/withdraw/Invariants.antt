use Rattle.std.proofs.Common.{◌≡◌, drop}
use Rattle.sessions.specs.Schedule.{withdrawn}
use Rattle.sessions.proofs.starts.withdraw.Given as goal

-- with those that are left, all are withdrawn
abbrev pub invariant-loop-d : goal.invariant-loop-d
invariant-loop-d l = record l.policy { programs = withdrawn l.user (drop l.d-index l.list) l.policy.programs }
    ≡ record l.fn.policy { programs = withdrawn l.user l.list l.fn.policy.programs }
