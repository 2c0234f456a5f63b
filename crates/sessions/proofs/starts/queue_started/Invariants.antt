use Rattle.std.proofs.Common.{◌≡◌, drop}
use Rattle.sessions.specs.Schedule.{joined}
use Rattle.sessions.proofs.starts.queue_started.Given as goal

-- with those that are left, all have joined
abbrev pub invariant-loop-d : goal.invariant-loop-d
invariant-loop-d l = record {
  joins : record l.policy { programs = joined l.user (drop l.d-index l.started) l.policy.programs }
      ≡ record l.fn.policy { programs = joined l.user l.started l.fn.policy.programs };
  rest : l.policy ≡ record l.fn.policy { programs = l.policy.programs };
}
