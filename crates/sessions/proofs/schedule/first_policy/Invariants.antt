use Rattle.std.proofs.Common.{◌≡◌, length}
use Rattle.sessions.specs.Schedule.{first_line, first_queue}
use Rattle.sessions.proofs.schedule.first_policy.Given as goal

abbrev pub invariant-loop-number : goal.invariant-loop-number
invariant-loop-number g l =
    let seen = g.I.Installation.goes.seen l.installation in
    record {
      users : l.policy.users ≡ first_queue seen l.number;
      programs : l.policy.programs ≡ first_line seen l.number;
      seats : l.policy.most_users ≡ length seen.users;
    }
