use Rattle.std.proofs.Common.{◌≡◌, drop}
use Rattle.sessions.specs.Schedule.{started_since, with_joining}
use Rattle.sessions.proofs.starts.started_since.Given as goal

-- with those that are left, all are there
abbrev pub invariant-loop-d : goal.invariant-loop-d
invariant-loop-d g l =
    let seen = g.I.Installation.goes.seen l.installation in
    with_joining seen l.user l.number l.started.items (drop l.d-index l.list) ≡ started_since seen l.user l.number
