use Rattle.std.proofs.Common.{sym, subst}
use Rattle.sessions.specs.Schedule.{IsOf}
use Rattle.sessions.proofs.Stated.{first_dealing}
use Rattle.sessions.proofs.follow.Follower.begin.Goals as goal

pub invariant_of-result : goal.invariant_of-result
invariant_of-result g c =
    let seen = g.I.Installation.goes.seen c.args.installation in
    subst (IsOf seen) (sym c.in_ok-policy.ensures) (first_dealing seen)
