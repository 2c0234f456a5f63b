use Rattle.std.proofs.Common.{◌≡◌, ◌∙◌, ap, rules}
use Rattle.std.specs.List.{list_any, position}
use Rattle.std.specs.Option.{is_some}
use Rattle.sessions.specs.Schedule.{ready_in}
use Rattle.sessions.proofs.Queues.{some_placed}
use Rattle.sessions.proofs.follow.Follower.is_idle.Goals as goal

pub returns-then-is_empty : goal.returns-then-is_empty
returns-then-is_empty g c =
    let seen = g.I.Installation.goes.seen c.self.inside.installation in
    let users = c.self.inside.policy.users in
    let some : is_some c.first_ready.result ≡ list_any (ready_in seen) users =
    some_placed (ready_in seen) users c.first_ready.result
    (c.first_ready.ensures.place ∙ ap (position (ready_in seen)) c.users.ensures) in
    search rules
