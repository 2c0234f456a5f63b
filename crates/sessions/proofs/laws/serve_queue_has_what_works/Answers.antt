use Rattle.sessions.proofs.Served.{begins_with_work, keeps_work, serves_reach_all}
use Rattle.sessions.proofs.laws.serve_queue_has_what_works.Goals as goal

pub returns-clause-first : goal.returns-clause-first
returns-clause-first g c = begins_with_work

pub returns-clause-stays : goal.returns-clause-stays
returns-clause-stays g c = keeps_work g.I.Installation.goes c.events_turn_their_own.ensures.starts

pub returns-clause-serves : goal.returns-clause-serves
returns-clause-serves g c = serves_reach_all c.is_fair.ensures g.I.Installation.goes
