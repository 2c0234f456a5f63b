use Rattle.sessions.proofs.Queued.{begins, keeps, slices_reach_all}
use Rattle.sessions.proofs.laws.queue_has_who_is_on.Goals as goal

pub returns-clause-first : goal.returns-clause-first
returns-clause-first g c = begins

pub returns-clause-stays : goal.returns-clause-stays
returns-clause-stays g c = keeps g.I.Installation.goes c.events_turn_their_own.ensures.turns

pub returns-clause-slices : goal.returns-clause-slices
returns-clause-slices g c = slices_reach_all c.is_fair.ensures g.I.Installation.goes
