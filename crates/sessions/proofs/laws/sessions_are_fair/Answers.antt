use Rattle.sessions.proofs.Fair.{serves_are_fair, slices_are_fair}
use Rattle.sessions.proofs.laws.sessions_are_fair.Goals as goal

pub returns-clause-slices : goal.returns-clause-slices
returns-clause-slices g c = slices_are_fair c.is_fair.ensures g.I.Installation.goes

pub returns-clause-serves : goal.returns-clause-serves
returns-clause-serves g c = serves_are_fair c.is_fair.ensures g.I.Installation.goes
