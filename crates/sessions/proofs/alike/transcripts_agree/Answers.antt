use Rattle.sessions.proofs.SameLines.{agree}
use Rattle.sessions.proofs.alike.transcripts_agree.Goals as goal

pub returns : goal.returns
returns g c = agree g.I.Installation.goes g.J.Installation.goes
