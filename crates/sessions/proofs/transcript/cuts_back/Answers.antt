use Rattle.sessions.proofs.Endings.{cuts_back}
use Rattle.sessions.proofs.transcript.cuts_back.Goals as goal

pub returns : goal.returns
returns c = cuts_back
