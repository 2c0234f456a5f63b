use Rattle.std.proofs.Common.{sym}
use Rattle.sessions.proofs.Whole.{whole}
use Rattle.sessions.proofs.follow.read_part.Goals as goal

pub returns-in-None-clause-whole : goal.returns-in-None-clause-whole
returns-in-None-clause-whole g c = whole c.args.text.now (sym c.in-None.ensures)
