use Rattle.sessions.proofs.Joined.{join, nothing, session}
use Rattle.sessions.proofs.follow.parts_are_a_session.Goals as goal

pub returns-clause-nothing : goal.returns-clause-nothing
returns-clause-nothing g c = nothing g.I.Installation.goes c.printed_lines_do_not_matter.ensures

pub returns-clause-join : goal.returns-clause-join
returns-clause-join g c = join c.reads_grammar.ensures g.I.Installation.goes c.printed_lines_do_not_matter.ensures

pub returns-clause-session : goal.returns-clause-session
returns-clause-session g c = session g.I.Installation.goes c.printed_lines_do_not_matter.ensures
