use Rattle.sessions.proofs.Restored.{restored}
use Rattle.sessions.proofs.Runs.{goes_on, runs_are_a_session}
use Rattle.sessions.proofs.laws.restored_sessions_go_on.Goals as goal

pub returns-clause-restored : goal.returns-clause-restored
returns-clause-restored g c = restored g.I.Installation.goes c.one_by_saved.ensures.base c.one_by_saved.ensures.saved

pub returns-clause-join : goal.returns-clause-join
returns-clause-join g c = goes_on g.I.Installation.goes c.printed_lines_do_not_matter.ensures c.reads_grammar.ensures

pub returns-clause-runs : goal.returns-clause-runs
returns-clause-runs g c =
    let law = c.one_by_saved.ensures in
    runs_are_a_session g.I.Installation.goes c.printed_lines_do_not_matter.ensures law.base c.reads_grammar.ensures
    law.saved
