use Rattle.std.proofs.Common.{sym, ◌∙◌}
use Rattle.vm370.proofs.Stated.{known_count}
use Rattle.vm370.proofs.installation.users_of.Goals as goal

pub returns-clause-value : goal.returns-clause-value
returns-clause-value c = c.users.ensures.directory ∙ sym (known_count c.args.system.now.directory)
