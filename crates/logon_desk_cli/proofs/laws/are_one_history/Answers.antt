use Rattle.logon_desk_cli.proofs.Running.{is-history}
use Rattle.logon_desk_cli.proofs.laws.are_one_history.Goals as goal

pub returns : goal.returns
returns c = is-history
