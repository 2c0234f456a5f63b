use Rattle.bare_installation.proofs.Forgotten.{events_go_on}
use Rattle.bare_installation.proofs.forgetting.printed_lines_do_not_matter.Goals as goal

pub returns : goal.returns
returns c = events_go_on
