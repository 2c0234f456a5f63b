use Rattle.cp_core.proofs.Forgotten.{steps_go_on}
use Rattle.cp_core.proofs.forgetting.printed_lines_do_not_matter.Goals as goal

pub returns : goal.returns
returns c = steps_go_on
