use Rattle.machine_panel.proofs.Forgotten.{do_not_matter}
use Rattle.machine_panel.proofs.laws.printed_lines_do_not_matter.Goals as goal

pub returns : goal.returns
returns c = do_not_matter
