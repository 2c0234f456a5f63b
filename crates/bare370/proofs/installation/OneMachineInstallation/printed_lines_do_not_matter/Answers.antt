use Rattle.bare370.proofs.Forgotten.{goes_on}
use Rattle.bare370.proofs.installation.OneMachineInstallation.printed_lines_do_not_matter.Goals as goal

pub returns : goal.returns
returns c = goes_on c.printed_lines_do_not_matter.ensures
