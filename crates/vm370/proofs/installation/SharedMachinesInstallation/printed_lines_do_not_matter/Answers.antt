use Rattle.vm370.proofs.Restored.{goes_on}
use Rattle.vm370.proofs.installation.SharedMachinesInstallation.printed_lines_do_not_matter.Goals as goal

pub returns : goal.returns
returns c = goes_on c.printed_lines_do_not_matter.ensures
