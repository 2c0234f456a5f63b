use Rattle.vm370.proofs.Restored.{base, one_system}
use Rattle.vm370.proofs.installation.SharedMachinesInstallation.one_by_saved.Goals as goal

pub returns-clause-base : goal.returns-clause-base
returns-clause-base c = base

pub returns-clause-saved : goal.returns-clause-saved
returns-clause-saved c = one_system c.one_by_saved.ensures
