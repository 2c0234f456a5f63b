use Rattle.vm370.proofs.Restored.{of_one_base}
use Rattle.vm370.proofs.laws.boots_are_of_one_base.Goals as goal

pub returns : goal.returns
returns c = of_one_base
