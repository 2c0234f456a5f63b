use Rattle.cp_core.proofs.Histories.{history}
use Rattle.cp_core.proofs.system.each_is_bare.Goals as goal

pub returns : goal.returns
returns c = history
