use Rattle.cp_core.proofs.SystemCodes.{one_system}
use Rattle.cp_core.proofs.saved.one_by_saved.Goals as goal

pub returns : goal.returns
returns c = one_system
