use Rattle.cp_dispatch.proofs.LineCodes.{one_policy}
use Rattle.cp_dispatch.proofs.saved.one_by_saved.Goals as goal

pub returns : goal.returns
returns c = one_policy
