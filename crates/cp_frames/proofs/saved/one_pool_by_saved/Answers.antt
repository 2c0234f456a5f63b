use Rattle.cp_frames.proofs.PoolCodes.{one_pool}
use Rattle.cp_frames.proofs.saved.one_pool_by_saved.Goals as goal

pub returns : goal.returns
returns c = one_pool
