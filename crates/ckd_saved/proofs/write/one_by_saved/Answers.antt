use Rattle.ckd_saved.proofs.VolumeCodes.{one_volume}
use Rattle.ckd_saved.proofs.write.one_by_saved.Goals as goal

pub returns : goal.returns
returns c = one_volume
