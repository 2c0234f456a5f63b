use Rattle.cp_ccw.proofs.Lending.{lent}
use Rattle.cp_ccw.proofs.laws.real_storage_is_mapped.Goals as goal

pub returns : goal.returns
returns c = λ storage keys area owners user small few. lent storage keys area owners user small few
