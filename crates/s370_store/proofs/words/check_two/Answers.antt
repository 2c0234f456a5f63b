use Rattle.s370_store.proofs.Verdicts.{joined}
use Rattle.s370_store.proofs.words.check_two.Goals as goal

pub returns : goal.returns
returns g c = rw c.graver_fault.ensures (joined _ _ _ _ _ _ _ _ c.check-one.ensures c.check-other.ensures)
