use Rattle.bare370.proofs.Stated.{histories}
use Rattle.bare370.proofs.laws.sessions_are_histories.Goals as goal

pub returns : goal.returns
returns c = histories
