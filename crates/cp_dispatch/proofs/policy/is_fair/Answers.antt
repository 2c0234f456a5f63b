use Rattle.cp_dispatch.specs.Policy.{same_program, same_user}
use Rattle.cp_dispatch.proofs.Fair.{fair, gives_each}
use Rattle.cp_dispatch.proofs.policy.is_fair.Goals as goal

pub returns : goal.returns
returns c = record { slices = fair same_user; rounds = gives_each same_user; serves = fair same_program }
