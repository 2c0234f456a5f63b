use Rattle.std.proofs.Common.{◌≡◌, map, take}
use Rattle.cp_core.specs.System.{reuses_in}
use Rattle.cp_core.proofs.system.reuses_of.Given as goal

abbrev pub invariant-loop-user : goal.invariant-loop-user
invariant-loop-user l = l.sum ≡ reuses_in (map (λ user. user.reuse) (take l.user-index l.users))
