use Rattle.std.proofs.Common.{◌≡◌, ◌++◌, drop, map, take}
use Rattle.cp_core.specs.Forgotten.{seat_unprinted}
use Rattle.cp_core.proofs.forgetting.forget_each.Given as goal

abbrev pub invariant-loop-user : goal.invariant-loop-user
invariant-loop-user l = l.users ≡ map seat_unprinted
    (take l.user-index l.initial.users) ++ drop l.user-index l.initial.users
