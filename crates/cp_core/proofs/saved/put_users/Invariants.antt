use Rattle.std.proofs.Common.{◌≡◌, ◌++◌, drop}
use Rattle.saved_bytes.specs.Codes.{each}
use Rattle.cp_core.specs.Saved.{seat_bytes}
use Rattle.cp_core.proofs.saved.put_users.Given as goal

abbrev pub invariant-loop-user : goal.invariant-loop-user
invariant-loop-user l = l.out.items ++ each (seat_bytes l.queues) (drop l.user-index l.users) ≡ l.fn.out.items
    ++ each (seat_bytes l.queues) l.users
