use Rattle.std.proofs.Common.{◌≡◌, ◌++◌, drop}
use Rattle.saved_bytes.specs.Codes.{each, number}
use Rattle.cp_dispatch.proofs.saved.put_users.Given as goal

abbrev pub invariant-loop-user : goal.invariant-loop-user
invariant-loop-user l = l.out.items ++ each number (drop l.user-index l.users) ≡ l.fn.out.items ++ each number l.users
