use Rattle.std.proofs.Common.{◌≡◌}
use Rattle.cp_dispatch.proofs.policy.Policy.read.Given as goal

abbrev pub invariant-users : goal.invariant-users
invariant-users l = l.policy.most_users ≡ l.fn.users

abbrev pub invariant-programs : goal.invariant-programs
invariant-programs l = l.policy.most_users ≡ l.fn.users
