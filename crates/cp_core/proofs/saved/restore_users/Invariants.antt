use Rattle.std.proofs.Common.{◌≡◌, length, map}
use Rattle.cp_core.specs.Saved.{base_of}
use Rattle.cp_core.proofs.saved.restore_users.Given as goal

abbrev pub invariant-loop-user : goal.invariant-loop-user
invariant-loop-user l = record {
  bases : map base_of l.users ≡ map base_of l.initial.users;
  queues : length l.queues.users ≡ length l.fn.queues.users;
}
