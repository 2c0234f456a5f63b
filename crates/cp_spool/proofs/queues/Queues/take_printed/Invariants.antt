use Rattle.std.proofs.Common.{◌≡◌, length}
use Rattle.cp_spool.proofs.queues.Queues.take_printed.Given as goal

abbrev pub invariant-loop : goal.invariant-loop
invariant-loop l = length l.self.users ≡ length l.fn.self.users
