use Rattle.std.proofs.Common.{refl}
use Rattle.cp_core.specs.Lending.{disks_of}
use Rattle.cp_volumes.specs.Keeping.{neighbours_same}
use Rattle.cp_core.proofs.work.WithdrawalUserOp.work.Goals as goal

pub returns-clause-lent : goal.returns-clause-lent
returns-clause-lent c = record {
  same_machine = refl;
  same_devices = refl;
  same_queues = refl;
  same_volumes = refl;
  same_minidisks = refl;
  same_reuse = refl;
  other_users = c.purge.ensures.other_users;
  other_disks = neighbours_same (disks_of c.args.lent.now);
}
