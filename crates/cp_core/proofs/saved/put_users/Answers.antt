use Rattle.std.proofs.Common.{arith}
use Rattle.std.proofs.lemmas.Grind.{common_steps}
use Rattle.saved_bytes.proofs.Codes.{each_on}
use Rattle.cp_core.specs.Saved.{seat_bytes}
use Rattle.cp_core.proofs.saved.put_users.Goals as goal

pub loop-user-preserved : goal.loop-user-preserved
loop-user-preserved c =
    grind (
      arith,
      common_steps,
      each_on (seat_bytes c.args.queues.now) c.loop-user.out.items c.args.users.now c.loop-user.user-index
          c.user-item.result c.loop-user-test.true,
    )
