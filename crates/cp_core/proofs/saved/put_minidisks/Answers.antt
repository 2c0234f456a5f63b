use Rattle.std.proofs.Common.{arith}
use Rattle.std.proofs.lemmas.Grind.{common_steps}
use Rattle.saved_bytes.proofs.Codes.{each_on}
use Rattle.cp_volumes.specs.Saved.{disk_bytes}
use Rattle.cp_core.proofs.saved.put_minidisks.Goals as goal

pub loop-disk-preserved : goal.loop-disk-preserved
loop-disk-preserved c =
    grind (
      arith,
      common_steps,
      each_on disk_bytes c.loop-disk.out.items c.args.minidisks.now c.loop-disk.disk-index c.disk-item.result
          c.loop-disk-test.true,
    )
