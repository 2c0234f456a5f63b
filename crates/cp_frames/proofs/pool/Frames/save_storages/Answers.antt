use Rattle.std.proofs.Common.{arith, []}
use Rattle.std.proofs.lemmas.Grind.{common_steps}
use Rattle.saved_bytes.proofs.Codes.{each_on}
use Rattle.cp_frames.specs.Saved.{storage_bytes}
use Rattle.cp_frames.proofs.pool.Frames.save_storages.Goals as goal

pub loop-user-preserved : goal.loop-user-preserved
loop-user-preserved c =
    grind (
      arith,
      common_steps,
      each_on storage_bytes c.loop-user.out.items c.args.self.now.storages c.loop-user.user [] (omega arith),
    )
