use Rattle.std.proofs.Common.{arith, []}
use Rattle.std.proofs.lemmas.Grind.{common_steps}
use Rattle.saved_bytes.proofs.Codes.{each_on}
use Rattle.ckd_volume.specs.Front.{no_track}
use Rattle.ckd_saved.specs.Saved.{track_bytes}
use Rattle.ckd_saved.proofs.write.put_cylinder.Goals as goal

pub loop-head-preserved : goal.loop-head-preserved
loop-head-preserved c =
    grind (
      arith,
      common_steps,
      each_on track_bytes c.loop-head.out.items c.args.cylinder.now c.loop-head.head no_track
          (omega arith),
    )
