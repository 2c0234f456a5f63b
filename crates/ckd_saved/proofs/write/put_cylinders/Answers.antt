use Rattle.std.proofs.Common.{arith, []}
use Rattle.std.proofs.lemmas.Grind.{common_steps}
use Rattle.saved_bytes.proofs.Codes.{each_on}
use Rattle.ckd_saved.specs.Saved.{cylinder_bytes}
use Rattle.ckd_saved.proofs.write.put_cylinders.Goals as goal

pub loop-index-preserved : goal.loop-index-preserved
loop-index-preserved c =
    grind (
      arith,
      common_steps,
      each_on cylinder_bytes c.loop-index.out.items c.args.volume.now.cylinders
          c.loop-index.index [] (omega arith),
    )
