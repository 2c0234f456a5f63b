use Rattle.std.proofs.Common.{arith, []}
use Rattle.std.proofs.lemmas.Grind.{common_steps}
use Rattle.saved_bytes.proofs.Codes.{each_on}
use Rattle.ckd_track.specs.Track.{no_record}
use Rattle.ckd_saved.specs.Saved.{record_bytes}
use Rattle.ckd_saved.proofs.write.put_records.Goals as goal

pub loop-index-preserved : goal.loop-index-preserved
loop-index-preserved c =
    grind (
      arith,
      common_steps,
      each_on record_bytes c.loop-index.out.items c.args.track.now.records c.loop-index.index
          no_record (omega arith),
    )
