use Rattle.std.proofs.Common.{arith}
use Rattle.std.proofs.lemmas.Grind.{common_steps}
use Rattle.saved_bytes.specs.Codes.{optional}
use Rattle.saved_bytes.proofs.Codes.{each_on}
use Rattle.cp_frames.specs.Saved.{page_bytes}
use Rattle.cp_frames.proofs.saved.put_places.Goals as goal

pub loop-owner-preserved : goal.loop-owner-preserved
loop-owner-preserved c =
    grind (
      arith,
      common_steps,
      each_on (optional page_bytes) c.loop-owner.out.items c.args.owners.now c.loop-owner.owner-index
          c.owner-item.result c.loop-owner-test.true,
    )
