use Rattle.std.proofs.Common.{arith}
use Rattle.std.proofs.lemmas.Grind.{common_steps}
use Rattle.saved_bytes.specs.Codes.{bytes}
use Rattle.saved_bytes.proofs.Codes.{each_on}
use Rattle.unit_record.proofs.saved.put_records.Goals as goal

pub loop-line-preserved : goal.loop-line-preserved
loop-line-preserved c =
    grind (
      arith,
      common_steps,
      each_on bytes c.loop-line.out.items c.args.records.now c.loop-line.line-index c.line-item.result
          c.loop-line-test.true,
    )
