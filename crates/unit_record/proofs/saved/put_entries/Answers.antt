use Rattle.std.proofs.Common.{arith}
use Rattle.std.proofs.lemmas.Grind.{common_steps}
use Rattle.saved_bytes.proofs.Codes.{each_on}
use Rattle.unit_record.specs.Saved.{entry_bytes}
use Rattle.unit_record.proofs.saved.put_entries.Goals as goal

pub loop-entry-preserved : goal.loop-entry-preserved
loop-entry-preserved c =
    grind (
      arith,
      common_steps,
      each_on entry_bytes c.loop-entry.out.items c.args.entries.now c.loop-entry.entry-index c.entry-item.result
          c.loop-entry-test.true,
    )
