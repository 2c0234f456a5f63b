use Rattle.std.proofs.Common.{arith}
use Rattle.std.proofs.lemmas.Grind.{common_steps}
use Rattle.saved_bytes.proofs.Codes.{each_on}
use Rattle.cp_dispatch.specs.Saved.{program_bytes}
use Rattle.cp_dispatch.proofs.saved.put_programs.Goals as goal

pub loop-program-preserved : goal.loop-program-preserved
loop-program-preserved c =
    grind (
      arith,
      common_steps,
      each_on program_bytes c.loop-program.out.items c.args.programs.now
          c.loop-program.program-index c.program-item.result c.loop-program-test.true,
    )
