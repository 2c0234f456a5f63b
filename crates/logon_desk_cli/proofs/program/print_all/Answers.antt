use Rattle.std.proofs.Common.{arith}
use Rattle.std.proofs.lemmas.Grind.{common_steps}
use Rattle.logon_desk_cli.proofs.Writing.{printed-take}
use Rattle.logon_desk_cli.proofs.program.print_all.Goals as goal

pub loop-output-preserved : goal.loop-output-preserved
loop-output-preserved c =
    grind (arith, common_steps, printed-take c.args.outputs.now c.loop-output.output-index c.output-item.result)
