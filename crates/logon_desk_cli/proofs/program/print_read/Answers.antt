use Rattle.std.proofs.Common.{arith}
use Rattle.std.proofs.lemmas.Grind.{common_steps}
use Rattle.logon_desk_cli.proofs.Writing.{read-no, read-yes}
use Rattle.logon_desk_cli.proofs.program.print_read.Goals as goal

pub loop-place-preserved : goal.loop-place-preserved
loop-place-preserved c =
    grind (
      arith,
      common_steps,
      read-yes c.args.desk.now c.args.reading.now c.loop-place.place-index,
      read-no
          c.args.desk.now c.args.reading.now c.loop-place.place-index,
    )
