use Rattle.std.proofs.Common.{arith}
use Rattle.std.proofs.lemmas.Grind.{common_steps}
use Rattle.logon_desk_cli.proofs.Hex.{hex-take}
use Rattle.logon_desk_cli.proofs.printing.push_all.Goals as goal

pub loop-byte-preserved : goal.loop-byte-preserved
loop-byte-preserved c = grind (arith, common_steps, hex-take)
