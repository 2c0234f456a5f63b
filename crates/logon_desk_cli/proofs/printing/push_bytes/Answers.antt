use Rattle.std.proofs.Common.{arith}
use Rattle.std.proofs.lemmas.Grind.{common_steps}
use Rattle.logon_desk_cli.proofs.Hex.{field-both}
use Rattle.logon_desk_cli.proofs.printing.push_bytes.Goals as goal

pub returns : goal.returns
returns c = grind (arith, common_steps, field-both c.args.bytes.now c.args.end.now)
