use Rattle.std.proofs.Common.{◌≡◌, ◌++◌, take}
use Rattle.logon_desk_cli.specs.Printed.{printed}
use Rattle.logon_desk_cli.proofs.program.print_all.Given as goal

abbrev pub invariant-loop-output : goal.invariant-loop-output
invariant-loop-output l = l.text ≡ l.fn.text ++ printed (take l.output-index l.outputs)
