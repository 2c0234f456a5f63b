use Rattle.std.proofs.Common.{◌≡◌, ◌++◌, take}
use Rattle.logon_desk_cli.specs.Answered.{read_lines}
use Rattle.logon_desk_cli.proofs.program.print_read.Given as goal

abbrev pub invariant-loop-place : goal.invariant-loop-place
invariant-loop-place l = l.text ≡ l.fn.text ++ read_lines l.desk (take l.place-index l.reading)
