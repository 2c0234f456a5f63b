use Rattle.std.proofs.Common.{◌≡◌, ◌++◌, take}
use Rattle.logon_desk_cli.specs.Printed.{hex}
use Rattle.logon_desk_cli.proofs.printing.push_all.Given as goal

abbrev pub invariant-loop-byte : goal.invariant-loop-byte
invariant-loop-byte l = l.text ≡ l.initial.text ++ hex (take l.byte-index l.bytes)
