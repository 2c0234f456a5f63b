use Rattle.std.proofs.Common.{◌≡◌, drop}
use Rattle.logon_desk_cli.specs.Read.{number_from}
use Rattle.logon_desk_cli.proofs.frame.number_of.Given as goal

abbrev pub invariant-loop-digit : goal.invariant-loop-digit
invariant-loop-digit l = number_from 0 l.digits ≡ number_from l.number (drop l.digit-index l.digits)
