use Rattle.std.proofs.Common.{◌≡◌, replicate}
use Rattle.logon_desk.specs.Connection.{gone}
use Rattle.logon_desk.proofs.desk.places_of.Given as goal

-- so many places are empty
abbrev pub invariant-loop : goal.invariant-loop
invariant-loop l = l.places.items ≡ replicate l.counter gone
