use Rattle.std.proofs.Common.{◌≡◌, map, take}
use Rattle.sessions.specs.Installed.{names_of}
use Rattle.sessions.proofs.transcript.names.Given as goal

abbrev pub invariant-loop-number : goal.invariant-loop-number
invariant-loop-number g l =
    map (λ name. name.items) l.names.items ≡ take l.number (names_of (g.I.Installation.goes.seen l.installation))
