use Rattle.std.proofs.Common.{◌≡◌, map, take}
use Rattle.sessions.proofs.news.modes.Given as goal

abbrev pub invariant-loop-number : goal.invariant-loop-number
invariant-loop-number g l =
    l.modes.items ≡ map (λ e. e.machine.mode) (take l.number (g.I.Installation.goes.seen l.installation).machines)
