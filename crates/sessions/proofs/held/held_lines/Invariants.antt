use Rattle.std.proofs.Common.{◌≡◌}
use Rattle.sessions.specs.Held.{holds_lines}
use Rattle.sessions.specs.Transcript.{ended}
use Rattle.sessions.proofs.held.held_lines.Given as goal

abbrev pub invariant-loop-number : goal.invariant-loop-number
invariant-loop-number g l =
    l.text.items ≡ ended (holds_lines (g.I.Installation.goes.seen l.installation) l.number)
