use Rattle.std.proofs.Common.{◌≡◌}
use Rattle.sessions.specs.Readers.{reader_lines}
use Rattle.sessions.specs.Transcript.{ended}
use Rattle.sessions.proofs.readers.reader_lines.Given as goal

abbrev pub invariant-loop-number : goal.invariant-loop-number
invariant-loop-number g l =
    l.text.items ≡ ended (reader_lines (g.I.Installation.goes.seen l.installation) l.number)
