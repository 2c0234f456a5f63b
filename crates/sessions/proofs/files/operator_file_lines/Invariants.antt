use Rattle.std.proofs.Common.{◌≡◌, ◌++◌, ◌+◌, drop}
use Rattle.sessions.specs.Files.{lines_from, lines_since}
use Rattle.sessions.specs.Transcript.{ended}
use Rattle.sessions.proofs.files.operator_file_lines.Given as goal

-- with the lines of the files that are left, all lines are there
abbrev pub invariant-loop-place : goal.invariant-loop-place
invariant-loop-place g l =
    let seen = g.I.Installation.goes.seen l.installation in
    l.text.items ++ ended (lines_from l.telling seen (l.place + 1) (drop l.place seen.files))
    ≡ ended (lines_since l.telling l.since seen)
