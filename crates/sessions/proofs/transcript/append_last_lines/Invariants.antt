use Rattle.std.proofs.Common.{◌≡◌, ◌++◌, drop, map}
use Rattle.user_names.specs.Users.{name_of}
use Rattle.sessions.specs.Installed.{machine_at, names_of}
use Rattle.sessions.specs.Transcript.{ended, last_lines, told_line}
use Rattle.sessions.proofs.transcript.append_last_lines.Given as goal

-- with the lines that are left, all lines are there
abbrev pub invariant-loop-index : goal.invariant-loop-index
invariant-loop-index g l =
    let seen = g.I.Installation.goes.seen l.installation in
    let reported = told_line (name_of (names_of seen) l.user) in
    let output = (machine_at seen l.user).output in
    l.out.items ++ ended (map reported (drop l.index output)) ≡ l.fn.out.items
    ++ ended (map reported (last_lines l.count output))
