use Rattle.std.proofs.Common.{◌≡◌, ◌++◌, drop}
use Rattle.user_names.specs.Users.{name_of}
use Rattle.sessions.specs.Installed.{names_of, user_at}
use Rattle.sessions.specs.Transcript.{ended, queue_lines}
use Rattle.sessions.proofs.transcript.append_decks.Given as goal

-- with the lines of the decks that are left, all lines are there
abbrev pub invariant-loop-index : goal.invariant-loop-index
invariant-loop-index g l =
    let seen = g.I.Installation.goes.seen l.installation in
    let names = names_of seen in
    let reported = queue_lines names (name_of names l.user) in
    let decks = (user_at seen l.user).devices.reader.decks in
    l.out.items ++ ended (reported (drop l.index decks)) ≡ l.fn.out.items ++ ended (reported decks)
