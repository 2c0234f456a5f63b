use Rattle.std.proofs.Common.{◌≡◌, ◌++◌, drop, map}
use Rattle.sessions.specs.News.{changed_lines}
use Rattle.sessions.specs.Transcript.{ended}
use Rattle.sessions.proofs.news.mode_change_lines.Given as goal

-- with the lines that are left, all lines are there
abbrev pub invariant-loop-place : goal.invariant-loop-place
invariant-loop-place l =
    let names = map (λ name. name.items) l.names in
    l.text.items ++ ended (changed_lines (drop l.place names) (drop l.place l.olds) (drop l.place l.news))
    ≡ ended (changed_lines names l.olds l.news)
