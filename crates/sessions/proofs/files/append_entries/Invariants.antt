use Rattle.std.proofs.Common.{◌≡◌, ◌++◌, drop, map}
use Rattle.sessions.specs.Files.{marked_entry}
use Rattle.sessions.specs.Transcript.{ended}
use Rattle.sessions.proofs.files.append_entries.Given as goal

-- with the lines of the entries that are left, all lines are there
abbrev pub invariant-loop-entry : goal.invariant-loop-entry
invariant-loop-entry l = l.out.items
    ++ ended (map (marked_entry l.telling l.kind) (drop l.entry-index l.entries)) ≡ l.fn.out.items
    ++ ended (map (marked_entry l.telling l.kind) l.entries)
