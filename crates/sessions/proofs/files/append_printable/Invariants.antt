use Rattle.std.proofs.Common.{◌≡◌, ◌++◌, drop}
use Rattle.sessions.specs.Files.{printed_text}
use Rattle.sessions.proofs.files.append_printable.Given as goal

-- with those that are left, all are there
abbrev pub invariant-loop-byte : goal.invariant-loop-byte
invariant-loop-byte l = l.out.items ++ printed_text (drop l.byte-index l.bytes) ≡ l.fn.out.items ++ printed_text l.bytes
