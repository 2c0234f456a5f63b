use Rattle.std.proofs.Common.{◌≡◌, ◌≤◌, ◌+◌, drop}
use Rattle.sessions.specs.Follow.{unended_line}
use Rattle.sessions.proofs.Whole.{unended_from}
use Rattle.sessions.proofs.follow.unended.Given as goal

abbrev pub invariant-loop-byte : goal.invariant-loop-byte
invariant-loop-byte l = record {
  so_far : unended_line l.text ≡ unended_from l.line l.is_ended (drop l.byte-index l.text);
  few : l.line ≤ l.byte-index + 1;
}
