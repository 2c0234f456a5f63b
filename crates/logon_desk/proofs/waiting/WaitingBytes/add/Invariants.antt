use Rattle.std.proofs.Common.{◌≡◌, ◌++◌, take}
use Rattle.logon_desk.proofs.waiting.WaitingBytes.add.Given as goal

-- the bytes so far were added
abbrev pub invariant-loop-byte : goal.invariant-loop-byte
invariant-loop-byte l = l.self-inside.bytes.items ≡ l.fn.self ++ take l.byte-index l.bytes
