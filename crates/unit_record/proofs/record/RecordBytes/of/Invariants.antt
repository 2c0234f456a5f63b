use Rattle.std.proofs.Common.{◌≡◌, take}
use Rattle.unit_record.proofs.record.RecordBytes.of.Given as goal

abbrev pub invariant-loop-byte : goal.invariant-loop-byte
invariant-loop-byte l = l.made ≡ take l.byte-index l.bytes
