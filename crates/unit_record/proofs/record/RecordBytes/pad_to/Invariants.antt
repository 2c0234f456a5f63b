use Rattle.std.proofs.Common.{◌≡◌, ◌++◌, replicate}
use Rattle.unit_record.proofs.record.RecordBytes.pad_to.Given as goal

abbrev pub invariant-loop-added : goal.invariant-loop-added
invariant-loop-added l = l.self ≡ l.initial.self ++ replicate l._added l.byte
