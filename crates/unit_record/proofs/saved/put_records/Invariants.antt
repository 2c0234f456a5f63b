use Rattle.std.proofs.Common.{◌≡◌, ◌++◌, drop}
use Rattle.saved_bytes.specs.Codes.{bytes, each}
use Rattle.unit_record.proofs.saved.put_records.Given as goal

abbrev pub invariant-loop-line : goal.invariant-loop-line
invariant-loop-line l = l.out.items ++ each bytes (drop l.line-index l.records) ≡ l.fn.out.items ++ each bytes l.records
