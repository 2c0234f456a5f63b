use Rattle.std.proofs.Common.{◌≡◌, ◌++◌, drop}
use Rattle.saved_bytes.specs.Codes.{each}
use Rattle.unit_record.specs.Saved.{entry_bytes}
use Rattle.unit_record.proofs.saved.put_entries.Given as goal

abbrev pub invariant-loop-entry : goal.invariant-loop-entry
invariant-loop-entry l = l.out.items ++ each entry_bytes (drop l.entry-index l.entries) ≡ l.fn.out.items
    ++ each entry_bytes l.entries
