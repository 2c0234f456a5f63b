use Rattle.std.proofs.Common.{◌≡◌, ◌++◌, drop}
use Rattle.saved_bytes.specs.Codes.{each}
use Rattle.ckd_saved.specs.Saved.{record_bytes}
use Rattle.ckd_saved.proofs.write.put_records.Given as goal

abbrev pub invariant-loop-index : goal.invariant-loop-index
invariant-loop-index l = l.out.items ++ each record_bytes (drop l.index l.track.records) ≡ l.fn.out.items ++ each
    record_bytes l.track.records
